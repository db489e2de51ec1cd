-- `memory::message::number_set` meets its contract. The checks decide; then the number is set. Assumes nothing.
use Prim.Native.Nat.{ℕ}
use mathlib.Core.Path.{◌∙◌}
use mathlib.Core.List.{List}
use native.Mathlib.Omega.{arith}
use lib.Ieee.{Float}
use Rattle.values.specs.Words.{words}
use Rattle.records.specs.declared.answer.Answer.{Answer}
use Rattle.boards.specs.Board.{Parsed}
use Rattle.boards.specs.Read.{parsed_of}
use Rattle.memory.specs.Calls.{check_number, put_number, message_of}
use Rattle.memory.proofs.CallCells.{count_nodes}
use Rattle.memory.proofs.CallChecks.{checked_passed}
use Rattle.memory.proofs.CallMessage.{number_told}
use Rattle.memory.proofs.CallBy.{judged_refused, judged_lacking, judged_done}
use Rattle.memory.proofs.message.number_set.Goals as goal

-- the call by its own check and its change
abbrev own : ℕ → Float → Parsed → Answer
own k x p = check_number p k x

abbrev change : List ℕ → ℕ → Float → Parsed → List ℕ
change m k x p = put_number p k x (words m)

pub returns-in_err-board : goal.returns-in_err-board
unfolding message_of
returns-in_err-board c =
    let a = c.args in
    judged_refused a.s.now a.memory.now (own a.node a.value) (change a.memory.now a.node a.value) _ _ c.from_residual.ensures.1 c.in_err-board.ensures

pub returns-in_err-number_judged : goal.returns-in_err-number_judged
unfolding message_of
returns-in_err-number_judged c =
    let a = c.args in
    judged_lacking a.s.now a.memory.now (own a.node a.value) (change a.memory.now a.node a.value)
    _ c.in_ok-board.ensures.reading _ _ c.from_residual-in_err-number_judged.ensures.1 c.in_err-number_judged.ensures

pub put_number-requires : goal.put_number-requires
put_number-requires c =
    let judged = c.in_ok-board.ensures in
    let there = number_told (parsed_of c.in_ok-board.board) c.args.node c.args.value (checked_passed _ c.in_ok-number_judged.ensures) in
    record { fine = judged.fine; k_lt_count = omega (arith, there.0, count_nodes c.in_ok-board.board); memory_len = judged.long }

pub returns : goal.returns
unfolding message_of
returns c =
    let a = c.args in
    let judged = c.in_ok-board.ensures in
    let put = c.put_number in
    judged_done a.s.now a.memory.now (own a.node a.value) (change a.memory.now a.node a.value) _ judged.reading c.in_ok-number_judged.ensures
    c.in_ok-board.board.values put.new.memory (put.auto.memory ∙ judged.long) (λ i. omega (arith, c.type_inv.memory i)) put.ensures
