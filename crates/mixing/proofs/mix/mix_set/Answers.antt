-- `mixing::mix::mix_set` meets its contract. The checks decide; then the four numbers are set. Assumes nothing.
use Prim.Native.Nat.{ℕ}
use mathlib.Core.Path.{◌∙◌}
use mathlib.Core.List.{List}
use native.Mathlib.Omega.{arith}
use lib.Ieee.{Float}
use Rattle.values.specs.Words.{words}
use Rattle.records.specs.declared.answer.Answer.{Answer}
use Rattle.boards.specs.Board.{Parsed}
use Rattle.boards.specs.Read.{parsed_of}
use Rattle.memory.proofs.CallCells.{count_nodes}
use Rattle.memory.proofs.CallChecks.{checked_passed}
use Rattle.memory.proofs.CallBy.{judged_refused, judged_lacking, judged_done}
use Rattle.mixing.specs.Mix.{check_mix, set_mix, mix_of}
use Rattle.mixing.proofs.Mixing.{mix_told}
use Rattle.mixing.proofs.mix.mix_set.Goals as goal

-- the call by its own check and its change
abbrev own : Float → Parsed → Answer
own mix p = check_mix p mix

abbrev change : List ℕ → Float → Parsed → List ℕ
change m mix p = set_mix p mix (words m)

pub returns-in_err-board : goal.returns-in_err-board
unfolding mix_of
returns-in_err-board c =
    let a = c.args in
    judged_refused a.s.now a.memory.now (own a.mix) (change a.memory.now a.mix) _ _ c.from_residual.ensures.1 c.in_err-board.ensures

pub returns-in_err-mix_judged : goal.returns-in_err-mix_judged
unfolding mix_of
returns-in_err-mix_judged c =
    let a = c.args in
    judged_lacking a.s.now a.memory.now (own a.mix) (change a.memory.now a.mix)
    _ c.in_ok-board.ensures.reading _ _ c.from_residual-in_err-mix_judged.ensures.1 c.in_err-mix_judged.ensures

pub put_mix-requires : goal.put_mix-requires
put_mix-requires c =
    let judged = c.in_ok-board.ensures in
    let there = mix_told (parsed_of c.in_ok-board.board) c.args.mix (checked_passed _ c.in_ok-mix_judged.ensures) in
    record { fine = judged.fine; lt_count = omega (arith, there.right_dry.0, count_nodes c.in_ok-board.board); memory_len = judged.long }

pub returns : goal.returns
unfolding mix_of
returns c =
    let a = c.args in
    let judged = c.in_ok-board.ensures in
    let put = c.put_mix in
    judged_done a.s.now a.memory.now (own a.mix) (change a.memory.now a.mix) _ judged.reading c.in_ok-mix_judged.ensures
    c.in_ok-board.board.values put.new.memory (put.auto.memory ∙ judged.long) (λ i. omega (arith, c.type_inv.memory i)) put.ensures
