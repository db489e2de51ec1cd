-- `memory::fresh::written` meets its contract. The checks decide; then the numbers in zeros are the fresh values. Assumes nothing.
use Prim.Native.Nat.{ℕ, ◌*◌}
use mathlib.Core.Path.{◌≡◌, refl, ap, ◌∙◌}
use mathlib.Core.List.{List}
use native.Mathlib.Omega.{arith}
use lib.ListN.{length, replicate}
use Rattle.values.specs.Words.{words, unwords}
use Rattle.boards.specs.Board.{cells_of}
use Rattle.boards.specs.Judge.{read_board}
use Rattle.boards.specs.Read.{parsed_of}
use Rattle.memory.specs.Memory.{fresh_values, passed}
use Rattle.memory.specs.Calls.{check_length, change_by, fresh_of}
use Rattle.memory.specs.Stages.{read_open, put_numbers}
use Rattle.memory.proofs.CallCells.{cells_in}
use Rattle.memory.proofs.CallFresh.{numbers_fresh, words_zeros}
use Rattle.memory.proofs.CallBy.{held_only, change_refused, change_done}
use Rattle.memory.proofs.fresh.written.Goals as goal

-- the call on the opened board, whose length is its only check
opens : (s m : List ℕ) → change_by m (λ p. check_length p m) fresh_values (read_board s) ≡ change_by m (λ p. passed) fresh_values (read_open s (length m))
opens s m = held_only (λ p. check_length p m) (λ a. (a, m)) (λ p. (passed, unwords (fresh_values p))) (read_board s)

pub returns-in_err-board : goal.returns-in_err-board
unfolding fresh_of
returns-in_err-board c =
    let m = c.args.memory.now in
    rw (opens c.args.s.now m)
    (change_refused m (λ p. passed) fresh_values (read_open c.args.s.now (length m)) _ _ c.from_residual.ensures.1 c.in_err-board.ensures)

pub put_numbers-requires : goal.put_numbers-requires
put_numbers-requires c =
    let opened = c.in_ok-board.ensures in
    rw c.listed.ensures (cells_in c.in_ok-board.board opened.fine c.fill.new.self (c.fill.ensures.len ∙ opened.long))

pub returns : goal.returns
unfolding fresh_of
returns c =
    let opened = c.in_ok-board.ensures in
    let stored = c.put_numbers in
    let m = c.args.memory.now in
    let p = parsed_of c.in_ok-board.board in
    let size : length m ≡ 4 * cells_of p.size p.nodes = opened.long ∙ ap (λ (v : ℕ). 4 * v) c.in_ok-board.board.sum in
    let zeros : words c.fill.new.self ≡ replicate (cells_of p.size p.nodes) 0 =
    ap words (c.fill.ensures.after (λ y e. e)) ∙ ap (λ (k : ℕ). words (replicate k 0)) size ∙ words_zeros (cells_of p.size p.nodes) in
    rw (opens c.args.s.now m)
    (change_done m (λ p. passed) fresh_values (read_open c.args.s.now (length m)) p opened.reading refl
    c.in_ok-board.board.values stored.new.memory (stored.auto.memory ∙ c.fill.ensures.len ∙ opened.long) (λ i. omega (arith, c.type_inv.memory i))
    (stored.ensures ∙ (λ i. put_numbers (c.listed.ensures i) (zeros i)) ∙ numbers_fresh p opened.fine))
