-- `packed::block24::converted` meets its contract: the words are taken, the float block runs, and its outputs are given as words.
-- Assumes nothing.
use mathlib.Core.Path.{sym, ◌∙◌}
use native.Mathlib.Omega.{arith}
use Rattle.boards.proofs.Answers.{residual_is}
use Rattle.memory.specs.Memory.{passed}
use Rattle.context.specs.Block.{as_left}
use Rattle.packed.proofs.Joined.{packed_ran, packed_refused}
use Rattle.packed.proofs.block24.converted.Goals as goal

pub returns-in_err-checked : goal.returns-in_err-checked
returns-in_err-checked c =
    let pre = c.requires in
    rw (residual_is _ _ c.from_residual.ensures.1)
    (packed_refused _ _ _ _ _ _ _ _ (λ i. omega (arith, c.type_inv.s i)) (λ i. omega (arith, c.type_inv.input i)) pre.fits.said (pre.fits.input, pre.fits.left, pre.fits.right)
    (pre.floats_len.1 ∙ pre.floats_len.0, pre.floats_len.2 ∙ pre.floats_len.0) _ _ c.take_words.ensures c.block.ensures _ (sym c.in_err-checked.was ∙ c.checked.ensures))

pub give_words-requires-2 : goal.give_words-requires-2
give_words-requires-2 c =
    let pre = c.requires in
    (omega (arith, c.block.auto.out1, pre.floats_len.0, pre.floats_len.2, pre.fits.few), omega (arith, c.block.auto.out1, pre.floats_len.0, pre.floats_len.2, pre.fits.right))

pub returns : goal.returns
returns c =
    let pre = c.requires in
    (λ i. as_left passed c.block.new.memory (c.give_words.ensures i) (c.give_words-2.ensures i))
    ∙ packed_ran _ _ _ _ _ _ _ _ (λ i. omega (arith, c.type_inv.s i)) (λ i. omega (arith, c.type_inv.input i)) pre.fits.said (pre.fits.input, pre.fits.left, pre.fits.right)
    (pre.floats_len.1 ∙ pre.floats_len.0, pre.floats_len.2 ∙ pre.floats_len.0) _ _ c.take_words.ensures c.block.ensures (sym c.in_ok-checked.was ∙ c.checked.ensures)
