-- `effects::delayn::delay` meets its contract: the stretches so far are the samples so far. Assumes nothing.
use native.Mathlib.Omega.{arith}
use lib.Ieee.{nan}
use Rattle.effects.proofs.Rings.{delay_ring, stretch_less, going_none, going_then, going_end}
use Rattle.effects.proofs.delayn.delay.Goals as goal

pub loop-done-init : goal.loop-done-init
loop-done-init c = going_none (λ f. delay_ring _) (λ f. omega arith) c.word_at-place.ensures (omega arith)

pub loop-done-smaller : goal.loop-done-smaller
loop-done-smaller c = stretch_less _ _ _ _ _ c.loop-done.invariant.below c.loop-done-test.true c.stretch-count.ensures.0

pub loop-done-preserved : goal.loop-done-preserved
loop-done-preserved c =
    going_then c.loop-done.invariant _ (omega arith) (omega arith) c.push.auto.cell (λ f. c.push.ensures c.args.n (omega arith)) c.wrap-place.ensures

pub returns : goal.returns
returns c = going_end c.loop-done.invariant c.loop-done-test.false c.put_word.ensures nan
