-- `allpass::apfmsgain::Filter::run` meets its contract: the stretches so far are the samples so far. Assumes nothing.
use native.Mathlib.Omega.{arith}
use Rattle.effects.proofs.Rings.{all_pass-ring, stretch_less, going_none, going_number, going_then, going_end}
use Rattle.allpass.proofs.apfmsgain.Filter.run.Goals as goal

pub loop-done-init : goal.loop-done-init
loop-done-init c = going_none (all_pass-ring _) (λ f. omega arith) c.word_at-place.ensures (omega arith)

pub filter-requires : goal.filter-requires
filter-requires c =
    let lent = c.requires.0 in
    (record { small = lent.small; line = lent.line; whole = omega arith; gain = going_number c.loop-done.invariant lent.gain }, omega arith, omega arith)

pub loop-done-smaller : goal.loop-done-smaller
loop-done-smaller c = stretch_less _ _ _ _ _ c.loop-done.invariant.below c.loop-done-test.true c.stretch-count.ensures.0

pub loop-done-preserved : goal.loop-done-preserved
loop-done-preserved c =
    going_then c.loop-done.invariant _ (omega arith) (omega arith) c.filter.auto.cell c.filter.ensures c.wrap-place.ensures

pub returns : goal.returns
returns c = going_end c.loop-done.invariant c.loop-done-test.false c.put_word.ensures
