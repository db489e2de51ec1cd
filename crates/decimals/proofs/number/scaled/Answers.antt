-- `decimals::number::scaled` meets its contract: too long, or all digits, one rounding, and the sign. Assumes nothing.
use mathlib.Core.Path.{ap, ◌∙◌}
use Prim.Native.Nat.{ℕ, ◌+◌}
use lib.ListN.{length}
use borrow.Author.Tests.{lt-ltb, le-ltb}
use Rattle.std.specs.Prelude.{Ok}
use lib.Ieee.{binary32, to_bits}
use Rattle.decimals.specs.Decimal.{nearest_to}
use Rattle.decimals.specs.Number.{scaled}
use Rattle.decimals.proofs.Reading.{signed_is}
use Rattle.decimals.proofs.Rounding.{nearest_neg}
use Rattle.decimals.proofs.number.scaled.Goals as goal

pub returns-then-d-places-gt40 : goal.returns-then-d-places-gt40
unfolding scaled
returns-then-d-places-gt40 c = rw (lt-ltb 40 _ c.if-d-places-gt40.true)

pub returns-then-power-gt60 : goal.returns-then-power-gt60
unfolding scaled
returns-then-power-gt60 c = rw (le-ltb 40 _ c.if-d-places-gt40.false, lt-ltb 60 _ c.if-power-gt60.true)

pub returns-then-power-gt60-2 : goal.returns-then-power-gt60-2
unfolding scaled
returns-then-power-gt60-2 c = rw (le-ltb 40 _ c.if-d-places-gt40.false, le-ltb 60 _ c.if-power-gt60.false, lt-ltb 60 _ c.if-power-gt60-2.true)

pub returns : goal.returns
unfolding scaled
returns c =
    let a = c.args in
    let down = length a.d.fraction.now + a.power.down in
    rw (le-ltb 40 _ c.if-d-places-gt40.false, le-ltb 60 _ c.if-power-gt60.false, le-ltb 60 _ c.if-power-gt60-2.false)
    (ap Ok c.signed.ensures
    ∙ signed_is a.minus _ c.nearest.result (c.nearest.ensures.1 ∙ ap (λ (v : ℕ). to_bits binary32 (nearest_to v a.power.up down)) c.all_of-digits.ensures.1) (nearest_neg _ a.power.up down))
