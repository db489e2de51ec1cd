-- `leaves::lengths::delay_length` meets its contract: each answer is the definition's, by the test that led there. Assumes nothing.
use mathlib.Core.Path.{◌≡◌, sym, ap, ◌∙◌}
use mathlib.Core.Bool.{Bool, true, false}
use native.Mathlib.Omega.{arith}
use denote.Floats.{passes}
use lib.Ieee.{Float, of_bits}
use Rattle.values.specs.Floors.{f3000, within}
use Rattle.leaves.specs.Lengths.{delay_of}
use Rattle.std.specs.Prelude.{Some}
use Rattle.leaves.proofs.lengths.delay_length.Goals as goal

inside : (x : Float) (b : Bool) → b ≡ within f3000 x → b ≡ true → within f3000 x ≡ true
inside x b e t = sym e ∙ t

pub returns-then-not-within : goal.returns-then-not-within
unfolding delay_of of_bits
returns-then-not-within c = let e : within f3000 c.args.ms ≡ false = sym c.within.ensures ∙ c.if-not-within.true in rw e

pub samples-requires : goal.samples-requires
unfolding of_bits
samples-requires c = passes _ (inside c.args.ms _ c.within.ensures c.if-not-within.false)

pub returns : goal.returns
unfolding delay_of of_bits
returns c = rw (inside c.args.ms _ c.within.ensures c.if-not-within.false) (ap Some (omega (arith, c.max.ensures)))
