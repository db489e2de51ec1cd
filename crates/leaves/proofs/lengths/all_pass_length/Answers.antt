-- `leaves::lengths::all_pass_length` meets its contract: each answer is the definition's, by the tests that led there. Assumes nothing.
use borrow.Author.Tests.{eq-eqb, ne_eqb}
use mathlib.Core.Path.{◌≡◌, sym, ap, ◌∙◌}
use mathlib.Core.Bool.{Bool, true, false}
use denote.Floats.{passes}
use native.Mathlib.Omega.{arith}
use lib.Dec.{eqb}
use lib.Ieee.{Float, of_bits, eq}
use Rattle.values.specs.Floors.{zero_f, f3000, within}
use Rattle.leaves.specs.Lengths.{all_pass_of, samples_of}
use Rattle.std.specs.Prelude.{Some}
use Rattle.leaves.proofs.lengths.all_pass_length.Goals as goal

inside : (x : Float) (b : Bool) → b ≡ within f3000 x → b ≡ true → within f3000 x ≡ true
inside x b e t = sym e ∙ t

pub returns-then-not-within : goal.returns-then-not-within
unfolding all_pass_of of_bits
returns-then-not-within c = let e : within f3000 c.args.ms ≡ false = sym c.within.ensures ∙ c.if-not-within.true in rw e

pub returns-then-ms : goal.returns-then-ms
unfolding all_pass_of of_bits
returns-then-ms c =
    let e : eq c.args.ms zero_f ≡ true = c.if-ms.true in
    rw (inside c.args.ms _ c.within.ensures c.if-not-within.false, e)

pub samples-requires : goal.samples-requires
unfolding of_bits
samples-requires c = passes _ (inside c.args.ms _ c.within.ensures c.if-not-within.false)

pub returns-in-0 : goal.returns-in-0
unfolding all_pass_of of_bits
returns-in-0 c =
    let e : eqb (samples_of c.args.ms) 0 ≡ true = eq-eqb _ _ (sym c.samples.ensures ∙ c.in-0.is) in
    rw (inside c.args.ms _ c.within.ensures c.if-not-within.false, c.if-ms.false, e)

pub returns-in_default : goal.returns-in_default
unfolding all_pass_of of_bits
returns-in_default c =
    let e : eqb (samples_of c.args.ms) 0 ≡ false = ne_eqb _ _ (λ z. omega (arith, c.samples.ensures, z)) in
    rw (inside c.args.ms _ c.within.ensures c.if-not-within.false, c.if-ms.false, e) (ap Some c.samples.ensures)
