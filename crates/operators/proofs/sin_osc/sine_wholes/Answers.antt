-- `operators::sin_osc::sine_wholes` meets its contract: after i turns the first i sines are there. Assumes nothing.
use borrow.Author.Count.{below_more}
use borrow.Author.Rules.{rules}
use mathlib.Core.Path.{◌≡◌, ◌∙◌}
use mathlib.Core.List.{List}
use Prim.Native.Nat.{ℕ, ◌+◌, ◌<◌}
use native.Mathlib.Omega.{arith}
use lib.IntN.{ℤ, pos}
use lib.ListN.{length, get_or, set}
use lib.Seq.{get_or-set_same, get_or-set_other}
use mir.Syntax.{w32}
use mir.ValLaws.{to_z-of_z}
use Rattle.leaves.specs.Sine.{sine_of}
use Rattle.operators.proofs.sin_osc.sine_wholes.Goals as goal

-- the sine of one phase more
one_more : (us : List ℕ) (vs : List ℤ) (i : ℕ) (v : ℤ) → i < length vs → v ≡ sine_of (get_or us i 0)
    → ((j : ℕ) → j < i → get_or vs j (pos 0) ≡ sine_of (get_or us j 0)) → (j : ℕ) → j < i + 1 → get_or (set vs i v) j (pos 0) ≡ sine_of (get_or us j 0)
one_more us vs i v below e before =
    below_more (λ j. get_or (set vs i v) j (pos 0) ≡ sine_of (get_or us j 0)) i
    (λ j h. get_or-set_other vs i j v (pos 0) (λ same. omega arith) ∙ before j h) (get_or-set_same vs i v (pos 0) below ∙ e)

pub loop-i-init : goal.loop-i-init
loop-i-init c j h = absurd (omega arith)

pub loop-i-preserved : goal.loop-i-preserved
loop-i-preserved c =
    one_more c.args.units.now c.loop-i.values c.loop-i.i _ (omega (arith, c.loop-i.auto.values, c.loop-i-test.true))
    (to_z-of_z w32 _ (search rules) ∙ c.sine_units.ensures) c.loop-i.invariant

pub returns : goal.returns
returns c j h = c.loop-i.invariant j (omega (arith, c.loop-i-test.false))
