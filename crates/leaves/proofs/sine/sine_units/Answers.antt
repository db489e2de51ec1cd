-- `leaves::sine::sine_units` meets its contract. Assumes nothing.
use borrow.Author.Tests.{lt-ltb, le-ltb}
use native.Mathlib.Omega.{arith}
use Prim.Native.Nat.{ℕ}
use mathlib.Core.Path.{◌≡◌, ap, ◌∙◌}
use lib.IntN.{pos, neg_ℤ}
use mir.Syntax.{w32}
use mir.ValLaws.{to_z_pos}
use Rattle.leaves.specs.Sine.{sine_of, quarter_of, folded}
use Rattle.leaves.proofs.Signs.{minus_is}
use Rattle.leaves.proofs.sine.sine_units.Goals as goal

pub returns-then-u-gt1 : goal.returns-then-u-gt1
unfolding sine_of
returns-then-u-gt1 c =
    let e : c.quarter-v.result ≡ quarter_of (folded c.args.u) = cc in
    simp (lt-ltb _ _ c.if-u-gt1.true)
    (minus_is c.quarter-v.result (omega arith) ∙ ap (λ (n : ℕ). neg_ℤ (pos n)) e)

pub returns-else-u-gt1 : goal.returns-else-u-gt1
unfolding sine_of
returns-else-u-gt1 c = simp (le-ltb _ _ c.if-u-gt1.false) (to_z_pos w32 c.quarter-v.result (omega arith) ∙ ap pos (cc))
