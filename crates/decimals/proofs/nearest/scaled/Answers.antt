-- `decimals::nearest::scaled` meets its contract. The loop's invariant: the number is the unit, doubled k times, half of it is at most n, and the rest is n less it.
-- Assumes nothing.
use mathlib.Core.Path.{◌≡◌, sym, ◌∙◌}
use mathlib.Core.Bool.{true}
use Prim.Native.Nat.{ℕ, ◌+◌, ◌≤◌, ◌<◌}
use native.Mathlib.Omega.{arith}
use Rattle.std.specs.Prelude.{Option, Some, None, MatchOption, is_some}
use Rattle.decimals.specs.declared.big.Big.{Big}
use Rattle.decimals.specs.Big.{value_of}
use Rattle.decimals.proofs.Rounding.{few_doublings}
use Rattle.decimals.proofs.WordSums.{raised_more}
use Rattle.decimals.proofs.nearest.scaled.Goals as goal

-- what a turn of the loop starts from
under : (r : Option Big) (n large : ℕ) → is_some r ≡ true → MatchOption r (n < large) (λ rest. value_of rest + large ≡ n) → large ≤ n
under None n large e m = absurd (cc)
under (Some rest) n large e m = omega (arith, m)

pub loop-n-preserved : goal.loop-n-preserved
loop-n-preserved c =
    let pre = c.requires in
    let inv = c.loop-n.invariant in
    let larger = c.times-large.ensures in
    let least = under c.loop-n.rest _ _ (sym c.is_some.ensures ∙ c.loop-n-test.true) inv.5 in
    let few = few_doublings _ c.loop-n.k _ pre.0 inv.4 (omega (arith, inv.2)) in (
      omega arith,
      omega (arith, inv.1),
      omega (arith, least, pre.2),
      λ _. omega (arith, least),
      larger ∙ raised_more _ _ 2 c.loop-n.k inv.4,
      c.minus-rest-in-loop-n.ensures,
    )
