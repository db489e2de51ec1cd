use mathlib.Core.Path.{◌≡◌}
use Prim.Native.Nat.{◌≤◌, ◌<◌, ◌+◌, ◌*◌}
use lib.ListN.{length}
use Rattle.decimals.specs.Big.{lowest}
use Rattle.decimals.proofs.WordSums.{weight}
use Rattle.decimals.proofs.big.minus.Given as goal

abbrev pub invariant-loop-i : goal.invariant-loop-i
invariant-loop-i l =
    (l.i ≤ 16) × (l.borrow ≤ 1) × (length l.words ≡ 16) × (lowest l.words l.i < weight l.i) × (lowest l.a.words l.i + l.borrow * weight l.i ≡ lowest l.words l.i + lowest l.b.words l.i)
