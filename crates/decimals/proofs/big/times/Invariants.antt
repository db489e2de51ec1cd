use mathlib.Core.Path.{◌≡◌}
use Prim.Native.Nat.{◌≤◌, ◌<◌, ◌+◌, ◌*◌}
use lib.ListN.{length}
use Rattle.decimals.specs.Big.{lowest}
use Rattle.decimals.proofs.WordSums.{weight}
use Rattle.decimals.proofs.big.times.Given as goal

abbrev pub invariant-loop-i : goal.invariant-loop-i
invariant-loop-i l =
    (l.i ≤ 16) × (l.carry < 4294967296) × (length l.words ≡ 16) × (lowest l.words l.i + l.carry * weight l.i ≡ lowest l.a.words l.i * l.m + l.c)
