use mathlib.Core.Path.{◌≡◌}
use Prim.Native.Nat.{◌≤◌}
use lib.ListN.{drop}
use Rattle.decimals.specs.Number.{digits_from}
use Rattle.decimals.proofs.number.digits_from.Given as goal

abbrev pub invariant-loop-i : goal.invariant-loop-i
invariant-loop-i l =
    (l.value ≤ 42949672960) × (digits_from (drop l.i l.s) l.value l.i ≡ digits_from l.s 0 0)
