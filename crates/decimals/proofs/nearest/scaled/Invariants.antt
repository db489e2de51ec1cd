use mathlib.Core.Path.{◌≡◌}
use Prim.Native.Nat.{◌≤◌, ◌<◌, ◌+◌, ◌-◌, ◌*◌, ◌^◌}
use Rattle.std.specs.Prelude.{MatchOption}
use Rattle.decimals.specs.Big.{value_of, limit}
use Rattle.decimals.proofs.nearest.scaled.Given as goal

abbrev pub invariant-loop-n : goal.invariant-loop-n
invariant-loop-n l =
    (l.k ≤ 512) × (0 < value_of l.large) × (value_of l.large * 2 < limit) × (0 < l.k → value_of l.large ≤ value_of l.n * 2) × (value_of l.large ≡ value_of l.initial.large * 2 ^ l.k)
    × MatchOption l.rest (value_of l.n < value_of l.large) (λ rest. value_of rest + value_of l.large ≡ value_of l.n)

abbrev pub decreases-loop-n : goal.decreases-loop-n
decreases-loop-n l = value_of l.n + 1 - value_of l.large
