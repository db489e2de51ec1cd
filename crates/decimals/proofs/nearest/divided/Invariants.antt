use mathlib.Core.Path.{◌≡◌}
use Prim.Native.Nat.{◌≤◌, ◌<◌, ◌+◌, ◌*◌, ◌^◌}
use Rattle.decimals.specs.Big.{value_of, limit}
use Rattle.decimals.proofs.nearest.divided.Given as goal

abbrev pub invariant-loop : goal.invariant-loop
invariant-loop l =
    (l.counter ≤ 24)
    × (l.q.0 < 2 ^ l.counter)
    × (value_of l.q.1.0 < value_of l.q.1.1.0)
    × (value_of l.q.1.1.0 * 2 < limit)
    × (l.q.1.1.0 ≡ l.fn.unit)
    × (l.q.0 * value_of l.q.1.1.0 + value_of l.q.1.0 ≡ value_of l.initial.q.1.0 * 2 ^ l.counter)
