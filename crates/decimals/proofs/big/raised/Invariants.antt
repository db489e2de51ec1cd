use mathlib.Core.Path.{◌≡◌}
use Prim.Native.Nat.{◌≤◌, ◌*◌, ◌^◌}
use Rattle.decimals.specs.Big.{value_of}
use Rattle.decimals.proofs.big.raised.Given as goal

abbrev pub invariant-loop : goal.invariant-loop
invariant-loop l = (l.counter ≤ l.k) × (value_of l.made ≡ value_of l.initial.made * l.m ^ l.counter)
