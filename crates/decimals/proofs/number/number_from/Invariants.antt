use mathlib.Core.Path.{◌≡◌}
use Prim.Native.Nat.{◌≤◌, ◌+◌, ◌-◌, ◌*◌, ◌^◌}
use lib.ListN.{length, drop}
use Rattle.decimals.specs.Big.{value_of}
use Rattle.decimals.specs.Number.{number_from}
use Rattle.decimals.proofs.number.number_from.Given as goal

abbrev pub invariant-loop-byte : goal.invariant-loop-byte
invariant-loop-byte l =
    (number_from (drop l.byte-index l.digits) (value_of l.number) ≡ number_from l.digits (value_of l.initial.number))
    × ((value_of l.number + 1) * 10 ^ (length l.digits - l.byte-index) ≤ (value_of l.initial.number + 1) * 10 ^ length l.digits)
