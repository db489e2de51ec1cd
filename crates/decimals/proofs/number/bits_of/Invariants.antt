use mathlib.Core.Path.{◌≡◌}
use Prim.Native.Nat.{◌<◌, ◌^◌}
use lib.ListN.{drop}
use Rattle.decimals.specs.Number.{hex_from}
use Rattle.decimals.proofs.number.bits_of.Given as goal

abbrev pub invariant-loop-byte : goal.invariant-loop-byte
invariant-loop-byte l = (l.bits < 16 ^ l.byte-index) × (hex_from (drop l.byte-index l.digits) l.bits ≡ hex_from l.digits 0)
