-- `values::float::floor` meets its contract: the moved digits are the whole part. Assumes nothing.
use Prim.Native.Nat.{◌^◌}
use native.Mathlib.Omega.{arith}
use lib.Ieee.{binary32, to_bits, of_bits}
use Rattle.values.specs.Floors.{floor_of}
use Rattle.values.proofs.WholePart.{Digits, from_one, below_one, upto-number}
use Rattle.values.proofs.float.floor.Goals as goal

-- what the pattern says, where x is at least 1
digits : (c : goal.Then-x) → Digits (to_bits binary32 c.args.x) (floor_of c.args.x)
unfolding of_bits
digits c = from_one c.args.x c.requires c.if-x.true

pub float_to_bits-bits : goal.float_to_bits-bits
float_to_bits-bits c = upto-number c.args.x (2 ^ 24) c.requires

pub overflow_sub-result : goal.overflow_sub-result
overflow_sub-result c = (digits c).field_high

pub overflow_shr-result : goal.overflow_shr-result
overflow_shr-result c = omega (arith, (digits c).field_low)

pub returns-then-x : goal.returns-then-x
returns-then-x c = (digits c).moved

pub returns-else-x : goal.returns-else-x
unfolding of_bits
returns-else-x c = below_one c.args.x (2 ^ 24) c.requires c.if-x.false
