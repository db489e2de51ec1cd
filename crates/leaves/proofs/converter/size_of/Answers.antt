-- `leaves::converter::size_of` meets its contract: the pattern of the sum with 1 is the size above the pattern of 1. Assumes nothing.
use mathlib.Core.Path.{◌≡◌}
use Prim.Native.Nat.{◌+◌}
use native.Mathlib.Omega.{arith}
use lib.Dec.{lit≤}
use lib.Ieee.{binary32, add, to_bits, of_bits}
use Rattle.values.specs.Floors.{f1}
use Rattle.leaves.specs.Converter.{word_size}
use Rattle.leaves.proofs.WordCode.{sum_number, sum_size, full_size, size-le}
use Rattle.leaves.proofs.converter.size_of.Goals as goal

pattern : (c : goal.Then-x) → to_bits binary32 (add binary32 c.args.x f1) ≡ 0x3f80_0000 + word_size c.args.x
unfolding of_bits
pattern c = sum_size c.args.x c.requires c.if-x.true

pub float_to_bits-result : goal.float_to_bits-result
unfolding of_bits
float_to_bits-result c = sum_number c.args.x c.requires c.if-x.true

pub overflow_sub-result : goal.overflow_sub-result
unfolding of_bits
overflow_sub-result c = omega (arith, pattern c)

pub returns-then-x : goal.returns-then-x
unfolding of_bits
returns-then-x c = (omega (arith, pattern c), omega (arith, pattern c, size-le c.args.x))

pub returns-else-x : goal.returns-else-x
unfolding of_bits
returns-else-x c = (full_size c.args.x c.requires c.if-x.false, lit≤ tt)
