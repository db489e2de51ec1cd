-- `leaves::lengths::samples` meets its contract: the product is from 0 to 132,300, so its floor may be taken. Assumes nothing.
use Prim.Native.Nat.{◌^◌}
use lib.Dec.{lit≤}
use lib.Ieee.{of_bits}
use Rattle.values.specs.Floors.{in_samples}
use Rattle.leaves.specs.Lengths.{samples_of}
use Rattle.values.proofs.Floors.{upto-more}
use Rattle.leaves.proofs.Samples.{product-upto}
use Rattle.leaves.proofs.lengths.samples.Goals as goal

pub floor-requires : goal.floor-requires
unfolding of_bits
floor-requires c = upto-more 132300 (2 ^ 24) (in_samples c.args.ms) (lit≤ tt) (product-upto c.args.ms c.requires)

pub returns : goal.returns
unfolding of_bits samples_of
returns c = c.floor.ensures
