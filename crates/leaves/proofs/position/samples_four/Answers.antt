-- `leaves::position::samples_four` meets its contract, lane by lane. Assumes nothing.
use mathlib.Core.Path.{refl}
use lib.Ieee.{nan, of_bits}
use Rattle.values.proofs.FourLanes.{lanes_of}
use Rattle.leaves.proofs.position.samples_four.Goals as goal

pub returns : goal.returns
unfolding of_bits
returns c = rw (lanes_of c.args.m nan c.requires) refl
