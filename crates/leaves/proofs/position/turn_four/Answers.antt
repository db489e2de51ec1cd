-- `leaves::position::turn_four` meets its contract, lane by lane. Assumes nothing.
use lib.Ieee.{nan, of_bits}
use Rattle.values.proofs.FourLanes.{lanes_of, same_lanes}
use Rattle.leaves.proofs.PositionLanes.{turned_lane}
use Rattle.leaves.proofs.position.turn_four.Goals as goal

pub returns : goal.returns
unfolding of_bits
returns c = rw (lanes_of c.args.w nan c.requires) (same_lanes c.args.w nan (turned_lane c.args.top))
