-- `values::lanes::patterns` meets its contract, lane by lane. Assumes nothing.
use lib.Ieee.{nan}
use Rattle.values.proofs.FourLanes.{lanes_of, same_lanes, each_lane, some_lane, pattern_lane}
use Rattle.values.proofs.lanes.patterns.Goals as goal

pub float_to_bits-result : goal.float_to_bits-result
float_to_bits-result c = rw (lanes_of c.args.x nan c.requires) (each_lane c.args.x nan some_lane)

pub returns : goal.returns
returns c = rw (lanes_of c.args.x nan c.requires) (same_lanes c.args.x nan pattern_lane)
