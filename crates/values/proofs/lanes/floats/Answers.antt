-- `values::lanes::floats` meets its contract, lane by lane. Assumes nothing.
use Rattle.values.proofs.FourLanes.{lanes_of, same_lanes, each_lane, number_lane, float_lane}
use Rattle.values.proofs.lanes.floats.Goals as goal

pub float_from_bits-number : goal.float_from_bits-number
float_from_bits-number c = rw (lanes_of c.args.bits 0 c.requires) (each_lane c.args.bits 0 number_lane)

pub returns : goal.returns
returns c = rw (lanes_of c.args.bits 0 c.requires) (same_lanes c.args.bits 0 float_lane)
