-- `leaves::sine::phase_units` meets its contract: the product is exact, and at most 2^24. Assumes nothing.
use mathlib.Core.Path.{◌∙◌}
use lib.Ieee.{of_bits}
use denote.Floats.{passes}
use Rattle.values.proofs.Floors.{within-upto}
use Rattle.leaves.proofs.Scaled.{scaled-upto, scaled-floor}
use Rattle.leaves.proofs.sine.phase_units.Goals as goal

pub floor-requires : goal.floor-requires
unfolding of_bits
floor-requires c = scaled-upto c.args.phase (passes _ c.well_formed.0.1) (within-upto 1 0 c.args.phase c.requires)

pub returns : goal.returns
unfolding of_bits
returns c =
    let x = c.args.phase in
    c.floor.ensures ∙ scaled-floor x (passes _ c.well_formed.0.1) (within-upto 1 0 x c.requires)
