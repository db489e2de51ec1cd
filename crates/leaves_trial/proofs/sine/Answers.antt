-- `leaves_trial::sine` asks for a sine only where the phase is from 0 to 1. Assumes nothing.
use mathlib.Core.Path.{sym, ◌∙◌}
use denote.Floats.{passes}
use lib.Ieee.{of_bits}
use Rattle.leaves_trial.proofs.sine.Goals as goal

pub phase_units-requires : goal.phase_units-requires
unfolding of_bits
phase_units-requires c = passes _ (sym c.within.ensures ∙ c.if-within.true)
