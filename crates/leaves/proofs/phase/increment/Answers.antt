-- `leaves::phase::increment` meets its contract. Assumes nothing.
use mathlib.Core.Path.{refl}
use lib.Ieee.{of_bits}
use Rattle.leaves.specs.Phase.{increment}
use Rattle.leaves.proofs.phase.increment.Goals as goal

pub returns : goal.returns
unfolding increment of_bits
returns c = refl
