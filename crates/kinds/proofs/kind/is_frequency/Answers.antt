-- `kinds::kind::is_frequency` meets its contract. Assumes nothing.
use lib.Ieee.{of_bits}
use Rattle.kinds.proofs.kind.is_frequency.Goals as goal

pub returns : goal.returns
unfolding of_bits
returns c = c.within.ensures
