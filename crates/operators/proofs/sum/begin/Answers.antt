-- `operators::sum::begin` meets its contract: each sample is added to 0. Assumes nothing.
use lib.Ieee.{binary32, add, of_bits}
use Rattle.values.specs.Floors.{zero_f}
use Rattle.std.proofs.Common.{rules}
use Rattle.operators.proofs.sum.begin.Goals as goal

pub returns : goal.returns
unfolding of_bits
returns c = c.join.ensures (λ a b. add binary32 zero_f b) (λ a b r p. search rules)
