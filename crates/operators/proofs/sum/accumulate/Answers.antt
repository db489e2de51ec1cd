-- `operators::sum::accumulate` meets its contract: each sample is added to the one before. Assumes nothing.
use lib.Ieee.{binary32, add}
use Rattle.std.proofs.Common.{rules}
use Rattle.operators.proofs.sum.accumulate.Goals as goal

pub returns : goal.returns
returns c = c.join.ensures (add binary32) (λ a b r p. search rules)
