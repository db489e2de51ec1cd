-- `operators::block::fetch` meets its contract: what stands there is what is brought. Assumes nothing.
use Rattle.std.proofs.Common.{rules}
use Rattle.operators.proofs.block.fetch.Goals as goal

pub returns : goal.returns
returns c = c.join.ensures (λ a b. b) (λ a b r p. search rules)
