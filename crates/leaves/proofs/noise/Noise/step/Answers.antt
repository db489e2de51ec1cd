-- `leaves::noise::Noise::step` meets its contract. Assumes nothing.
use mathlib.Core.Path.{ap}
use Rattle.leaves.specs.Noise.{xorshift}
use Rattle.leaves.proofs.noise.Noise.step.Goals as goal

pub returns : goal.returns
unfolding xorshift
returns c = ap xorshift c.self.view_is
