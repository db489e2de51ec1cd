-- `leaves::onepole::OnePole::step` meets its contract. Assumes nothing.
use mathlib.Core.Path.{refl}
use Rattle.leaves.specs.OnePole.{one_pole_step}
use Rattle.leaves.proofs.onepole.OnePole.step.Goals as goal

pub returns : goal.returns
unfolding one_pole_step
returns c = refl
