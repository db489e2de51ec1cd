-- `leaves::onepole::OnePole::new` meets its contract. Assumes nothing.
use mathlib.Core.Path.{refl}
use lib.Ieee.{of_bits}
use Rattle.leaves.specs.OnePole.{one_pole_of}
use Rattle.leaves.proofs.onepole.OnePole.new.Goals as goal

pub returns : goal.returns
unfolding one_pole_of of_bits
returns c = refl
