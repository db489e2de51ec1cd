-- `wav::sample::halved` meets its contract: the literal is 0.5. Assumes nothing.
use mathlib.Core.Path.{refl}
use lib.Ieee.{of_bits}
use Rattle.wav.specs.Frames.{halved}
use Rattle.wav.proofs.sample.halved.Goals as goal

pub returns : goal.returns
unfolding halved of_bits
returns c = refl
