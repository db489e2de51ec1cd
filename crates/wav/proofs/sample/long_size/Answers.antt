-- `wav::sample::long_size` meets its contract: the sum of two exact parts is rounded once. Assumes nothing.
use native.Mathlib.Omega.{arith}
use lib.Ieee.{of_bits}
use Rattle.wav.proofs.Nearest.{long_is}
use Rattle.wav.proofs.sample.long_size.Goals as goal

pub returns : goal.returns
unfolding of_bits
returns c = long_is _ (omega arith)
