-- `wav::block::interleave`: after i turns the first i frames are written.
use Rattle.std.proofs.Common.{◌≡◌, ◌*◌, take}
use Rattle.values.specs.Words.{words}
use Rattle.wav.specs.Frames.{interleaved}
use Rattle.wav.proofs.block.interleave.Given as goal

abbrev pub invariant-loop-i : goal.invariant-loop-i
invariant-loop-i l = take (2 * l.i) (words l.frames) ≡ interleaved (take l.i (words l.left)) (take l.i (words l.right))
