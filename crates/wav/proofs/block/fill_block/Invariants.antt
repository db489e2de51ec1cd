-- `wav::block::fill_block`: after i turns the first i samples stand in the block.
use Rattle.std.proofs.Common.{◌≡◌, take}
use Rattle.values.specs.Words.{words}
use Rattle.wav.specs.Frames.{block_of}
use Rattle.wav.proofs.block.fill_block.Given as goal

abbrev pub invariant-loop-i : goal.invariant-loop-i
invariant-loop-i l = take l.i (words l.block) ≡ block_of l.format l.frames l.i
