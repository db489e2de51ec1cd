-- One block of a rendering. Definitions only.
use Rattle.std.specs.Prelude.{◌≡◌, List, ℕ}
use Rattle.values.specs.Words.{words, unwords}
use Rattle.context.specs.Block.{Outcome}
use Rattle.context.specs.Block as calls
use Rattle.records.specs.declared.answer.Answer.{Answer}
use Rattle.wav.specs.Frames.{block_of, interleaved}
use Rattle.wav.specs.declared.format.Format.{Format}

-- the block run of a board on n samples of the frames in `bytes`, zeros after the last
abbrev pub run_on : List ℕ → List ℕ → Format → List ℕ → ℕ → List ℕ → List ℕ → Outcome
run_on board memory f bytes n l r = calls.block_of board memory (unwords (block_of f bytes n)) l r

-- what a block leaves: the run's answer and memory, and as frames its two output blocks
pub record Turned (run : Outcome) (a : Answer) (memory frames : List ℕ) : Type 0 where
  pub answered : a ≡ run.answer
  pub kept : memory ≡ run.memory
  pub made : words frames ≡ interleaved (words run.left) (words run.right)
