-- The refusals of the fresh call and the block run on document 01's board (N 2, input 1; 28 values), which antt computes: 7, 8, 9, 10, each before
-- the next, and every byte as found. Its three accepted blocks are among the cases of demand 3. Assumes nothing.
use Prim.Native.Nat.{ℕ}
use mathlib.Core.Path.{◌≡◌, refl}
use mathlib.Core.List.{List, [], ◌∷◌}
use lib.ListN.{set, replicate}
use lib.Ieee.{of_bits}
use Rattle.values.specs.Words.{words}
use Rattle.kinds.specs.Kind.{rule_of}
use Rattle.kinds.specs.Cell.{number_fits, carry_fits, place_fits}
use Rattle.records.specs.Answer.{answer}
use Rattle.records.specs.Record.{found_of, found_at}
use Rattle.sources.specs.Sources.{distinct}
use Rattle.boards.specs.Board.{take_found, step_of, run, read_records}
use Rattle.boards.specs.Judge.{check_sources, read_board}
use Rattle.memory.specs.Memory.{check_cells}
use Rattle.context.specs.Block.{as_left, check_samples, block_in, block_of}
use Rattle.memory.specs.Calls.{fresh_of}
use Rattle.records.specs.Write.{write_board}
use Rattle.boards.proofs.RoundWorked.{feedback}

abbrev board : List ℕ
board = write_board feedback

-- memory of the board's length: zeros, and with a ring place of 1 in node 3, a delay of 1, whose cell starts at value 17
abbrev zeros : List ℕ
zeros = replicate 112 0

abbrev misplaced : List ℕ
misplaced = set zeros 76 1

-- blocks: (0, 0), (0, NaN), and one that is too short
abbrev quiet : List ℕ
quiet = replicate 8 0

abbrev broken : List ℕ
broken = 0 ∷ 0 ∷ 0 ∷ 0 ∷ 0 ∷ 0 ∷ 192 ∷ 127 ∷ []

abbrev short : List ℕ
short = replicate 7 0

pub fresh-length : fresh_of board quiet ≡ (answer 7 112, quiet)
unfolding write_board fresh_of read_board read_records run step_of take_found found_at found_of rule_of of_bits check_sources distinct
fresh-length = refl

pub block_length : block_of board quiet broken short quiet ≡ as_left (answer 7 112) quiet short quiet
unfolding write_board block_in read_board read_records run step_of take_found found_at found_of rule_of of_bits check_sources distinct
block_length = refl

pub block_place : block_of board misplaced broken short quiet ≡ as_left (answer 8 3) misplaced short quiet
unfolding write_board block_in read_board read_records run step_of take_found found_at found_of rule_of of_bits check_sources distinct check_cells number_fits carry_fits place_fits words
block_place = refl

pub block_size : block_of board zeros broken quiet short ≡ as_left (answer 9 2) zeros quiet short
unfolding write_board block_in read_board read_records run step_of take_found found_at found_of rule_of of_bits check_sources distinct check_cells number_fits carry_fits place_fits words
block_size = refl

pub block_sample : block_of board zeros broken quiet quiet ≡ as_left (answer 10 1) zeros quiet quiet
unfolding write_board block_in read_board read_records run step_of take_found found_at found_of rule_of of_bits check_sources distinct check_cells number_fits carry_fits place_fits words
    check_samples
block_sample = refl
