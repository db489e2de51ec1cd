-- A small board at 2 and at 1: a sum of the input and of its own output, which comes back through a delay by a late wire; of 1 sample at block
-- size 2 and of 2 at block size 1. An impulse comes back every 3 samples on both, by computation from the definitions of the calls.
-- The line that is not corrected gives another stream. Assumes nothing.
use Rattle.std.proofs.Common.{Ok}
use Prim.Native.Nat.{ℕ}
use mathlib.Core.Path.{◌≡◌, refl}
use mathlib.Core.List.{List, [], ◌∷◌}
use lib.ListN.{replicate}
use lib.Ieee.{of_bits, to_bits, add, mul, round}
use Rattle.values.specs.Words.{words, unwords}
use Rattle.kinds.specs.Kind.{rule_of}
use Rattle.kinds.specs.Iter.{iter}
use Rattle.kinds.specs.Rule.{total, left_of, right_of, keeps, carry_after, get, x_line, y_line, place_after, line_after, sample_by, state_by}
use Rattle.kinds.specs.Cell.{values_of, cell_of, number_of, fresh_cell, number_fits, carry_fits, place_fits, frame_at, put_frame, step_cell, run_cell}
use Rattle.kinds.specs.Node.{node_run}
use Rattle.reading.specs.Order.{wire}
use Rattle.boards.specs.Board.{take_found, step_of, run, read_records}
use Rattle.records.specs.Record.{found_of, found_at}
use Rattle.sources.specs.Sources.{distinct}
use Rattle.boards.specs.Judge.{check_sources, read_board}
use Rattle.graph.specs.Late.{is_late, late_wires}
use Rattle.graph.specs.Visit.{visiting_list}
use Rattle.records.specs.Write.{NodeCard, Card, write_board}
use Rattle.boards.specs.Obeys.{kind_of}
use Rattle.memory.specs.Memory.{fresh_values, check_cells}
use Rattle.running.specs.Run.{run_node, run_nodes, put_input}
use Rattle.context.specs.Block.{check_samples, block_in}
use Rattle.memory.specs.Calls.{fresh_of}
use Rattle.resizing.specs.declared.resize.Resized.TheVariants.{Line}
use Rattle.sizes.specs.Sizes.{Stereo, stereo_of, plays}
use Rattle.resizing.specs.Resize.{plan_of, resized_of, bytes_after}

abbrev node : ℕ → ℕ → NodeCard
node t n = record { type = t; n = n; f = 0 }

-- destination, input, sum, delay of n
abbrev pub loop : ℕ → ℕ → Card
loop N n = record {
  size = N;
  input = 1;
  nodes = node 3 0 ∷ node 1 0 ∷ node 2 0 ∷ node 7 n ∷ [];
  wires = wire 1 2 ∷ wire 3 2 ∷ wire 2 3 ∷ wire 2 0 ∷ [];
}

-- 1.0, and five zeros
abbrev pub impulse : List ℕ
impulse = 0x3f80_0000 ∷ 0 ∷ 0 ∷ 0 ∷ 0 ∷ 0 ∷ []

abbrev pub both : List ℕ → Stereo
both ws = record { left = unwords ws; right = unwords ws }

-- the board at 2, carried to 1
pub loop_resized : resized_of (write_board (loop 2 1)) 1 ≡ Ok (Line 3 1 2)
unfolding resized_of plan_of write_board kind_of read_board read_records run step_of take_found found_at found_of rule_of check_sources distinct visiting_list late_wires is_late of_bits
loop_resized = refl

pub loop_bytes : bytes_after (write_board (loop 2 1)) 1 (Ok (Line 3 1 2)) ≡ write_board (loop 1 2)
unfolding bytes_after write_board
loop_bytes = refl

-- by blocks of 2, by blocks of 1 with the line corrected, and without
pub record LoopPlayed : Type 0 where
  pub by_two : stereo_of (plays (write_board (loop 2 1)) (replicate 92 0) 3 2 impulse) ≡ both (0x3f80_0000 ∷ 0 ∷ 0 ∷ 0x3f80_0000 ∷ 0 ∷ 0 ∷ [])
  pub by_one : stereo_of (plays (write_board (loop 1 2)) (replicate 76 0) 6 1 impulse) ≡ both (0x3f80_0000 ∷ 0 ∷ 0 ∷ 0x3f80_0000 ∷ 0 ∷ 0 ∷ [])
  pub uncorrected : stereo_of (plays (write_board (loop 1 1)) (replicate 72 0) 6 1 impulse) ≡ both (0x3f80_0000 ∷ 0 ∷ 0x3f80_0000 ∷ 0 ∷ 0x3f80_0000 ∷ 0 ∷ [])

pub loop_played : LoopPlayed
unfolding write_board kind_of fresh_values fresh_cell number_of fresh_of block_in read_board read_records run step_of take_found found_at found_of rule_of check_sources distinct
    visiting_list check_cells check_samples number_fits carry_fits place_fits words unwords run_nodes run_node put_input node_run run_cell iter step_cell put_frame frame_at
    cell_of values_of sample_by state_by left_of right_of keeps carry_after get x_line y_line place_after line_after total of_bits to_bits add mul round
loop_played = record { by_two = refl; by_one = refl; uncorrected = refl }
