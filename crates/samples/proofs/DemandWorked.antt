-- Document 01's board and its three blocks: input (1, 0), (0, 0), (0, 0) gives (0, 1), (0, 0), (0.5, 0) on both channels, by computation from
-- the definitions of the calls; and so the reading by samples says the same. Assumes nothing.
use Prim.Native.Nat.{ℕ}
use mathlib.Core.Path.{◌≡◌, refl, sym, ◌∙◌}
use mathlib.Core.List.{List, [], ◌∷◌}
use lib.ListN.{replicate}
use lib.Ieee.{of_bits, to_bits, add, mul, round}
use Rattle.values.specs.Words.{words, unwords}
use Rattle.kinds.specs.Kind.{rule_of}
use Rattle.kinds.specs.Iter.{iter}
use Rattle.kinds.specs.History.{Heard}
use Rattle.kinds.specs.Rule.{Frame, total, left_of, right_of, keeps, carry_after, get, x_line, y_line, place_after, line_after, sample_by, state_by}
use Rattle.kinds.specs.Cell.{values_of, cell_of, number_of, fresh_cell, number_fits, carry_fits, place_fits, frame_at, put_frame, step_cell, run_cell}
use Rattle.kinds.specs.Node.{node_run}
use Rattle.reading.specs.Time.{Timed}
use Rattle.reading.specs.Calls.{replies}
use Rattle.records.specs.Answer.{answer}
use Rattle.records.specs.Record.{found_of, found_at}
use Rattle.sources.specs.Sources.{distinct}
use Rattle.boards.specs.Board.{Parsed, whole, take_found, step_of, run, read_records}
use Rattle.boards.specs.Judge.{check_sources, read_board}
use Rattle.graph.specs.Visit.{visiting_list}
use Rattle.memory.specs.Memory.{fresh_values, check_cells, listed}
use Rattle.running.specs.Run.{run_node, run_nodes, put_input}
use Rattle.memory.specs.Calls.{fresh_of}
use Rattle.context.specs.Block.{check_samples, block_in}
use Rattle.samples.specs.Reading.{Call, block, Reply, IsReading, accepted, replies_to}
use Rattle.samples.specs.Claim.{call_in}
use Rattle.boards.specs.Obeys.{kind_of, as_read}
use Rattle.records.specs.Write.{write_board}
use Rattle.records.proofs.RoundBytes.{board_bytes}
use Rattle.boards.proofs.RoundWorked.{feedback}
use Rattle.samples.proofs.Demand.{board_claim, own_order}

-- two samples as bytes: (1, 0), (0, 1), (0.5, 0) and (0, 0)
abbrev pub one : List ℕ
one = 0 ∷ 0 ∷ 128 ∷ 63 ∷ 0 ∷ 0 ∷ 0 ∷ 0 ∷ []

abbrev pub ahead : List ℕ
ahead = 0 ∷ 0 ∷ 0 ∷ 0 ∷ 0 ∷ 0 ∷ 128 ∷ 63 ∷ []

abbrev pub half : List ℕ
half = 0 ∷ 0 ∷ 0 ∷ 63 ∷ 0 ∷ 0 ∷ 0 ∷ 0 ∷ []

abbrev pub quiet : List ℕ
quiet = 0 ∷ 0 ∷ 0 ∷ 0 ∷ 0 ∷ 0 ∷ 0 ∷ 0 ∷ []

abbrev pub three : List Call
three = block one quiet quiet ∷ block quiet quiet quiet ∷ block quiet quiet quiet ∷ []

-- accepted, with the same block on both channels
abbrev pub said : List ℕ → Reply
said x = record { answer = answer 0 0; left = x; right = x }

abbrev pub p : Parsed
p = as_read feedback

pub reads : read_board (write_board feedback) ≡ whole p
unfolding write_board kind_of read_board read_records run step_of take_found found_at found_of rule_of of_bits check_sources distinct
reads = refl

-- fresh memory, as the fresh call leaves it
pub feedback-fresh : fresh_of (write_board feedback) (replicate 112 0) ≡ (answer 0 0, unwords (fresh_values p))
unfolding write_board kind_of fresh_of fresh_values fresh_cell number_of read_board read_records run step_of take_found found_at found_of rule_of check_sources distinct
    values_of unwords to_bits of_bits
feedback-fresh = refl

-- P: the three blocks
pub feedback_blocks : replies (call_in listed (write_board feedback)) three (unwords (fresh_values p)) ≡ said ahead ∷ said quiet ∷ said half ∷ []
unfolding write_board kind_of fresh_values fresh_cell number_of block_in read_board read_records run step_of take_found found_at found_of rule_of check_sources distinct
    visiting_list check_cells check_samples number_fits carry_fits place_fits words unwords run_nodes run_node put_input node_run run_cell iter step_cell put_frame frame_at
    cell_of values_of sample_by state_by left_of right_of keeps carry_after get x_line y_line place_after line_after total of_bits to_bits add mul round
feedback_blocks = refl

-- and so says every reading of them
pub feedback_reading : (s : Timed Frame) (u : Timed Heard) → IsReading p (accepted p three) s u → replies_to p s 0 three ≡ said ahead ∷ said quiet ∷ said half ∷ []
feedback_reading s u r =
    let bytes = board_bytes feedback in
    let claim = board_claim (write_board feedback) bytes p reads three in
    sym (claim.as_read s u r listed (own_order (write_board feedback) bytes p reads)).replies ∙ feedback_blocks
