-- A tail that is reached: N 2, input 1; destination, pass, delay 3, mul −0.5; wires 1→2, 2→3, 3→0. Its tail is 3. Input (1, 0), (0, 0), (0, 0) is
-- zero from time 1 on, and gives (0, 0), (0, −0.5), (0, 0): the output of time 3 is no zero, and from time 4 on all are 0. Assumes nothing.
use Prim.Native.Nat.{ℕ}
use mathlib.Core.Path.{◌≡◌, refl}
use mathlib.Core.List.{List, [], ◌∷◌}
use lib.Ieee.{of_bits, to_bits, add, mul, round}
use Rattle.values.specs.Words.{words, unwords}
use Rattle.kinds.specs.Kind.{rule_of}
use Rattle.kinds.specs.Iter.{iter}
use Rattle.kinds.specs.Rule.{total, left_of, right_of, keeps, carry_after, get, x_line, y_line, place_after, line_after, sample_by, state_by}
use Rattle.kinds.specs.Cell.{values_of, cell_of, number_of, fresh_cell, number_fits, carry_fits, place_fits, frame_at, put_frame, step_cell, run_cell}
use Rattle.kinds.specs.Node.{node_run}
use Rattle.reading.specs.Calls.{replies}
use Rattle.records.specs.Answer.{answer}
use Rattle.records.specs.Record.{found_of, found_at}
use Rattle.sources.specs.Sources.{distinct}
use Rattle.boards.specs.Board.{Parsed, take_found, step_of, run, read_records}
use Rattle.reading.specs.Order.{wire}
use Rattle.boards.specs.Judge.{check_sources, read_board}
use Rattle.graph.specs.Visit.{visiting_list}
use Rattle.graph.specs.Late.{is_late, late_wires}
use Rattle.graph.specs.Tail.{tail_by, tail_of, tail_answer}
use Rattle.memory.specs.Memory.{fresh_values, check_cells, listed}
use Rattle.running.specs.Run.{run_node, run_nodes, put_input}
use Rattle.context.specs.Block.{check_samples, block_in}
use Rattle.samples.specs.Reading.{Reply}
use Rattle.samples.specs.Claim.{call_in, fresh_memory}
use Rattle.records.specs.Write.{NodeCard, Card, write_board}
use Rattle.boards.specs.Obeys.{kind_of, as_read}
use Rattle.samples.proofs.DemandWorked.{three}

abbrev node : ℕ → ℕ → ℕ → NodeCard
node t n f = record { type = t; n = n; f = f }

abbrev echo : Card
echo = record {
  size = 2;
  input = 1;
  nodes = node 3 0 0 ∷ node 1 0 0 ∷ node 7 3 0 ∷ node 5 0 0xbf00_0000 ∷ [];
  wires = wire 1 2 ∷ wire 2 3 ∷ wire 3 0 ∷ [];
}

abbrev p : Parsed
p = as_read echo

-- two samples as bytes: (0, −0.5) and (0, 0)
abbrev half : List ℕ
half = 0 ∷ 0 ∷ 0 ∷ 0 ∷ 0 ∷ 0 ∷ 0 ∷ 191 ∷ []

abbrev quiet : List ℕ
quiet = 0 ∷ 0 ∷ 0 ∷ 0 ∷ 0 ∷ 0 ∷ 0 ∷ 0 ∷ []

abbrev said : List ℕ → Reply
said x = record { answer = answer 0 0; left = x; right = x }

pub echo_tail : tail_answer (write_board echo) ≡ answer 0 3
unfolding tail_answer tail_of tail_by late_wires is_late visiting_list write_board kind_of read_board read_records run step_of take_found found_at found_of rule_of of_bits check_sources distinct
echo_tail = refl

pub echo_blocks : replies (call_in listed (write_board echo)) three (fresh_memory p)
    ≡ said quiet ∷ said half ∷ said quiet ∷ []
unfolding write_board kind_of fresh_values fresh_cell number_of block_in read_board read_records run step_of take_found found_at found_of rule_of check_sources distinct
    visiting_list check_cells check_samples number_fits carry_fits place_fits words unwords run_nodes run_node put_input node_run run_cell iter step_cell put_frame frame_at
    cell_of values_of sample_by state_by left_of right_of keeps carry_after get x_line y_line place_after line_after total of_bits to_bits add mul round
echo_blocks = refl
