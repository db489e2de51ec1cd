-- The smallest board on which words come straight back (`Direct`): N 1; destination, pass, which is the input node; wire 1→0. The words −8388608, −1
-- and 8388607 come back on both channels, by computation from the definitions of the calls; a block of four bytes is refused with 13 and leaves
-- what stood in the output blocks. Assumes nothing.
use Prim.Native.Nat.{ℕ}
use mathlib.Core.Path.{◌≡◌, refl}
use mathlib.Core.List.{List, [], ◌∷◌}
use lib.Ieee.{of_bits, to_bits, add, mul, round}
use Rattle.values.specs.Words.{words, unwords}
use Rattle.leaves.specs.Sine.{over23}
use Rattle.leaves.specs.Converter.{of_word, to_word, triples, words_of}
use Rattle.kinds.specs.Kind.{rule_of}
use Rattle.kinds.specs.Iter.{iter}
use Rattle.kinds.specs.Rule.{total, left_of, right_of, keeps, carry_after, get, x_line, y_line, place_after, line_after, sample_by, state_by}
use Rattle.kinds.specs.Cell.{values_of, cell_of, number_of, fresh_cell, number_fits, carry_fits, place_fits, frame_at, put_frame, step_cell, run_cell}
use Rattle.kinds.specs.Node.{node_run}
use Rattle.reading.specs.Calls.{replies}
use Rattle.records.specs.Answer.{answer}
use Rattle.records.specs.Record.{found_of, found_at}
use Rattle.sources.specs.Sources.{distinct}
use Rattle.boards.specs.Board.{Parsed, whole, take_found, step_of, run, read_records}
use Rattle.reading.specs.Order.{wire}
use Rattle.boards.specs.Judge.{check_sources, read_board}
use Rattle.graph.specs.Visit.{visiting_list}
use Rattle.memory.specs.Memory.{fresh_values, check_cells, listed}
use Rattle.running.specs.Run.{run_node, run_nodes, put_input}
use Rattle.packed.specs.Packed.{packed_in}
use Rattle.samples.specs.Reading.{Reply, block24}
use Rattle.samples.specs.Claim.{call_in, fresh_memory}
use Rattle.samples.specs.Straight.{Direct}
use Rattle.records.specs.Write.{NodeCard, Card, write_board}
use Rattle.boards.specs.Obeys.{kind_of, as_read}

abbrev node : ℕ → NodeCard
node t = record { type = t; n = 0; f = 0 }

abbrev through : Card
through = record { size = 1; input = 1; nodes = node 3 ∷ node 1 ∷ []; wires = wire 1 0 ∷ [] }

abbrev p : Parsed
p = as_read through

pub reads : read_board (write_board through) ≡ whole p
unfolding write_board kind_of read_board read_records run step_of take_found found_at found_of rule_of of_bits check_sources distinct
reads = refl

pub direct : Direct p
direct = refl

abbrev lowest : List ℕ
lowest = 0 ∷ 0 ∷ 128 ∷ []

abbrev below_zero : List ℕ
below_zero = 255 ∷ 255 ∷ 255 ∷ []

abbrev highest : List ℕ
highest = 255 ∷ 255 ∷ 127 ∷ []

-- with the same block on both channels
abbrev said : ℕ → ℕ → List ℕ → Reply
said n w x = record { answer = answer n w; left = x; right = x }

pub words_through : replies (call_in listed (write_board through))
    (block24 lowest highest highest ∷ block24 below_zero highest highest ∷ block24 highest lowest lowest ∷ block24 (0 ∷ 0 ∷ 0 ∷ 0 ∷ []) lowest lowest ∷ []) (fresh_memory p)
    ≡ said 0 0 lowest ∷ said 0 0 below_zero ∷ said 0 0 highest ∷ said 13 1 lowest ∷ []
unfolding write_board kind_of fresh_values fresh_cell number_of packed_in read_board read_records run step_of take_found found_at found_of rule_of check_sources distinct
    visiting_list check_cells number_fits carry_fits place_fits words unwords triples words_of of_word to_word over23 run_nodes run_node put_input node_run run_cell iter
    step_cell put_frame frame_at cell_of values_of sample_by state_by left_of right_of keeps carry_after get x_line y_line place_after line_after total of_bits to_bits add mul round
words_through = refl
