-- Document 01's printed board, N 2, lent with 8 spare bytes: the wire 3→0 is pulled and put back. While it is out, node 0 alone is reached, and
-- the delay's line stands still. Blocks (1, 0), (0, 0) give (0, 1), (0, 0); then the wire is pulled, and (1, 1) gives (0, 0); then it is put
-- back, and (0, 0) gives (0.5, 0), which is what it gives as the third block without the change. By computation from the definitions of the
-- calls on bytes, and so every reading says the same. Assumes nothing.
use Prim.Native.Nat.{ℕ, zero, suc}
use mathlib.Core.Path.{◌≡◌, refl, sym, ◌∙◌}
use mathlib.Core.Bool.{Bool, true, ◌&&◌, and-eq-true_iff}
use mathlib.Core.List.{List, [], ◌∷◌, ◌++◌}
use native.Mathlib.Omega.{arith}
use borrow.Author.Tests.{ltb-true}
use lib.ListN.{take, drop}
use lib.Dec.{ltb}
use lib.Ieee.{of_bits, to_bits, add, mul, round}
use Rattle.values.specs.Words.{Bytes, words, unwords}
use Rattle.kinds.specs.Kind.{rule_of}
use Rattle.kinds.specs.Iter.{iter}
use Rattle.kinds.specs.History.{Heard}
use Rattle.kinds.specs.Rule.{Frame, total, left_of, right_of, keeps, carry_after, get, x_line, y_line, place_after, line_after, sample_by, state_by}
use Rattle.kinds.specs.Cell.{values_of, cell_of, number_of, fresh_cell, number_fits, carry_fits, place_fits, frame_at, put_frame, step_cell, run_cell}
use Rattle.kinds.specs.Node.{node_run}
use Rattle.reading.specs.Time.{Timed}
use Rattle.reading.specs.Calls.{replies, after_calls}
use Rattle.records.specs.Record.{found_of, found_at}
use Rattle.sources.specs.Sources.{distinct}
use Rattle.boards.specs.Board.{whole, take_found, step_of, run, read_records}
use Rattle.boards.specs.Judge.{check_sources, read_board}
use Rattle.boards.specs.JudgeCases.{printed}
use Rattle.graph.specs.Visit.{visiting_list}
use Rattle.boards.specs.Obeys.{kind_of}
use Rattle.wiring.specs.Rewire.{wiring, refusal, added_board, pulled_board, add_of, pull_of}
use Rattle.memory.specs.Memory.{fresh_values, check_cells, listed}
use Rattle.running.specs.Run.{run_node, run_nodes, put_input}
use Rattle.context.specs.Block.{check_samples, block_in}
use Rattle.samples.specs.Reading.{block}
use Rattle.samples.specs.Claim.{fresh_memory}
use Rattle.samples.proofs.DemandWorked.{one, ahead, half, quiet, said, p}
use Rattle.demand.specs.Requests.{Lent, board_in, Request, call, pull, requested, IsRewired, Said, replied, wired, said_by}
use Rattle.demand.specs.Requests as request
use Rattle.demand.specs.Claim.{request_in}
use Rattle.demand.proofs.Claim.{board_claim, own_order}

abbrev lent : Lent
lent = record { bytes = printed ++ (0 ∷ 0 ∷ 0 ∷ 0 ∷ 0 ∷ 0 ∷ 0 ∷ 0 ∷ []); used = 122 }

-- ---- the requests, and what they answer and write

-- (1, 1)
abbrev ones : List ℕ
ones = 0 ∷ 0 ∷ 128 ∷ 63 ∷ 0 ∷ 0 ∷ 128 ∷ 63 ∷ []

abbrev play : List ℕ → Request
play x = call (block x quiet quiet)

-- with the wire out, and with it put back
abbrev apart : List Request
apart = play one ∷ play quiet ∷ pull 3 0 ∷ play ones ∷ []

abbrev again : List Request
again = play one ∷ play quiet ∷ pull 3 0 ∷ play ones ∷ request.add 3 0 ∷ play quiet ∷ []

abbrev gives : List ℕ → Said
gives x = replied (said x)

-- a change is accepted and answers the new visiting list
abbrev lists : List ℕ → Said
lists o = wired (wiring 0 0 o)

abbrev written : List Said
written = gives ahead ∷ gives quiet ∷ lists (0 ∷ []) ∷ gives quiet ∷ lists (1 ∷ 4 ∷ 2 ∷ 3 ∷ 0 ∷ []) ∷ gives half ∷ []

pub answered : replies (request_in listed) again (lent, fresh_memory p) ≡ written
unfolding add_of pull_of added_board pulled_board kind_of fresh_values fresh_cell number_of block_in read_board read_records run step_of take_found found_at
    found_of rule_of check_sources distinct visiting_list check_cells check_samples number_fits carry_fits place_fits words unwords run_nodes run_node
    put_input node_run run_cell iter step_cell put_frame frame_at cell_of values_of sample_by state_by left_of right_of keeps carry_after get x_line y_line
    place_after line_after total of_bits to_bits add mul round
answered = refl

-- The late wire 3→4 brings the block that the delay last wrote, also over a block in which it is out of reach: after (1, 0) the delay's block
-- is (0, 1), half of it comes back into the loop once the wire is put back, and is heard in the block after.
pub late-over : replies (request_in listed) (play one ∷ pull 3 0 ∷ play ones ∷ request.add 3 0 ∷ play quiet ∷ play quiet ∷ []) (lent, fresh_memory p)
    ≡ gives ahead ∷ lists (0 ∷ []) ∷ gives quiet ∷ lists (1 ∷ 4 ∷ 2 ∷ 3 ∷ 0 ∷ []) ∷ gives quiet ∷ gives half ∷ []
unfolding add_of pull_of added_board pulled_board kind_of fresh_values fresh_cell number_of block_in read_board read_records run step_of take_found found_at
    found_of rule_of check_sources distinct visiting_list check_cells check_samples number_fits carry_fits place_fits words unwords run_nodes run_node
    put_input node_run run_cell iter step_cell put_frame frame_at cell_of values_of sample_by state_by left_of right_of keeps carry_after get x_line y_line
    place_after line_after total of_bits to_bits add mul round
late-over = refl

-- a wire that is not there, and one from a node to itself, whose record would stand at 118, are refused and change nothing
pub refused_changes : replies (request_in listed) (pull 0 3 ∷ request.add 3 3 ∷ play one ∷ []) (lent, fresh_memory p)
    ≡ wired (refusal 16 3) ∷ wired (refusal 5 118) ∷ gives ahead ∷ []
unfolding add_of pull_of added_board pulled_board kind_of fresh_values fresh_cell number_of block_in read_board read_records run step_of take_found found_at
    found_of rule_of check_sources distinct visiting_list check_cells check_samples number_fits carry_fits place_fits words unwords run_nodes run_node
    put_input node_run run_cell iter step_cell put_frame frame_at cell_of values_of sample_by state_by left_of right_of keeps carry_after get x_line y_line
    place_after line_after total of_bits to_bits add mul round
refused_changes = refl

-- ---- what is left

abbrev after : List Request → Lent × List ℕ
after cs = after_calls (request_in listed) cs (lent, fresh_memory p)

-- n of the memory's values, from the place at on
abbrev values : List Request → ℕ → ℕ → List ℕ
values cs at n = take n (drop at (words (after cs).1))

-- While the wire is out the delay's cell, six values from 17 on, stands still: its line holds 0.5 at place 0, as before. The input node's
-- samples, two values from 10 on, are the input block all the same. With the wire back, what is lent is as at first.
pub left_apart : (values (play one ∷ play quiet ∷ []) 17 6 ≡ values apart 17 6)
    × (values apart 17 6 ≡ 0 ∷ 0 ∷ 0 ∷ 0 ∷ 0 ∷ 0x3f00_0000 ∷ [])
    × (values apart 10 2 ≡ 0x3f80_0000 ∷ 0x3f80_0000 ∷ [])
    × ((after again).0 ≡ lent)
unfolding add_of pull_of added_board pulled_board kind_of fresh_values fresh_cell number_of block_in read_board read_records run step_of take_found found_at
    found_of rule_of check_sources distinct visiting_list check_cells check_samples number_fits carry_fits place_fits words unwords run_nodes run_node
    put_input node_run run_cell iter step_cell put_frame frame_at cell_of values_of sample_by state_by left_of right_of keeps carry_after get x_line y_line
    place_after line_after total of_bits to_bits add mul round
left_apart = (refl, refl, refl, refl)

-- ---- and so says every reading

small : List ℕ → Bool
small [] = true
small (x ∷ xs) = ltb x 256 && small xs

small_bytes : (m : List ℕ) → small m ≡ true → Bytes m
unfolding small
small_bytes [] e i = omega arith
small_bytes (x ∷ xs) e zero = ltb-true x 256 ((and-eq-true_iff (ltb x 256) (small xs)).0 e).0
small_bytes (x ∷ xs) e (suc i) = small_bytes xs ((and-eq-true_iff (ltb x 256) (small xs)).0 e).1 i

lent_bytes : Bytes lent.bytes
unfolding small
lent_bytes = small_bytes lent.bytes refl

reads : read_board (board_in lent) ≡ whole p
unfolding kind_of read_board read_records run step_of take_found found_at found_of rule_of of_bits check_sources distinct
reads = refl

pub reading_says : (s : Timed Frame) (u : Timed Heard) → IsRewired p lent (requested p lent again) s u → said_by p s lent 0 again ≡ written
reading_says s u r = sym ((board_claim lent lent_bytes p reads again).as_read s u r listed (own_order p)).replies ∙ answered
