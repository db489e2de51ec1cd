-- What an accepted block run knows, on the board as the code holds it.
--     words-paste       the words of bytes with a part replaced
--     Checked           what the checks behind 6 say where they pass
--     board_table, board_gathered    the sources as the visiting list asks for them
--     AcceptedRun       an accepted call; few_bytes, input_room, output_room: its memory is small, and the blocks lie within it
--     input_put, input_runs    the input block put, and what the run of the listed nodes then asks
-- Assumes nothing.
use Prim.Native.Nat.{ℕ, ◌+◌, ◌*◌, ◌≤◌, ◌<◌}
use mathlib.Core.Path.{◌≡◌, sym, ap, ◌∙◌}
use mathlib.Core.List.{List, ◌++◌}
use native.Mathlib.Omega.{arith}
use lib.ListN.{length, take, drop}
use lib.Seq.{paste, length-paste, length-take-le, length_paste_head}
use Rattle.values.specs.Words.{words, length-words, words_append, words_take, words-drop}
use Rattle.kinds.specs.Kind.{cell_size, samples_from}
use Rattle.kinds.specs.declared.kind.NodeRecord.{NodeRecord}
use Rattle.boards.specs.Board.{Parsed, cells_of, memory_length}
use Rattle.boards.specs.Formed.{TableAt}
use Rattle.graph.specs.Visit.{Lists}
use Rattle.graph.specs.Walking.{Table, Gathered}
use Rattle.memory.specs.Memory.{node_in, node_at, kind_at, listed}
use Rattle.running.specs.Run.{put_input}
use Rattle.memory.specs.Calls.{and_then}
use Rattle.context.specs.Block.{check_blocks, check_samples}
use Rattle.boards.specs.Read.{parsed_of}
use Rattle.memory.specs.Fine.{Fine}
use Rattle.running.specs.Lent.{StartsOf, Runs}
use Rattle.nodes.specs.declared.node.Starts.{Starts}
use Rattle.boards.specs.declared.board.Board.{Board}
use Rattle.graph.specs.declared.graph.Order.{Order}
use Rattle.memory.proofs.CallCells.{cell_in, node_in_lem, count_nodes}
use Rattle.context.proofs.BlockChecks.{sizes_accepted}
use Rattle.memory.proofs.CallChecks.{then_both}
use Rattle.memory.proofs.CallLaws.{Whole, Judged, judged_passed}
use Rattle.running.proofs.RunLaws.{input_judged}

-- ---- bytes

pub words-paste : (m x : List ℕ) (a k : ℕ) → 4 * (a + k) ≤ length m → 4 * k ≤ length x → words (paste m (4 * a) x (4 * k)) ≡ paste (words m) a (words x) k
words-paste m x a k inside enough =
    let end : 4 * a + 4 * k ≡ 4 * (a + k) = omega arith in
    words_append (take (4 * a) m ++ take (4 * k) x) (drop (4 * a + 4 * k) m) (a + k) (length_paste_head m (4 * a) x (4 * k) (omega arith) enough ∙ end)
    ∙ ap (λ (l : List ℕ). l ++ words (drop (4 * a + 4 * k) m)) (words_append (take (4 * a) m) (take (4 * k) x) a (length-take-le (4 * a) m (omega arith)))
    ∙ ap (λ (l : List ℕ). l ++ words (take (4 * k) x) ++ words (drop (4 * a + 4 * k) m)) (words_take m a)
    ∙ ap (λ (l : List ℕ). take a (words m) ++ l ++ words (drop (4 * a + 4 * k) m)) (words_take x k)
    ∙ ap (λ (l : List ℕ). take a (words m) ++ take k (words x) ++ l) (ap (λ (n : ℕ). words (drop n m)) end ∙ words-drop m (a + k))

-- ---- checks that pass

-- what the checks behind 6 say where they pass
pub record Checked (p : Parsed) (m x l r : List ℕ) : Type 0 where
  pub long : length m ≡ memory_length p
  pub judged : Judged p (words m)
  pub input_long : length x ≡ 4 * p.size
  pub left_long : length l ≡ 4 * p.size
  pub right_long : length r ≡ 4 * p.size

-- ---- the board

module _ (b : Board) (table : (v : ℕ) → v < 64 → TableAt b v) where
  -- the sources, as the visiting list asks for them
  pub board_table : Table b.sources.counts b.sources.lists
  board_table = record { few = λ v h. (table v h).few; nodes = λ v j h l. omega (arith, (table v h).source_in j l, b.few) }

  pub board_gathered : Gathered (parsed_of b).wires b.sources.counts b.sources.lists
  board_gathered = record { size = λ v h. (table v h).count_is; source = λ v j h l. (table v h).source_is j l }

-- ---- the call

-- the board is read whole, and the checks pass
pub record AcceptedRun (m x l r : List ℕ) (b : Board) : Type 0 where
  pub fine : Fine (parsed_of b)
  pub table : (v : ℕ) → v < 64 → TableAt b v
  pub long : length m ≡ memory_length (parsed_of b)
  pub judged : Judged (parsed_of b) (words m)
  pub passes : (and_then (check_blocks (parsed_of b) x l r) (check_samples 0 (words x))).number ≡ 0

module _ {m x l r : List ℕ} {b : Board} (run : AcceptedRun m x l r b) where
  pub checked : Checked (parsed_of b) m x l r
  checked =
      let sizes = sizes_accepted b.size (length x) (length l) (length r) (then_both (check_blocks (parsed_of b) x l r) (check_samples 0 (words x)) run.passes).0 in
      record { long = run.long; judged = run.judged; input_long = sizes.0; left_long = sizes.1; right_long = sizes.2 }

  abbrev start : ℕ
  start = (node_in b.nodes b.input).cell + samples_from

  there : b.input < b.count
  there = omega (arith, run.fine.input_there, count_nodes b)

  -- the input node is a pass
  input_cell : (node_at (parsed_of b) b.input).cell + (samples_from + b.size) ≤ cells_of b.size (parsed_of b).nodes
  input_cell =
      let size : cell_size b.size (kind_at (parsed_of b) b.input) ≡ samples_from + b.size = ap (cell_size b.size) run.fine.input_pass ∙ omega arith in
      omega (arith, cell_in (parsed_of b) run.fine b.input run.fine.input_there)

  start_is : (node_at (parsed_of b) b.input).cell + samples_from ≡ start
  start_is = ap (λ (n : NodeRecord). n.cell + samples_from) (node_in_lem b b.input there)

  pub input_room : 4 * ((node_in b.nodes b.input).cell + samples_from) + 4 * b.size ≤ length m
  input_room = omega (arith, input_cell, start_is, checked.long)

  -- node 0 is the destination
  pub output_room : 4 * (samples_from + b.size + b.size) ≤ length m
  output_room =
      let size : cell_size b.size (kind_at (parsed_of b) 0) ≡ samples_from + b.size + b.size = ap (cell_size b.size) run.fine.destination ∙ omega arith in
      omega (arith, cell_in (parsed_of b) run.fine 0 run.fine.formed.some_nodes, checked.long)

  pub few_bytes : length m ≤ 1114880
  few_bytes = omega (arith, checked.long, b.sum, b.held)

  -- ---- the input block copied in

  module _ (m₁ : List ℕ) (put : m₁ ≡ paste m (4 * ((node_in b.nodes b.input).cell + samples_from)) x (length x)) where
    by_size : m₁ ≡ paste m (4 * start) x (4 * b.size)
    by_size = put ∙ ap (paste m (4 * start) x) checked.input_long

    pub input_put : words m₁ ≡ put_input (parsed_of b) (words x) (words m)
    unfolding put_input
    input_put =
        ap words by_size ∙ words-paste m x start b.size (omega (arith, input_room)) (omega (arith, checked.input_long))
        ∙ ap (λ (n : ℕ). paste (words m) n (words x) b.size) (sym start_is)

    pub input_runs : (st : Starts) → StartsOf (take b.count b.nodes) b.size st → (o : Order) → Lists (listed (parsed_of b)) o.nodes o.count → Runs b st o m₁
    input_runs st starts o lists =
        let block : length (words x) ≡ b.size = length-words x ∙ omega (arith, checked.input_long) in
        let whole-memory : Whole (parsed_of b) (words m) = length-words m ∙ omega (arith, checked.long) in
        record {
          fine = run.fine;
          table = run.table;
          starts = starts;
          lists = lists;
          long = ap length by_size ∙ length-paste m (4 * start) x (4 * b.size) (omega (arith, input_room)) (omega (arith, checked.input_long)) ∙ checked.long;
          judged = judged_passed (parsed_of b) (words m₁) (rw input_put (input_judged (parsed_of b) run.fine (words m) whole-memory (words x) block checked.judged));
        }
