-- One turn of the run of the listed nodes, on the board as the code holds it.
--     starts_fit        what the starts of the samples ask
--     turn_ready        what a node's block run asks
--     turn_run          that it is the definition's
--     Running           the run under way: running_none, running_more, running_end
-- Assumes nothing.
use Prim.Native.Nat.{ℕ, zero, suc, ◌+◌, ◌-◌, ◌*◌, ◌≤◌, ◌<◌}
use mathlib.Core.Path.{◌≡◌, refl, sym, ap, subst, ◌∙◌}
use mathlib.Core.Bool.{true}
use mathlib.Core.List.{List, [], ◌∷◌, map}
use native.Mathlib.Numerals.{add-one}
use native.Mathlib.Omega.{arith}
use lib.Dec.{eqb}
use lib.ListN.{length, get_or, take, drop, length-drop, drop_of_length-le}
use lib.Seq.{get_or-take, get_or-drop, drop-cons, length-take-le, take-length, ext_get_or}
use Rattle.values.specs.Words.{words, length-words}
use Rattle.values.specs.Floats.{float_at}
use Rattle.kinds.specs.Row.{Writes, mono, keeping, stereo, row_of}
use Rattle.kinds.specs.Kind.{channels_by, channels_of, line_of, cell_size, samples_from}
use Rattle.kinds.specs.Rule.{Brought}
use Rattle.operators.specs.Sums.{InMemory}
use Rattle.nodes.specs.Ready.{Ready}
use Rattle.kinds.specs.Node.{brought_at, node_run}
use Rattle.kinds.specs.declared.kind.NodeKind.{NodeKind}
use Rattle.kinds.specs.declared.kind.NodeRecord.{NodeRecord}
use Rattle.reading.specs.Table.{mem}
use Rattle.reading.specs.Order.{sources}
use Rattle.reading.proofs.Table.{mem-head, or_right, map_agree}
use Rattle.boards.specs.Board.{blank, Parsed, cells_of}
use Rattle.sources.specs.Sources.{distinct_sources, second_source}
use Rattle.memory.specs.Memory.{node_in, node_at, kind_at, listed}
use Rattle.running.specs.Run.{left_start, right_start, brought_by, run_node, run_nodes}
use Rattle.boards.specs.Read.{parsed_of}
use Rattle.graph.specs.Listed.{SourcesBelow}
use Rattle.memory.specs.Fine.{Fine}
use Rattle.boards.specs.Formed.{TableAt}
use Rattle.running.specs.Lent.{StartsFit, Started, StartsOf, Runs}
use Rattle.nodes.specs.declared.node.Starts.{Starts}
use Rattle.records.specs.declared.answer.Answer.{Answer}
use Rattle.boards.specs.declared.board.Board.{Board}
use Rattle.graph.specs.declared.graph.Order.{Order}
use Rattle.graph.proofs.Listed.{mem_at}
use Rattle.boards.proofs.RoundSources.{mem_distinct}
use Rattle.memory.proofs.FineBoard.{listed_there, source_there}
use Rattle.memory.proofs.CallCells.{cell_in, node_in_lem, count_nodes}
use Rattle.running.proofs.CallStarts.{mapped_at}
use Rattle.memory.proofs.CallLaws.{Judged, passed_judged}
use Rattle.running.proofs.RunLaws.{node_judged}

-- ---- the samples of a cell

-- channel 0, and what the destination's channel 1 reads, lie within the cell; a kind has one channel or two
record Within (N : ℕ) (k : NodeKind) : Type 0 where
  left : samples_from + N ≤ cell_size N k
  right : samples_from + N * (channels_of k - 1) + N ≤ cell_size N k
  some : 1 ≤ channels_of k
  few : channels_of k ≤ 2

samples_by : (N m : ℕ) (w : Writes) → (samples_from + N ≤ samples_from + N * channels_by w + m) × (samples_from + N * (channels_by w - 1) + N ≤ samples_from + N * channels_by w + m)
    × (1 ≤ channels_by w) × (channels_by w ≤ 2)
samples_by N m (mono l) = omega arith
samples_by N m (keeping l) = omega arith
samples_by N m (stereo l r) = omega arith

samples_within : (N : ℕ) (k : NodeKind) → Within N k
samples_within N k = let h = samples_by N (line_of k) (row_of k).writes in record { left = h.0; right = h.1; some = h.2; few = h.3 }

-- ---- lists

-- a number of a list, or the 0 past its end
number_below : (n : ℕ) (l : List ℕ) → 0 < n → ((s : ℕ) → mem s l ≡ true → s < n) → (j : ℕ) → get_or l j 0 < n
number_below n [] h f j = h
number_below n (x ∷ l) h f zero = f x (mem-head x l)
number_below n (x ∷ l) h f (suc j) = number_below n l h (λ s e. f s (or_right (eqb s x) e)) j

-- ---- the board in arrays

module _ (b : Board) (fine : Fine (parsed_of b)) where
  abbrev p : Parsed
  p = parsed_of b

  abbrev N : ℕ
  N = b.size

  node_there : (k : ℕ) → k < b.count → k < length p.nodes
  node_there k h = omega (arith, count_nodes b)

  pub starts_fit : StartsFit p.nodes (length p.nodes)
  starts_fit k there =
      let w = samples_within N (kind_at p k) in
      record {
        some_channel = omega (arith, (fine.nodes k there).channels, w.some);
        few_channels = omega (arith, (fine.nodes k there).channels, w.few);
        cell_in = omega (arith, cell_in p fine k there, b.sum, b.held);
      }

  source_below : SourcesBelow p.wires b.count
  source_below k s e = omega (arith, source_there p fine k s e, count_nodes b)

  module _ (table : (v : ℕ) → v < 64 → TableAt b v) (k : ℕ) (here : k < b.count) where
    small : k < 64
    small = omega (arith, b.few)

    -- ---- the sources

    distinct_there : (s : ℕ) → mem s (distinct_sources p.wires k) ≡ true → s < b.count
    distinct_there s e = source_below k s (sym (mem_distinct s (sources p.wires k)) ∙ e)

    second_there : second_source p.wires k < b.count
    second_there = number_below b.count (sources p.wires k) (omega (arith, fine.formed.some_nodes, count_nodes b)) (source_below k) 1

    module _ (r : ℕ) (count_is : r ≡ get_or b.sources.counts k 0) where
      abbrev list : List ℕ
      list = take r (drop (8 * k) b.sources.lists)

      list_long : length list ≡ r
      list_long =
          length-take-le r (drop (8 * k) b.sources.lists) (omega (arith, length-drop (8 * k) b.sources.lists, b.table.lists_long, (table k small).few))

      list_at : (j : ℕ) → j < r → get_or list j 0 ≡ get_or b.sources.lists (8 * k + j) 0
      list_at j h = get_or-take r (drop (8 * k) b.sources.lists) j 0 h ∙ get_or-drop (8 * k) b.sources.lists j 0

      list_is : list ≡ distinct_sources p.wires k
      list_is =
          ext_get_or 0 list (distinct_sources p.wires k) (list_long ∙ count_is ∙ (table k small).count_is)
          (λ j h. list_at j (omega (arith, list_long)) ∙ (table k small).source_is j (omega (arith, list_long)))

      list_there : (j : ℕ) → j < length list → get_or list j 0 < b.count
      list_there j h =
          subst (λ (s : ℕ). s < b.count) (sym (list_at j (omega (arith, list_long)))) ((table k small).source_in j (omega (arith, list_long)))

      -- ---- the starts of the samples

      module _ (start : NodeRecord → ℕ) (at : List ℕ) (starts : Started start p.nodes (length p.nodes) at) where
        start_same : (s : ℕ) → s < b.count → get_or at s 0 ≡ get_or (map start p.nodes) s 0
        start_same s h =
            sym (get_or-take (length p.nodes) at s 0 (node_there s h))
            ∙ ap (λ (l : List ℕ). get_or l s 0) (starts.same ∙ ap (map start) (take-length p.nodes))

        start_is : (s : ℕ) → s < b.count → get_or at s 0 ≡ start (node_at p s)
        start_is s h = start_same s h ∙ mapped_at start p.nodes s (node_there s h)

        samples_same : (ws : List ℕ) (i : ℕ)
            → map (λ s. float_at ws (get_or at s 0 + i)) (distinct_sources p.wires k) ≡ map (λ s. float_at ws (get_or (map start p.nodes) s 0 + i)) (distinct_sources p.wires k)
        samples_same ws i = map_agree _ _ (distinct_sources p.wires k) (λ s e. ap (λ (n : ℕ). float_at ws (n + i)) (start_same s (distinct_there s e)))

        samples_in : (m : List ℕ) → length m ≡ 4 * cells_of N p.nodes
            → ((s : ℕ) → s < length p.nodes → start (node_at p s) + N ≤ (node_at p s).cell + cell_size N (kind_at p s)) → InMemory list at N (length m)
        samples_in m long h j l =
            let s : ℕ = get_or list j 0 in
            let q : s < b.count = list_there j l in
            (omega (arith, b.few), omega (arith, start_is s q, h s (node_there s q), cell_in p fine s (node_there s q)))

      -- ---- a turn

      module _ (started : Starts) (starts : StartsOf p.nodes b.size started) (second : ℕ) (second_is : second ≡ get_or b.sources.seconds k 0) where
        abbrev at₀ : List ℕ
        at₀ = started.lefts

        abbrev at₁ : List ℕ
        at₁ = started.rights

        abbrev left_starts : Started left_start p.nodes (length p.nodes) at₀
        left_starts = starts.lefts

        abbrev right_starts : Started (right_start b.size) p.nodes (length p.nodes) at₁
        right_starts = starts.rights

        second_same : second ≡ second_source p.wires k
        second_same = second_is ∙ b.table.second k small

        second_low : second < b.count
        second_low = subst (λ (s : ℕ). s < b.count) (sym second_same) second_there

        left_fits : (s : ℕ) → s < length p.nodes → left_start (node_at p s) + N ≤ (node_at p s).cell + cell_size N (kind_at p s)
        left_fits s h = omega (arith, (samples_within N (kind_at p s)).left)

        right_fits : (s : ℕ) → s < length p.nodes → right_start N (node_at p s) + N ≤ (node_at p s).cell + cell_size N (kind_at p s)
        right_fits s h =
            let channels : N * ((node_at p s).channels - 1) ≡ N * (channels_of (kind_at p s) - 1) = ap (λ (c : ℕ). N * (c - 1)) (fine.nodes s h).channels in
            omega (arith, (samples_within N (kind_at p s)).right)

        module _ (m : List ℕ) where
          pub turn_run : node_run (node_in b.nodes k).kind b.size (node_in b.nodes k).cell (brought_at (words m) at₀ at₁ (take r (drop (8 * k) b.sources.lists)) second) (words m)
              ≡ run_node (parsed_of b) k (words m)
          unfolding run_node
          turn_run =
              let bring : List ℕ → ℕ → ℕ → Brought = brought_at (words m) at₀ at₁ in
              let listed_same : bring list second ≡ bring (distinct_sources p.wires k) (second_source p.wires k) =
              ap (λ (l : List ℕ). bring l second) list_is ∙ ap (bring (distinct_sources p.wires k)) second_same in
              let started-same : bring (distinct_sources p.wires k) (second_source p.wires k) ≡ brought_by p (words m) k =
              λ j i. record {
                left = samples_same left_start at₀ left_starts (words m) i j;
                right = samples_same (right_start N) at₁ right_starts (words m) i j;
                second = float_at (words m) (start_same left_start at₀ left_starts (second_source p.wires k) second_there j + i);
              } in
              ap (λ (n : NodeRecord). node_run n.kind N n.cell (bring list second) (words m)) (sym (node_in_lem b k here))
              ∙ ap (λ (bs : ℕ → Brought). node_run (kind_at p k) N (node_at p k).cell bs (words m)) (listed_same ∙ started-same)

          pub turn_ready : length m ≡ 4 * cells_of b.size p.nodes → Judged (parsed_of b) (words m)
              → Ready m (node_in b.nodes k).kind b.size (node_in b.nodes k).cell (take r (drop (8 * k) b.sources.lists)) at₀ at₁ second
          turn_ready long judged =
              let there = node_there k here in
              let length-same : length (distinct_sources p.wires k) ≡ length list = ap length (sym list_is) in
              subst (λ (n : NodeRecord). Ready m n.kind N n.cell list at₀ at₁ second) (node_in_lem b k here) (record {
                above = fine.least_size;
                small = fine.most_size;
                line = (fine.nodes k there).line;
                inside = omega (arith, cell_in p fine k there);
                judged = judged k there;
                counted = rw length-same at (fine.formed.sources_fit_lem blank k there);
                lefts_long = left_starts.long;
                rights_long = right_starts.long;
                left_in = samples_in left_start at₀ left_starts m long left_fits;
                right_in = samples_in (right_start N) at₁ right_starts m long right_fits;
                second_below = omega (arith, second_low, b.few);
                second_in = omega (arith, start_is left_start at₀ left_starts second second_low, left_fits second (node_there second second_low), cell_in p fine second (node_there second second_low));
              })

-- ---- the run under way

-- after i of the listed nodes the memory m₀ has become m: every cell fits, and the nodes that are left make of m what all make of m₀
pub record Running (b : Board) (m₀ m : List ℕ) (i : ℕ) : Type 0 where
  pub kept : length m ≡ length m₀
  pub judged : Judged (parsed_of b) (words m)
  pub left : run_nodes (parsed_of b) (drop i (listed (parsed_of b))) (words m) ≡ run_nodes (parsed_of b) (listed (parsed_of b)) (words m₀)

module _ (b : Board) (st : Starts) (o : Order) (m₀ : List ℕ) (runs : Runs b st o m₀) where
  abbrev nodes : List ℕ
  nodes = listed (parsed_of b)

  pub running_none : Running b m₀ m₀ 0
  running_none = record {
    kept = refl;
    judged = passed_judged (parsed_of b) (words m₀) (ap (λ (a : Answer). a.number) runs.judged);
    left = refl;
  }

  pub running_end : (m : List ℕ) (i : ℕ) → length (listed (parsed_of b)) ≤ i → Running b m₀ m i → words m ≡ run_nodes (parsed_of b) (listed (parsed_of b)) (words m₀)
  unfolding run_nodes
  running_end m i past run =
      let none : drop i nodes ≡ [] = drop_of_length-le nodes past in
      ap (λ (l : List ℕ). run_nodes (parsed_of b) l (words m)) (sym none) ∙ run.left

  module _ (i : ℕ) (more : i < length (listed (parsed_of b))) where
    abbrev k : ℕ
    k = get_or nodes i 0

    pub node_listed : get_or (listed (parsed_of b)) i 0 < b.count
    node_listed = omega (arith, listed_there (parsed_of b) runs.fine k (mem_at nodes i more), count_nodes b)

    pub running_more : (m m' : List ℕ) → Running b m₀ m i → length m' ≡ length m → words m' ≡ run_node (parsed_of b) (get_or (listed (parsed_of b)) i 0) (words m)
        → Running b m₀ m' (i + 1)
    unfolding run_nodes
    running_more m m' run long ran =
        let p = parsed_of b in
        let there : k < length p.nodes = omega (arith, node_listed, count_nodes b) in
        let size : length (words m) ≡ cells_of p.size p.nodes = omega (arith, length-words m, run.kept, runs.long) in
        record {
          kept = long ∙ run.kept;
          judged = rw ran (node_judged p runs.fine (words m) size k there run.judged);
          left =
              rw add-one
              (ap (run_nodes p (drop (suc i) nodes)) ran
              ∙ ap (λ (l : List ℕ). run_nodes p l (words m)) (sym (drop-cons nodes i 0 more))
              ∙ run.left);
        }
