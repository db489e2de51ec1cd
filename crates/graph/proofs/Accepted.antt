-- What a call knows of the board that `read_board` gives it. Assumes nothing.
use Prim.Native.Nat.{ℕ, zero, suc, ◌+◌, ◌≤◌, ◌<◌}
use mathlib.Core.Path.{◌≡◌, refl, sym, subst, ◌∙◌}
use mathlib.Core.List.{List, [], ◌∷◌}
use mathlib.Core.Bool.{Bool, true, false}
use native.Mathlib.Omega.{arith}
use Rattle.std.specs.Prelude.{Ok}
use borrow.Author.Tests.{ltb-true, ltb-false, leb-true, ne_eqb}
use lib.Dec.{ltb, leb}
use lib.ListN.{length, get_or, take}
use lib.Seq.{length-take-le}
use Rattle.kinds.specs.Kind.{cell_size, fewest, most}
use Rattle.kinds.specs.declared.kind.NodeRecord.{NodeRecord}
use Rattle.reading.specs.Order.{Wire, Each, sources}
use Rattle.reading.proofs.Order.{each-source}
use Rattle.boards.specs.Board.{Parsed, blank, whole, cells_of}
use Rattle.sources.specs.Sources.{distinct, distinct_sources}
use Rattle.boards.specs.Wires.{wires_of}
use Rattle.boards.specs.Judge.{read_board}
use Rattle.boards.specs.Read.{parsed_of, Read}
use Rattle.boards.specs.Formed.{Formed, TableAt}
use Rattle.graph.specs.Listed.{SourcesBelow}
use Rattle.boards.specs.Obeys.{WireObeys}
use Rattle.boards.specs.declared.board.Board.{Board}
use Rattle.reading.proofs.Choice.{both}
use Rattle.boards.proofs.Six.{sources_few}
use Rattle.graph.proofs.Listed.{mem_at}
use Rattle.boards.proofs.RoundSources.{mem_distinct}
use Rattle.boards.proofs.Formed.{whole_formed}

-- ---- cells stand one after the other

-- the cell of node i ends where the cells of the nodes up to it end, and no later than that of a later node starts
pub cells_apart : (N : ℕ) (ns : List NodeRecord) (d : NodeRecord) (i j : ℕ) → i < j → j ≤ length ns
    → cells_of N (take i ns) + cell_size N (get_or ns i d).kind ≤ cells_of N (take j ns)
cells_apart N ns d i zero l h = absurd (omega arith)
cells_apart N [] d i (suc j) l h = absurd (omega arith)
cells_apart N (r ∷ ns) d zero (suc j) l h = omega arith
cells_apart N (r ∷ ns) d (suc i) (suc j) l h = omega (arith, cells_apart N ns d i j (omega arith) (omega arith))

-- ---- sources are nodes, and few

pub joins_below : (n : ℕ) (ws : List Wire) → Each (WireObeys n) ws → SourcesBelow ws n
joins_below n ws h k s e = let f = each-source (WireObeys n) ws h k s e in subst (λ (i : ℕ). i < n) f.2 f.1.source_there

distinct_below : (n : ℕ) (ws : List Wire) (v : ℕ) → Each (WireObeys n) ws → (j : ℕ) → j < length (distinct_sources ws v) → get_or (distinct_sources ws v) j 0 < n
distinct_below n ws v h j b = joins_below n ws h v _ (sym (mem_distinct _ (sources ws v)) ∙ mem_at (distinct_sources ws v) j b)

-- no wire leads into a node that is not there
no_sources : (n : ℕ) (ws : List Wire) (v : ℕ) → Each (WireObeys n) ws → n ≤ v → sources ws v ≡ []
no_sources n [] v h l = refl
no_sources n (w ∷ ws) v h l =
    let apart : w.target ≡ v → ⊥ = λ e. omega (arith, h.0.target_there) in
    rw (ne_eqb w.target v apart) (no_sources n ws v h.1 l)

none_few : length (distinct []) ≤ 8
unfolding distinct
none_few = omega arith

pub few_sources : (p : Parsed) → Formed p → (v : ℕ) → length (distinct_sources p.wires v) ≤ 8
few_sources p f v = split (ltb v (length p.nodes)) refl
  where
    split : (b : Bool) → ltb v (length p.nodes) ≡ b → length (distinct_sources p.wires v) ≤ 8
    split true e =
        let k = (get_or p.nodes v blank).kind in
        let n = length (distinct_sources p.wires v) in
        let two = both (leb (fewest k) n) (leb n (most k)) (f.sources_fit_lem blank v (ltb-true v (length p.nodes) e)) in
        omega (arith, leb-true n (most k) two.1, (sources_few k).1)
    split false e = rw (no_sources (length p.nodes) p.wires v f.joins (ltb-false v (length p.nodes) e)) none_few

-- ---- the board in arrays

module _ (s : List ℕ) (b : Board) (read : Read (read_board s) (Ok b)) where
  pub accepted_board : read_board s ≡ whole (parsed_of b)
  accepted_board = read

  pub accepted_formed : Formed (parsed_of b)
  accepted_formed = whole_formed s (parsed_of b) read

  pub count_is : length (take b.count b.nodes) ≡ b.count
  count_is = length-take-le b.count b.nodes (omega (arith, b.long, b.few))

  pub table_at : (v : ℕ) → v < 64 → TableAt b v
  table_at v l =
      let ws = wires_of b.wires.list b.wires.count in
      let table = b.table in
      let few : length (distinct_sources ws v) ≤ 8 = few_sources (parsed_of b) accepted_formed v in
      let all : get_or b.sources.counts v 0 ≡ length (distinct_sources ws v) = omega (arith, table.counted v l) in
      record {
        few = omega arith;
        count_is = all;
        source_is = λ j q. table.listed v j l (omega arith) (omega arith);
        source_in = λ j q. rw (table.listed v j l (omega arith) (omega arith)) (rw count_is at (distinct_below (length (take b.count b.nodes)) ws v accepted_formed.joins j (omega arith)));
      }
