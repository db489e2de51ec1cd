-- A board that is read whole is fine: what `Fine` says of it follows from the rules that its card obeys.
--     fine_board, accepted_fine    the same of the board as the code holds it
--     source_there                 a source is another node of the board
--     lists, listed_there          the visiting list lists the reached nodes, and they are the board's
-- Assumes nothing.
use Prim.Native.Nat.{ℕ, zero, suc, ◌+◌, ◌<◌}
use mathlib.Core.Path.{◌≡◌, refl, sym, ap, subst, subst⁻¹, ◌∙◌}
use mathlib.Core.Logic.{◌≢◌}
use mathlib.Core.Bool.{true}
use mathlib.Core.List.{List, [], ◌∷◌}
use native.Mathlib.Omega.{arith}
use lib.ListN.{length, get_or, take}
use Rattle.std.specs.Prelude.{Ok}
use Rattle.values.specs.Words.{Bytes}
use Rattle.kinds.specs.Kind.{channels_of, cell_size}
use Rattle.kinds.specs.Node.{LineFits}
use Rattle.kinds.specs.declared.kind.NodeKind.TheVariants.{Pass, Destination}
use Rattle.kinds.specs.declared.kind.NodeRecord.{NodeRecord}
use Rattle.kinds.proofs.Fresh.{rule_sound}
use Rattle.reading.specs.Table.{mem}
use Rattle.reading.specs.Order.{sources}
use Rattle.reading.proofs.Order.{each-source}
use Rattle.boards.specs.Board.{Parsed, whole, cells_of}
use Rattle.boards.specs.Judge.{read_board}
use Rattle.boards.specs.Read.{parsed_of, Read}
use Rattle.boards.specs.Formed.{Formed}
use Rattle.graph.specs.Listed.{ListsReached}
use Rattle.boards.specs.declared.board.Board.{Board}
use Rattle.boards.proofs.Formed.{whole_formed}
use Rattle.graph.proofs.Listed.{lists_reached}
use Rattle.memory.specs.Memory.{listed, node_at}
use Rattle.records.specs.Write.{NodeCard, Card}
use Rattle.boards.specs.Obeys.{kind_of, records_from, as_read, WireObeys, Obeys, no_node, no_wire}
use Rattle.memory.specs.Fine.{NodeFine, Fine}
use Rattle.boards.proofs.RoundRule.{kind_kept}
use Rattle.boards.proofs.RoundObeys.{each_from}
use Rattle.boards.proofs.RoundSix.{Free, records_length, free_in}
use Rattle.boards.proofs.Round.{beyond, read_write}

-- ---- the records of a card

abbrev record_of : ℕ → ℕ → NodeCard → NodeRecord
record_of N start d = record { kind = kind_of d; channels = channels_of (kind_of d); cell = start }

record_at : (N : ℕ) (ds : List NodeCard) (start k : ℕ) (z : NodeRecord) → k < length ds
    → get_or (records_from N start ds) k z ≡ record_of N (start + cells_of N (take k (records_from N start ds))) (get_or ds k no_node)
record_at N [] start k z h = absurd (omega arith)
record_at N (d ∷ ds) start zero z h = let e : start ≡ start + 0 = omega arith in ap (λ (n : ℕ). record_of N n d) e
record_at N (d ∷ ds) start (suc k) z h =
    let more : ℕ = cells_of N (take k (records_from N (start + cell_size N (kind_of d)) ds)) in
    let e : start + cell_size N (kind_of d) + more ≡ start + (cell_size N (kind_of d) + more) = omega arith in
    record_at N ds (start + cell_size N (kind_of d)) k z (omega arith) ∙ ap (λ (n : ℕ). record_of N n (get_or ds k no_node)) e

none_of : (l : List ℕ) → length l ≡ 0 → l ≡ []
none_of [] e = refl
none_of (x ∷ l) e = absurd (omega arith)

kind_pass : (d : NodeCard) → d.type ≡ 1 → kind_of d ≡ Pass
unfolding kind_of
kind_pass d e = rw e

kind_destination : (d : NodeCard) → d.type ≡ 3 → kind_of d ≡ Destination
unfolding kind_of
kind_destination d e = rw e

-- ---- a card that obeys, and so a board that is read whole

module _ (c : Card) (h : Obeys c) where
  abbrev p : Parsed
  p = as_read c

  count : length p.nodes ≡ length c.nodes
  count = records_length c.size 0 c.nodes

  kind_at : (k : ℕ) → k < length c.nodes → node_at p k ≡ record_of c.size (cells_of c.size (take k p.nodes)) (get_or c.nodes k no_node)
  kind_at k l =
      let cells : ℕ = cells_of c.size (take k p.nodes) in
      let e : 0 + cells ≡ cells = omega arith in
      record_at c.size c.nodes 0 k _ l ∙ ap (λ (n : ℕ). record_of c.size n (get_or c.nodes k no_node)) e

  node_fine : (k : ℕ) → k < length p.nodes → NodeFine p k
  node_fine k l =
      let m : k < length c.nodes = omega (arith, count) in
      let d : NodeCard = get_or c.nodes k no_node in
      let e : node_at p k ≡ record_of c.size (cells_of c.size (take k p.nodes)) d = kind_at k m in
      let o = h.nodes k m in
      let sound = rule_sound d.type d.n d.f (kind_of d) (kind_kept d o.least_type o.most_type o.fields) in
      let kind : (node_at p k).kind ≡ kind_of d = ap (λ (r : NodeRecord). r.kind) e in
      record {
        channels = ap (λ (r : NodeRecord). r.channels) e ∙ ap channels_of (sym kind);
        cell = ap (λ (r : NodeRecord). r.cell) e;
        line = subst LineFits (sym kind) sound.line;
        number = rw kind sound.number;
      }

  fine_card : Formed (as_read c) → Fine (as_read c)
  fine_card formed =
      let there = beyond c.nodes c.input h.input_pass in
      let first : 0 < length c.nodes = h.some_node in
      record {
        formed = formed;
        least_size = h.least_size;
        most_size = h.most_size;
        few_nodes = omega (arith, count, h.few_nodes);
        nodes = node_fine;
        destination = ap (λ (r : NodeRecord). r.kind) (kind_at 0 first) ∙ kind_destination (get_or c.nodes 0 no_node) ((h.nodes 0 first).destination.1 refl);
        input_there = omega (arith, count);
        input_pass = ap (λ (r : NodeRecord). r.kind) (kind_at c.input there) ∙ kind_pass (get_or c.nodes c.input no_node) h.input_pass;
        input_free = none_of _ (free_in c.input c.wires 0 (each_from (Free c.input) no_wire c.wires h.input_free));
      }

pub fine_board : (s : List ℕ) → Bytes s → (p : Parsed) → read_board s ≡ whole p → Fine p
fine_board s b p e =
    let a = read_write s b p e in
    subst Fine a.parsed (fine_card a.card a.obeys (subst⁻¹ Formed a.parsed (whole_formed s p e)))

-- of the board as the code holds it
pub accepted_fine : (s : List ℕ) → Bytes s → (b : Board) → Read (read_board s) (Ok b) → Fine (parsed_of b)
accepted_fine s small b read = fine_board s small (parsed_of b) read

-- ---- wires and the visiting list

module _ (p : Parsed) (fine : Fine p) where
  pub source_there : (k a : ℕ) → mem a (sources p.wires k) ≡ true → (a < length p.nodes) × (a ≢ k)
  source_there k a e =
      let w = each-source (WireObeys (length p.nodes)) p.wires fine.formed.joins k a e in
      (omega (arith, w.1.source_there, w.2), λ q. w.1.apart (w.2 ∙ q ∙ sym w.3))

  pub lists : ListsReached p.wires (listed p)
  lists = lists_reached p.wires (λ k s e. omega (arith, source_there k s e, fine.few_nodes))

  pub listed_there : (k : ℕ) → mem k (listed p) ≡ true → k < length p.nodes
  listed_there = lists.below (length p.nodes) fine.formed.some_nodes (λ k s e. (source_there k s e).0)
