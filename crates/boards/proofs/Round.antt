-- The judge accepts exactly the bytes of the boards that document 01 allows. Every card that obeys the rules is written to bytes that are
-- read as that card (`write_read`, and of the judge `judge_written`), and every list of bytes that is read whole was written so
-- (`read_write`). So a reader that refuses a board of document 01, or accepts any other, does not meet `read_board`. Assumes nothing.
use Prim.Native.Nat.{ℕ, zero, suc, ◌<◌}
use mathlib.Core.Path.{◌≡◌, refl, sym, ap, subst, ◌∙◌}
use mathlib.Core.Logic.{◌↔◌}
use mathlib.Core.List.{List, [], ◌∷◌}
use mathlib.Core.Bool.{and-eq-true_iff}
use native.Mathlib.Omega.{arith}
use borrow.Author.Tests.{leb-true, le-leb}
use lib.ListN.{length, get_or}
use lib.Dec.{leb}
use Rattle.values.specs.Words.{Bytes}
use Rattle.reading.specs.Order.{Wire}
use Rattle.records.specs.Answer.{answer}
use Rattle.boards.specs.Board.{Parsed, Progress, going, refused, whole, memory_length, read_records}
use Rattle.boards.specs.Judge.{check_six, then_six, read_board, answer_by, judge_of}
use Rattle.records.specs.Write.{NodeCard, Card, write_board}
use Rattle.boards.specs.Obeys.{as_read, NodeObeys, WireObeys, SourcesObey, no_node, no_wire, Obeys}
use Rattle.records.specs.declared.answer.Answer.{Answer}
use Rattle.boards.proofs.Run.{refused_is_not_whole, going_is_not_whole}
use Rattle.boards.proofs.Ending.{Ended, board_ends}
use Rattle.boards.proofs.RoundRun.{WiresFit, Fits, records_read}
use Rattle.boards.proofs.RoundBack.{Written, records_written}
use Rattle.boards.proofs.RoundObeys.{EachFrom, each_from, from_each, nodes_fit, nodes_told, wires_fit, wires_told}
use Rattle.boards.proofs.RoundSix.{Free, Six, records_length, six_in, six_told}

-- ---- a card that obeys is read

abbrev Joins : Card → ℕ → Wire → Type 0
Joins c j w = WireObeys (length c.nodes) w

-- where a pass stands is no place past the end
pub beyond : (ds : List NodeCard) (i : ℕ) → (get_or ds i no_node).type ≡ 1 → i < length ds
beyond [] i e = absurd (omega arith)
beyond (d ∷ ds) zero e = omega arith
beyond (d ∷ ds) (suc i) e = omega (arith, beyond ds i e)

module _ (c : Card) (h : Obeys c) where
  nodes_obey : EachFrom NodeObeys 0 c.nodes
  nodes_obey = each_from NodeObeys no_node c.nodes h.nodes

  pub fits : Fits c
  fits =
      let i : c.input < length c.nodes = beyond c.nodes c.input h.input_pass in
      record {
        size_small = omega (arith, h.most_size);
        input_small = omega (arith, h.few_nodes);
        size_fits_lem =
            (and-eq-true_iff (leb 1 c.size) (leb c.size 128)).1 (le-leb 1 c.size h.least_size, le-leb c.size 128 h.most_size);
        nodes_fit = nodes_fit c.nodes 0 0 nodes_obey (omega (arith, h.few_nodes)) (omega (arith, h.few_lines));
        wires_fit = subst (λ (n : ℕ). WiresFit n 0 c.wires) (sym (records_length c.size 0 c.nodes))
            (wires_fit (length c.nodes) c.wires 0 0 (each_from (Joins c) no_wire c.wires h.wires) h.few_nodes (omega (arith, h.few_wires)));
      }

  six : Six c
  six = record {
    some_node = h.some_node;
    input_pass = h.input_pass;
    input_free = each_from (Free c.input) no_wire c.wires h.input_free;
    sources = each_from (SourcesObey c.wires) no_node c.nodes h.sources;
  }

  -- every board that obeys is read, and read as what was written
  pub write_read : read_board (write_board c) ≡ whole (as_read c)
  unfolding read_board
  write_read = ap then_six (records_read c fits) ∙ six_in c nodes_obey six

  -- the judge accepts it, with the memory's length
  pub judge_written : judge_of (write_board c) ≡ answer 0 (memory_length (as_read c))
  unfolding judge_of
  judge_written = ap (answer_by memory_length) write_read

-- ---- bytes that are read were written for a card that obeys

pub record Accepted (s : List ℕ) (p : Parsed) : Type 0 where
  pub card : Card
  pub obeys : Obeys card
  pub bytes : s ≡ write_board card
  pub parsed : as_read card ≡ p

module _ (s : List ℕ) (p q : Parsed) (w : Written s q) (e : check_six q ≡ whole p) where
  accepted : Accepted s p
  accepted =
      let c = w.card in
      let size = (and-eq-true_iff (leb 1 c.size) (leb c.size 128)).0 w.size_fits_lem in
      let ns = nodes_told c.nodes 0 0 w.nodes_fit (omega arith) (omega arith) in
      let fit = subst (λ (n : ℕ). WiresFit n 0 c.wires) (records_length c.size 0 c.nodes) w.wires_fit in
      let ws = wires_told (length c.nodes) c.wires 0 0 fit (omega arith) in
      let last = six_told c ns.0 p (subst (λ (x : Parsed). check_six x ≡ whole p) (sym w.result) e) in
      record {
        card = c;
        obeys = record {
          least_size = leb-true 1 c.size size.0;
          most_size = leb-true c.size 128 size.1;
          some_node = last.0.some_node;
          few_nodes = omega arith;
          nodes = from_each NodeObeys no_node c.nodes ns.0;
          few_lines = omega arith;
          few_wires = omega arith;
          wires = from_each (Joins c) no_wire c.wires ws.0;
          sources = from_each (SourcesObey c.wires) no_node c.nodes last.0.sources;
          input_pass = last.0.input_pass;
          input_free = from_each (Free c.input) no_wire c.wires last.0.input_free;
        };
        bytes = w.bytes;
        parsed = last.1;
      }

pub read_write : (s : List ℕ) → Bytes s → (p : Parsed) → read_board s ≡ whole p → Accepted s p
unfolding read_board
read_write s h p = go (read_records s) refl
  where
    go : (r : Progress) → read_records s ≡ r → then_six r ≡ whole p → Accepted s p
    go (going at last x) e q = going_is_not_whole at last x p q
    go (refused n w) e q = refused_is_not_whole n w p q
    go (whole x) e q = accepted s p x (records_written s h x e) q

-- ---- the judge's number is 0 for the boards that are written by the rules, and for no others

pub judge_exact : (s : List ℕ) → Bytes s → ((judge_of s).number ≡ 0) ↔ ((c : Card) × Obeys c × (s ≡ write_board c))
unfolding judge_of
judge_exact s h = (
  go (read_board s) refl (board_ends s),
  λ w. ap (λ (a : Answer). a.number) (ap judge_of w.2 ∙ judge_written w.0 w.1),
)
  where
    go : (r : Progress) → read_board s ≡ r → Ended r → (answer_by memory_length r).number ≡ 0 → (c : Card) × Obeys c × (s ≡ write_board c)
    go (going at last p) e n z = absurd (omega arith)
    go (refused k w) e n z = absurd (omega arith)
    go (whole p) e n z = let a = read_write s h p e in (a.card, a.obeys, a.bytes)
