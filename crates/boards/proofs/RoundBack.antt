-- Bytes whose records are read whole are the bytes written for a card, of which the reader asks no more (`records_written`).
-- Assumes nothing.
use Rattle.std.specs.Prelude.{Option, Some, None, Result, Ok, Err}
use Prim.Native.Nat.{ℕ, zero, suc, ◌+◌, ◌≤◌}
use mathlib.Core.Path.{◌≡◌, refl, sym, ap, subst, ◌∙◌}
use mathlib.Core.List.{List, [], ◌∷◌, ◌++◌}
use mathlib.Core.Bool.{Bool, true, false, cond}
use native.Mathlib.Omega.{arith}
use borrow.Author.Tests.{eqb-true}
use lib.ListN.{length, drop, length-drop}
use lib.Dec.{eqb}
use lib.Seq.{drop-drop, drop-length}
use Rattle.values.specs.Bytes.{u16_at, u32_at, u16_bytes, u32_bytes}
use Rattle.values.specs.Words.{Bytes}
use Rattle.kinds.specs.Kind.{rule_of}
use Rattle.kinds.specs.declared.kind.NodeKind.{NodeKind}
use Rattle.reading.specs.Order.{Wire, wire}
use Rattle.records.specs.Record.{found_at}
use Rattle.boards.specs.Board.{Parsed, going, refused, whole, headed, with_node, with_wire, lines_of, size_fits, node_fits, wire_fits, node_by, wire_by, end_by, head_by, take_found, step_of, run, read_records}
use Rattle.records.specs.Write.{NodeCard, Card, head_bytes, node_bytes, wire_bytes, end_bytes, nodes_bytes, wires_bytes, write_board}
use Rattle.boards.specs.Obeys.{kind_of, as_read}
use Rattle.records.specs.declared.record.Found.{Found}
use Rattle.records.specs.declared.record.Found.TheVariants.{Head, Node, End}
use Rattle.records.specs.declared.record.Found.TheVariants as found
use Rattle.boards.proofs.Run.{run_done, refused_for_good, going_is_not_whole}
use Rattle.records.proofs.RoundBytes.{u16_on, u32_on, bytes_on, u16_small, u32_small, u16_split, u32_split}
use Rattle.boards.proofs.RoundRule.{kind_told}
use Rattle.records.proofs.RoundRecords.{Stands, Told, found_told}
use Rattle.boards.proofs.RoundRun.{add_nodes, add_wires, one_node, one_wire, no_node, no_wire, NodesFit, WiresFit, next_nodes, next_wires}

-- ---- the bytes of a record, from the numbers that stand in it

module _ (b : List ℕ) (h : Bytes b) where
  u16-field : (k v : ℕ) → k + 2 ≤ length b → u16_at b k ≡ v → drop k b ≡ u16_bytes v ++ drop (k + 2) b
  u16-field k v l e =
      u16_split (drop k b) v (bytes_on b k h) (omega (arith, length-drop k b)) (sym (u16_on b k 0 k (omega arith)) ∙ e)
      ∙ ap (λ (x : List ℕ). u16_bytes v ++ x) (drop-drop 2 k b)

  u32-field : (k v : ℕ) → k + 4 ≤ length b → u32_at b k ≡ v → drop k b ≡ u32_bytes v ++ drop (k + 4) b
  u32-field k v l e =
      u32_split (drop k b) v (bytes_on b k h) (omega (arith, length-drop k b)) (sym (u32_on b k 0 k (omega arith)) ∙ e)
      ∙ ap (λ (x : List ℕ). u32_bytes v ++ x) (drop-drop 4 k b)

  -- a record's length and kind
  start_split : (k z : ℕ) → 4 ≤ z → Stands b k z → b ≡ u16_bytes z ++ u16_bytes k ++ drop 4 b
  start_split k z l t =
      let long = t.long in
      u16-field 0 z (omega arith) t.length_is ∙ ap (λ (x : List ℕ). u16_bytes z ++ x) (u16-field 2 k (omega arith) t.kind_is)

  -- a record with two numbers of 2 bytes: a head, a wire
  pair_split : (k x y : ℕ) → Stands b k 8 → u16_at b 4 ≡ x → u16_at b 6 ≡ y → b ≡ u16_bytes 8 ++ u16_bytes k ++ u16_bytes x ++ u16_bytes y ++ drop 8 b
  pair_split k x y t ex ey =
      let long = t.long in
      start_split k 8 (omega arith) t
      ∙ ap (λ (r : List ℕ). u16_bytes 8 ++ u16_bytes k ++ r)
      (u16-field 4 x (omega arith) ex ∙ ap (λ (r : List ℕ). u16_bytes x ++ r) (u16-field 6 y (omega arith) ey))

  node_split : (d : NodeCard) → Stands b 2 14 → u16_at b 4 ≡ d.type → u32_at b 6 ≡ d.n → u32_at b 10 ≡ d.f → b ≡ node_bytes d ++ drop 14 b
  node_split d t et en ef =
      let long = t.long in
      start_split 2 14 (omega arith) t
      ∙ ap (λ (r : List ℕ). u16_bytes 14 ++ u16_bytes 2 ++ r)
      (u16-field 4 d.type (omega arith) et
      ∙ ap (λ (r : List ℕ). u16_bytes d.type ++ r)
      (u32-field 6 d.n (omega arith) en ∙ ap (λ (r : List ℕ). u32_bytes d.n ++ r) (u32-field 10 d.f (omega arith) ef)))

-- ---- what is left to read

-- the bytes from an offset on, where the reading goes from p to q: wires and the end
record WiresLeft (s : List ℕ) (at : ℕ) (p q : Parsed) : Type 0 where
  wires : List Wire
  bytes : drop at s ≡ wires_bytes wires ++ end_bytes
  result : add_wires p wires ≡ q
  wires_fit : WiresFit (length p.nodes) (length p.wires) wires

-- the same: nodes, wires and the end
record Left (s : List ℕ) (at : ℕ) (p q : Parsed) : Type 0 where
  nodes : List NodeCard
  wires : List Wire
  bytes : drop at s ≡ nodes_bytes nodes ++ wires_bytes wires ++ end_bytes
  result : add_wires (add_nodes p nodes) wires ≡ q
  nodes_fit : NodesFit (length p.nodes) (lines_of p.nodes) nodes
  wires_fit : WiresFit (length (add_nodes p nodes).nodes) (length p.wires) wires

no_more_nodes : {s : List ℕ} {at : ℕ} {p q : Parsed} → WiresLeft s at p q → Left s at p q
no_more_nodes {s} {at} {p} {q} r = record {
  nodes = [];
  wires = r.wires;
  bytes = r.bytes;
  result = ap (λ (x : Parsed). add_wires x r.wires) (no_node p) ∙ r.result;
  nodes_fit = tt;
  wires_fit = subst (λ (x : Parsed). WiresFit (length x.nodes) (length x.wires) r.wires) (sym (no_node p)) r.wires_fit;
}

module _ (s : List ℕ) (h : Bytes s) (q : Parsed) (n : ℕ) where
  module _ (at : ℕ) (p : Parsed) where
    -- the bytes, up to the next record
    joined : (b rest : List ℕ) (z : ℕ) → drop at s ≡ b ++ drop z (drop at s) → drop (at + z) s ≡ rest → drop at s ≡ b ++ rest
    joined b rest z e r = e ∙ ap (λ (x : List ℕ). b ++ x) (drop-drop z at s ∙ r)

    end_left : Stands (drop at s) 4 4 → run n s (end_by s at p) ≡ whole q → WiresLeft s at p q
    end_left t = go (eqb (at + 4) (length s)) refl
      where
        go : (b : Bool) → eqb (at + 4) (length s) ≡ b → run n s (cond b (whole p) (refused 1 (at + 4))) ≡ whole q → WiresLeft s at p q
        go true e r =
            let l : at + 4 ≡ length s = eqb-true (at + 4) (length s) e in
            let w : whole p ≡ whole q = sym (run_done s n (whole p) tt) ∙ r in
            let same : p ≡ q = cc in
            record {
              wires = [];
              bytes = joined end_bytes [] 4 (start_split (drop at s) (bytes_on s at h) 4 4 (omega arith) t) (ap (λ (k : ℕ). drop k s) l ∙ drop-length s);
              result = no_wire p ∙ same;
              wires_fit = tt;
            }
        go false e r = refused_for_good s n 1 (at + 4) q r

    module _ (again : (at : ℕ) (p : Parsed) → run n s (going at 3 p) ≡ whole q → WiresLeft s at p q) where
      wire_left : Stands (drop at s) 3 8 → run n s (wire_by at p (u16_at s (at + 4)) (u16_at s (at + 6))) ≡ whole q → WiresLeft s at p q
      wire_left t = go (wire_fits (length p.nodes) (length p.wires) x y) refl
        where
          x : ℕ
          x = u16_at s (at + 4)

          y : ℕ
          y = u16_at s (at + 6)

          more : wire_fits (length p.nodes) (length p.wires) x y ≡ true → WiresLeft s (at + 8) (with_wire p x y) q → WiresLeft s at p q
          more e r = record {
            wires = wire x y ∷ r.wires;
            bytes = joined (wire_bytes (wire x y)) (wires_bytes r.wires ++ end_bytes) 8
                (pair_split (drop at s) (bytes_on s at h) 3 x y t (sym (u16_on s at 4 (at + 4) refl)) (sym (u16_on s at 6 (at + 6) refl)))
                r.bytes;
            result = sym (one_wire p (wire x y) r.wires) ∙ r.result;
            wires_fit = (
              record { source_small = u16_small s (at + 4) h; target_small = u16_small s (at + 6) h; fits = e },
              subst (λ (A : Type 0). A) (sym (next_wires p (wire x y) (length p.nodes) r.wires)) r.wires_fit,
            );
          }

          go : (b : Bool) → wire_fits (length p.nodes) (length p.wires) x y ≡ b
              → run n s (cond b (going (at + 8) 3 (with_wire p x y)) (refused 5 at)) ≡ whole q → WiresLeft s at p q
          go true e r = more e (again (at + 8) (with_wire p x y) r)
          go false e r = refused_for_good s n 5 at q r

      -- after a wire stand wires and the end
      wires_step : (f : Result Found ℕ) → Told (drop at s) 3 f → run n s (take_found s at p f) ≡ whole q → WiresLeft s at p q
      unfolding take_found
      wires_step (Ok Head) t r = absurd (omega arith)
      wires_step (Ok Node) t r = absurd (omega arith)
      wires_step (Ok found.Wire) t r = wire_left t.0 r
      wires_step (Ok End) t r = end_left t.0 r
      wires_step (Err k) t r = refused_for_good s n k at q r

      module _ (last : ℕ) (low : 1 ≤ last) (onward : (at : ℕ) (p : Parsed) → run n s (going at 2 p) ≡ whole q → Left s at p q) where
        node_left : Stands (drop at s) 2 14
            → run n s (node_by at p (rule_of (u16_at s (at + 4)) (u32_at s (at + 6)) (u32_at s (at + 10)))) ≡ whole q → Left s at p q
        node_left t = rule (rule_of d.type d.n d.f) refl
          where
            d : NodeCard
            d = record { type = u16_at s (at + 4); n = u32_at s (at + 6); f = u32_at s (at + 10) }

            more : rule_of d.type d.n d.f ≡ Some (kind_of d) → node_fits (length p.nodes) (lines_of p.nodes) (kind_of d) ≡ true
                → Left s (at + 14) (with_node p (kind_of d)) q → Left s at p q
            more k e r = record {
              nodes = d ∷ r.nodes;
              wires = r.wires;
              bytes = joined (node_bytes d) (nodes_bytes r.nodes ++ wires_bytes r.wires ++ end_bytes) 14
                  (node_split (drop at s) (bytes_on s at h) d t (sym (u16_on s at 4 (at + 4) refl)) (sym (u32_on s at 6 (at + 6) refl))
                  (sym (u32_on s at 10 (at + 10) refl)))
                  r.bytes;
              result = ap (λ (x : Parsed). add_wires x r.wires) (sym (one_node p d r.nodes)) ∙ r.result;
              nodes_fit = (
                record { type_small = u16_small s (at + 4) h; n_small = u32_small s (at + 6) h; f_small = u32_small s (at + 10) h; rule = k; fits = e },
                subst (λ (A : Type 0). A) (sym (next_nodes p d r.nodes)) r.nodes_fit,
              );
              wires_fit = subst (λ (x : Parsed). WiresFit (length x.nodes) (length x.wires) r.wires) (one_node p d r.nodes) r.wires_fit;
            }

            fit : rule_of d.type d.n d.f ≡ Some (kind_of d) → (b : Bool)
                → node_fits (length p.nodes) (lines_of p.nodes) (kind_of d) ≡ b
                → run n s (cond b (going (at + 14) 2 (with_node p (kind_of d))) (refused 4 at)) ≡ whole q → Left s at p q
            fit k true e r = more k e (onward (at + 14) (with_node p (kind_of d)) r)
            fit k false e r = refused_for_good s n 4 at q r

            rule : (r : Option NodeKind) → rule_of d.type d.n d.f ≡ r → run n s (node_by at p r) ≡ whole q → Left s at p q
            rule None e r = refused_for_good s n 4 at q r
            rule (Some k) e r =
                let same = (kind_told d k e).3 in
                fit (e ∙ ap Some (sym same)) (node_fits (length p.nodes) (lines_of p.nodes) (kind_of d)) refl
                (subst (λ (j : NodeKind). run n s (node_by at p (Some j)) ≡ whole q) (sym same) r)

        -- after the head, and after a node, anything may stand but a head
        nodes_step : (f : Result Found ℕ) → Told (drop at s) last f → run n s (take_found s at p f) ≡ whole q → Left s at p q
        unfolding take_found
        nodes_step (Ok Head) t r = absurd (omega arith)
        nodes_step (Ok Node) t r = node_left t.0 r
        nodes_step (Ok found.Wire) t r = no_more_nodes (wire_left t.0 r)
        nodes_step (Ok End) t r = no_more_nodes (end_left t.0 r)
        nodes_step (Err k) t r = refused_for_good s n k at q r

module _ (s : List ℕ) (h : Bytes s) (q : Parsed) where
  wires_left : (n at : ℕ) (p : Parsed) → run n s (going at 3 p) ≡ whole q → WiresLeft s at p q
  unfolding run step_of
  wires_left zero at p r = going_is_not_whole at 3 p q r
  wires_left (suc n) at p r = wires_step s h q n at p (wires_left n) (found_at s at 3) (found_told s at 3 _ refl) r

  nodes_left : (n at last : ℕ) (p : Parsed) → 1 ≤ last → run n s (going at last p) ≡ whole q → Left s at p q
  unfolding run step_of
  nodes_left zero at last p low r = going_is_not_whole at last p q r
  nodes_left (suc n) at last p low r =
      nodes_step s h q n at p (wires_left n) last low (λ at p. nodes_left n at 2 p (omega arith)) (found_at s at last) (found_told s at last _ refl) r

-- ---- a board whose records are read whole

pub record Written (s : List ℕ) (q : Parsed) : Type 0 where
  pub card : Card
  pub bytes : s ≡ write_board card
  pub result : as_read card ≡ q
  pub size_fits_lem : size_fits card.size ≡ true
  pub nodes_fit : NodesFit 0 0 card.nodes
  pub wires_fit : WiresFit (length (as_read card).nodes) 0 card.wires

module _ (s : List ℕ) (h : Bytes s) (q : Parsed) (n : ℕ) where
  head_left : Stands s 1 8 → run n s (head_by 0 (u16_at s 4) (u16_at s 6)) ≡ whole q → Written s q
  unfolding write_board
  head_left t = go (size_fits N) refl
    where
      N : ℕ
      N = u16_at s 4

      i : ℕ
      i = u16_at s 6

      more : size_fits N ≡ true → Left s 8 (headed N i) q → Written s q
      more e r = record {
        card = record { size = N; input = i; nodes = r.nodes; wires = r.wires };
        bytes = pair_split s h 1 N i t refl refl ∙ ap (λ (x : List ℕ). head_bytes N i ++ x) r.bytes;
        result = r.result;
        size_fits_lem = e;
        nodes_fit = r.nodes_fit;
        wires_fit = r.wires_fit;
      }

      go : (b : Bool) → size_fits N ≡ b → run n s (cond b (going 8 1 (headed N i)) (refused 3 0)) ≡ whole q → Written s q
      go true e r = more e (nodes_left s h q n 8 1 (headed N i) (omega arith) r)
      go false e r = refused_for_good s n 3 0 q r

  -- the first record is a head
  head_step : (f : Result Found ℕ) → Told s 0 f → run n s (take_found s 0 (headed 0 0) f) ≡ whole q → Written s q
  unfolding take_found
  head_step (Ok Head) t r = head_left t.0 r
  head_step (Ok Node) t r = absurd (omega arith)
  head_step (Ok found.Wire) t r = absurd (omega arith)
  head_step (Ok End) t r = absurd (omega arith)
  head_step (Err k) t r = refused_for_good s n k 0 q r

pub records_written : (s : List ℕ) → Bytes s → (q : Parsed) → read_records s ≡ whole q → Written s q
unfolding read_records run step_of
records_written s h q r = head_step s h q (length s) (found_at s 0 0) (found_told s 0 0 _ refl) r
