-- The reading of a board's records against the records that are written: bytes written for nodes and wires that fit are read whole
-- (`records_read`). Assumes nothing.
use Prim.Native.Nat.{ℕ, suc, ◌+◌, ◌*◌, ◌≤◌, ◌<◌}
use mathlib.Core.Path.{◌≡◌, refl, sym, ap, subst, ◌∙◌}
use mathlib.Core.List.{List, [], ◌∷◌, ◌++◌, append-nil, append_assoc}
use mathlib.Core.Bool.{Bool, true, false, cond, ◌&&◌, and-eq-true_iff}
use native.Mathlib.Omega.{arith}
use borrow.Author.Tests.{ne_eqb, eq-eqb, le-leb}
use lib.ListN.{length, drop, length-append, length-drop}
use lib.Dec.{leb}
use lib.Seq.{append_snoc, drop-drop}
use Rattle.values.specs.Bytes.{u16_at, u32_at}
use Rattle.values.specs.Words.{word_split}
use Rattle.kinds.specs.Kind.{rule_of, line_of, channels_of, cell_size}
use Rattle.kinds.specs.declared.kind.NodeRecord.{NodeRecord}
use Rattle.std.specs.Prelude.{Some, Ok}
use Rattle.reading.specs.Order.{Wire}
use Rattle.records.specs.Record.{in_order, found_of, found_at}
use Rattle.boards.specs.Board.{Parsed, Progress, going, refused, whole, headed, with_node, with_wire, lines_of, cells_of, size_fits, node_fits, wire_fits, node_by, wire_by, head_by, take_found, step_of, run, read_records}
use Rattle.records.specs.Write.{NodeCard, Card, head_bytes, node_bytes, wire_bytes, end_bytes, nodes_bytes, wires_bytes, write_board}
use Rattle.boards.specs.Obeys.{kind_of, records_from, as_read}
use Rattle.records.specs.declared.record.Found.TheVariants.{Head, Node, End}
use Rattle.records.specs.declared.record.Found.TheVariants as found
use Rattle.boards.proofs.NodeSums.{lines_snoc, cells_snoc}
use Rattle.boards.proofs.Run.{Done, run_add, run_next, run_ends}
use Rattle.records.proofs.RoundBytes.{u16_on, u32_on, u16_back}
use Rattle.records.proofs.RoundRecords.{found_in_lem}

-- ---- a board with more nodes, and with more wires

abbrev pub add_nodes : Parsed → List NodeCard → Parsed
add_nodes p ds = record {
  size = p.size;
  input = p.input;
  nodes = p.nodes ++ records_from p.size (cells_of p.size p.nodes) ds;
  wires = p.wires;
}

abbrev pub add_wires : Parsed → List Wire → Parsed
add_wires p ws = record { size = p.size; input = p.input; nodes = p.nodes; wires = p.wires ++ ws }

abbrev node_of : Parsed → NodeCard → NodeRecord
node_of p d = record { kind = kind_of d; channels = channels_of (kind_of d); cell = cells_of p.size p.nodes }

pub one_node : (p : Parsed) (d : NodeCard) (ds : List NodeCard) → add_nodes (with_node p (kind_of d)) ds ≡ add_nodes p (d ∷ ds)
one_node p d ds =
    let cells = cells_snoc p.size p.nodes (node_of p d) in
    let joined = append_snoc p.nodes (node_of p d) (records_from p.size (cells_of p.size p.nodes + cell_size p.size (kind_of d)) ds) in
    ap (λ (l : List NodeRecord). record { size = p.size; input = p.input; nodes = l; wires = p.wires })
    (ap (λ (at : ℕ). p.nodes ++ (node_of p d ∷ []) ++ records_from p.size at ds) cells ∙ joined)

pub one_wire : (p : Parsed) (w : Wire) (ws : List Wire) → add_wires (with_wire p w.source w.target) ws ≡ add_wires p (w ∷ ws)
one_wire p w ws = ap (λ (l : List Wire). record { size = p.size; input = p.input; nodes = p.nodes; wires = l }) (append_snoc p.wires w ws)

pub no_wire : (p : Parsed) → add_wires p [] ≡ p
no_wire p = ap (λ (l : List Wire). record { size = p.size; input = p.input; nodes = p.nodes; wires = l }) (append-nil p.wires)

pub no_node : (p : Parsed) → add_nodes p [] ≡ p
no_node p = ap (λ (l : List NodeRecord). record { size = p.size; input = p.input; nodes = l; wires = p.wires }) (append-nil p.nodes)

-- ---- what the reader asks of each record, by how many stand before it

pub record NodeFits (i lines : ℕ) (d : NodeCard) : Type 0 where
  pub type_small : d.type < 65536
  pub n_small : d.n < 4294967296
  pub f_small : d.f < 4294967296
  pub rule : rule_of d.type d.n d.f ≡ Some (kind_of d)
  pub fits : node_fits i lines (kind_of d) ≡ true

abbrev pub NodesFit : ℕ → ℕ → List NodeCard → Type 0
NodesFit i lines [] = Unit {0}
NodesFit i lines (d ∷ ds) = NodeFits i lines d × NodesFit (i + 1) (lines + line_of (kind_of d)) ds

pub record WireFits (i j : ℕ) (w : Wire) : Type 0 where
  pub source_small : w.source < 65536
  pub target_small : w.target < 65536
  pub fits : wire_fits i j w.source w.target ≡ true

abbrev pub WiresFit : ℕ → ℕ → List Wire → Type 0
WiresFit i j [] = Unit {0}
WiresFit i j (w ∷ ws) = WireFits i j w × WiresFit i (j + 1) ws

module _ (p : Parsed) (d : NodeCard) (ds : List NodeCard) where
  pub next_nodes : NodesFit (length p.nodes + 1) (lines_of p.nodes + line_of (kind_of d)) ds
      ≡ NodesFit (length (with_node p (kind_of d)).nodes) (lines_of (with_node p (kind_of d)).nodes) ds
  next_nodes = λ i. NodesFit (sym (length-append p.nodes (node_of p d ∷ [])) i) (sym (lines_snoc p.nodes (node_of p d)) i) ds

module _ (p : Parsed) (w : Wire) (i : ℕ) (ws : List Wire) where
  pub next_wires : WiresFit i (length p.wires + 1) ws ≡ WiresFit i (length (with_wire p w.source w.target).wires) ws
  next_wires = λ j. WiresFit i (sym (length-append p.wires (w ∷ [])) j) ws

-- ---- written records are read

order_in : (last k : ℕ) → 1 ≤ last → last ≤ k → 2 ≤ k → k ≤ 4 → in_order last k ≡ true
order_in last k a b c e =
    rw (ne_eqb last 0 (λ z. omega arith))
    ((and-eq-true_iff (leb 2 k && leb last k) (leb k 4)).1 ((and-eq-true_iff (leb 2 k) (leb last k)).1 (le-leb 2 k c, le-leb last k b), le-leb k 4 e))

module _ (s : List ℕ) (at : ℕ) where
  u16_read : (b : List ℕ) (k : ℕ) → drop at s ≡ b → u16_at s (at + k) ≡ u16_at b k
  u16_read b k e = u16_on s at k (at + k) refl ∙ ap (λ (x : List ℕ). u16_at x k) e

  u32_read : (b : List ℕ) (k : ℕ) → drop at s ≡ b → u32_at s (at + k) ≡ u32_at b k
  u32_read b k e = u32_on s at k (at + k) refl ∙ ap (λ (x : List ℕ). u32_at x k) e

  module _ (last : ℕ) (p : Parsed) (low : 1 ≤ last) where
    finds : (b : List ℕ) (k z : ℕ) → last ≤ k → drop at s ≡ b → u16_at b 0 ≡ z → u16_at b 2 ≡ k
        → (2 ≤ k) × (k ≤ 4) × (4 ≤ length b) × (z ≤ length b) → found_at s at last ≡ found_of k z
    finds b k z high e ez ek l = found_in_lem s at last b k z e ez ek l.2 l.3 (order_in last k low high l.0 l.1)

    node_step : (d : NodeCard) (rest : List ℕ) → last ≤ 2 → drop at s ≡ node_bytes d ++ rest
        → NodeFits (length p.nodes) (lines_of p.nodes) d → step_of s (going at last p) ≡ going (at + 14) 2 (with_node p (kind_of d))
    unfolding step_of take_found found_of
    node_step d rest high e h =
        let b = node_bytes d ++ rest in
        let fo : found_at s at last ≡ Ok Node = finds b 2 14 high e refl refl (omega arith) in
        let t : u16_at s (at + 4) ≡ d.type = u16_read b 4 e ∙ u16_back d.type h.type_small in
        let n : u32_at s (at + 6) ≡ d.n = u32_read b 6 e ∙ word_split d.n h.n_small in
        let f : u32_at s (at + 10) ≡ d.f = u32_read b 10 e ∙ word_split d.f h.f_small in
        ap (take_found s at p) fo ∙ (λ i. node_by at p (rule_of (t i) (n i) (f i))) ∙ ap (node_by at p) h.rule
        ∙ ap (λ (x : Bool). cond x (going (at + 14) 2 (with_node p (kind_of d))) (refused 4 at)) h.fits

    wire_found : (w : Wire) (rest : List ℕ) → last ≤ 3 → drop at s ≡ wire_bytes w ++ rest → w.source < 65536 → w.target < 65536
        → step_of s (going at last p) ≡ wire_by at p w.source w.target
    unfolding step_of take_found found_of
    wire_found w rest high e hs ht =
        let b = wire_bytes w ++ rest in
        let fo : found_at s at last ≡ Ok found.Wire = finds b 3 8 high e refl refl (omega arith) in
        let x : u16_at s (at + 4) ≡ w.source = u16_read b 4 e ∙ u16_back w.source hs in
        let y : u16_at s (at + 6) ≡ w.target = u16_read b 6 e ∙ u16_back w.target ht in
        ap (take_found s at p) fo ∙ (λ i. wire_by at p (x i) (y i))

    wire_by_lem : (w : Wire) (rest : List ℕ) → last ≤ 3 → drop at s ≡ wire_bytes w ++ rest → w.source < 65536 → w.target < 65536 → (b : Bool)
        → wire_fits (length p.nodes) (length p.wires) w.source w.target ≡ b
        → step_of s (going at last p) ≡ cond b (going (at + 8) 3 (with_wire p w.source w.target)) (refused 5 at)
    wire_by_lem w rest high e hs ht b h =
        wire_found w rest high e hs ht ∙ ap (λ (x : Bool). cond x (going (at + 8) 3 (with_wire p w.source w.target)) (refused 5 at)) h

    end_step : last ≤ 4 → drop at s ≡ end_bytes → step_of s (going at last p) ≡ whole p
    unfolding step_of take_found found_of
    end_step high e =
        let fo : found_at s at last ≡ Ok End = finds end_bytes 4 4 high e refl refl (omega arith) in
        let l : at + 4 ≡ length s = omega (arith, sym (length-drop at s) ∙ ap length e) in
        ap (take_found s at p) fo ∙ ap (λ (x : Bool). cond x (whole p) (refused 1 (at + 4))) (eq-eqb (at + 4) (length s) l)

  -- the part after a record
  after : (b rest : List ℕ) (z : ℕ) → drop at s ≡ b → drop z b ≡ rest → drop (at + z) s ≡ rest
  after b rest z e q = sym (drop-drop z at s) ∙ ap (drop z) e ∙ q

-- so many records on, the reading goes on at an offset, where `rest` stands, after a record of a kind from 1 to `most`, with the board q
pub record Passes (s rest : List ℕ) (n : ℕ) (r : Progress) (at most : ℕ) (q : Parsed) : Type 0 where
  pub last : ℕ
  pub least_kind : 1 ≤ last
  pub most_kind : last ≤ most
  pub goes : run n s r ≡ going at last q
  pub left : drop at s ≡ rest

module _ (s rest : List ℕ) where
  wires_pass : (ws : List Wire) (at last : ℕ) (p : Parsed) → 1 ≤ last → last ≤ 3 → drop at s ≡ wires_bytes ws ++ rest
      → WiresFit (length p.nodes) (length p.wires) ws → Passes s rest (length ws) (going at last p) (at + 8 * length ws) 3 (add_wires p ws)
  unfolding run
  wires_pass [] at last p low high e h =
      let here : at ≡ at + 8 * 0 = omega arith in
      record {
        last = last;
        least_kind = low;
        most_kind = high;
        goes = λ i. going (here i) last (sym (no_wire p) i);
        left = ap (λ (n : ℕ). drop n s) (sym here) ∙ e;
      }
  wires_pass (w ∷ ws) at last p low high e h =
      let f = h.0 in
      let there : at + 8 + 8 * length ws ≡ at + 8 * suc (length ws) = omega arith in
      let on = wires_pass ws (at + 8) 3 (with_wire p w.source w.target) (omega arith) (omega arith) (after s at _ _ 8 e refl)
      (subst (λ (A : Type 0). A) (next_wires p w (length p.nodes) ws) h.1) in
      record {
        last = on.last;
        least_kind = on.least_kind;
        most_kind = on.most_kind;
        goes = ap (run (length ws) s) (wire_by_lem s at last p low w (wires_bytes ws ++ rest) high e f.source_small f.target_small true f.fits)
            ∙ on.goes ∙ (λ i. going (there i) on.last (one_wire p w ws i));
        left = ap (λ (n : ℕ). drop n s) (sym there) ∙ on.left;
      }

  nodes_pass : (ds : List NodeCard) (at last : ℕ) (p : Parsed) → 1 ≤ last → last ≤ 2 → drop at s ≡ nodes_bytes ds ++ rest
      → NodesFit (length p.nodes) (lines_of p.nodes) ds → Passes s rest (length ds) (going at last p) (at + 14 * length ds) 2 (add_nodes p ds)
  unfolding run
  nodes_pass [] at last p low high e h =
      let here : at ≡ at + 14 * 0 = omega arith in
      record {
        last = last;
        least_kind = low;
        most_kind = high;
        goes = λ i. going (here i) last (sym (no_node p) i);
        left = ap (λ (n : ℕ). drop n s) (sym here) ∙ e;
      }
  nodes_pass (d ∷ ds) at last p low high e h =
      let there : at + 14 + 14 * length ds ≡ at + 14 * suc (length ds) = omega arith in
      let on = nodes_pass ds (at + 14) 2 (with_node p (kind_of d)) (omega arith) (omega arith) (after s at _ _ 14 e refl)
      (subst (λ (A : Type 0). A) (next_nodes p d ds) h.1) in
      record {
        last = on.last;
        least_kind = on.least_kind;
        most_kind = on.most_kind;
        goes = ap (run (length ds) s) (node_step s at last p low d (nodes_bytes ds ++ rest) high e h.0)
            ∙ on.goes ∙ (λ i. going (there i) on.last (one_node p d ds i));
        left = ap (λ (n : ℕ). drop n s) (sym there) ∙ on.left;
      }

head_step : (s : List ℕ) (p : Parsed) (N i : ℕ) (rest : List ℕ) → s ≡ head_bytes N i ++ rest → N < 65536 → i < 65536 → size_fits N ≡ true
    → step_of s (going 0 0 p) ≡ going 8 1 (headed N i)
unfolding step_of take_found found_of
head_step s p N i rest e hN hi fits =
    let fo : found_at s 0 0 ≡ Ok Head = found_in_lem s 0 0 (head_bytes N i ++ rest) 1 8 e refl refl (omega arith) (omega arith) refl in
    let x : u16_at s 4 ≡ N = ap (λ (x : List ℕ). u16_at x 4) e ∙ u16_back N hN in
    let y : u16_at s 6 ≡ i = ap (λ (x : List ℕ). u16_at x 6) e ∙ u16_back i hi in
    ap (take_found s 0 p) fo ∙ (λ j. head_by 0 (x j) (y j)) ∙ ap (λ (b : Bool). cond b (going 8 1 (headed N i)) (refused 3 0)) fits

-- the records of a card up to its end record: their bytes, how many they are, and where they end
abbrev pub front : Card → List ℕ
front c = head_bytes c.size c.input ++ nodes_bytes c.nodes ++ wires_bytes c.wires

abbrev pub passed : Card → ℕ
passed c = suc (length c.nodes + length c.wires)

abbrev pub place : Card → ℕ
place c = 8 + 14 * length c.nodes + 8 * length c.wires

-- each is as the reader asks it
pub record Fits (c : Card) : Type 0 where
  pub size_small : c.size < 65536
  pub input_small : c.input < 65536
  pub size_fits_lem : size_fits c.size ≡ true
  pub nodes_fit : NodesFit 0 0 c.nodes
  pub wires_fit : WiresFit (length (as_read c).nodes) 0 c.wires

-- then the reading goes on behind them, whatever stands there
module _ (c : Card) (h : Fits c) (rest : List ℕ) where
  front_pass : Passes (front c ++ rest) rest (passed c) (going 0 0 (headed 0 0)) (place c) 3 (as_read c)
  unfolding run
  front_pass =
      let s = front c ++ rest in
      let here : drop 8 s ≡ nodes_bytes c.nodes ++ (wires_bytes c.wires ++ rest) = append_assoc (nodes_bytes c.nodes) (wires_bytes c.wires) rest in
      let n = nodes_pass s (wires_bytes c.wires ++ rest) c.nodes 8 1 (headed c.size c.input) (omega arith) (omega arith) here h.nodes_fit in
      let w = wires_pass s rest c.wires (8 + 14 * length c.nodes) n.last (add_nodes (headed c.size c.input) c.nodes)
      n.least_kind (omega (arith, n.most_kind)) n.left h.wires_fit in
      record {
        last = w.last;
        least_kind = w.least_kind;
        most_kind = w.most_kind;
        goes = ap (run (length c.nodes + length c.wires) s)
            (head_step s (headed 0 0) c.size c.input (nodes_bytes c.nodes ++ wires_bytes c.wires ++ rest) refl h.size_small h.input_small h.size_fits_lem)
            ∙ run_add s (length c.nodes) (length c.wires) (going 8 1 (headed c.size c.input))
            ∙ ap (run (length c.wires) s) n.goes
            ∙ w.goes;
        left = w.left;
      }

  -- one step behind them is the last
  front_then : (r : Progress) → Done r → 1 ≤ length rest
      → ((last : ℕ) → 1 ≤ last → last ≤ 3 → drop (place c) (front c ++ rest) ≡ rest → step_of (front c ++ rest) (going (place c) last (as_read c)) ≡ r)
      → read_records (front c ++ rest) ≡ r
  front_then r done some step =
      let s = front c ++ rest in
      let w = front_pass in
      let long : length s ≡ place c + length rest = omega (arith, sym (length-drop (place c) s) ∙ ap length w.left) in
      run_ends s (suc (passed c)) r (omega (arith, long)) done
      (run_next s (passed c) (going 0 0 (headed 0 0)) ∙ ap (step_of s) w.goes ∙ step w.last w.least_kind w.most_kind w.left)

-- the records of a card are read whole
pub records_read : (c : Card) → Fits c → read_records (write_board c) ≡ whole (as_read c)
unfolding write_board
records_read c h =
    front_then c h end_bytes (whole (as_read c)) tt (omega arith) (λ last low high e. end_step (front c ++ end_bytes) (place c) last (as_read c) low (omega arith) e)

-- a wire behind them that does not fit is refused where it stands
pub wire_refused : (c : Card) → Fits c → (w : Wire) (rest : List ℕ) → w.source < 65536 → w.target < 65536
    → wire_fits (length (as_read c).nodes) (length c.wires) w.source w.target ≡ false
    → read_records (front c ++ (wire_bytes w ++ rest)) ≡ refused 5 (place c)
wire_refused c h w rest hs ht n =
    front_then c h (wire_bytes w ++ rest) (refused 5 (place c)) tt (omega arith)
    (λ last low high e. wire_by_lem (front c ++ (wire_bytes w ++ rest)) (place c) last (as_read c) low w rest high e hs ht false n)
