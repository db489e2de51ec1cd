-- The bytes of a board with a wire more or a wire less, and what the judge makes of them. For a board that is read as p:
--     added_fits      a wire that fits is read with the others; then check 6 decides
--     added_fails     one that does not fit is refused with 5 at the board's length less 4
--     pulled_fits     with a wire out, check 6 decides
-- Assumes nothing.
use Prim.Native.Nat.{ℕ, ◌+◌, ◌-◌, ◌*◌, ◌≤◌, ◌<◌}
use mathlib.Core.Path.{◌≡◌, refl, sym, ap, subst, ◌∙◌}
use mathlib.Core.Bool.{true, false}
use mathlib.Core.List.{List, [], ◌∷◌, ◌++◌, append_assoc}
use native.Mathlib.Omega.{arith}
use lib.ListN.{length, take, drop, length-append, take-append-drop}
use lib.Seq.{take_at, drop_at, take-take, length-take-le, sets, sets-eq}
use Rattle.values.specs.Words.{Bytes}
use Rattle.reading.specs.Order.{Wire, Each, wire}
use Rattle.boards.specs.Board.{Parsed, whole, refused, wire_fits, read_records}
use Rattle.boards.specs.Judge.{read_board}
use Rattle.boards.specs.BoardParts.{wired as with_wires}
use Rattle.records.specs.Write.{NodeCard, Card, node_bytes, wire_bytes, wires_bytes, end_bytes, head_bytes, nodes_bytes, write_board}
use Rattle.boards.specs.Obeys.{as_read, WireObeys, no_wire, Obeys}
use Rattle.boards.proofs.Fits.{wire_fits_lem}
use Rattle.boards.proofs.Round.{read_write, fits}
use Rattle.records.proofs.RoundBytes.{board_bytes}
use Rattle.boards.proofs.RoundObeys.{EachFrom, each_from, wires_fit}
use Rattle.boards.proofs.RoundRun.{WiresFit, Fits, front, place, records_read, wire_refused}
use Rattle.boards.proofs.RoundSix.{records_length}
use Rattle.records.proofs.Stores.{enc_length}
use Rattle.carrying.specs.Carried.{added, wired, older, newer, pulled}
use Rattle.wiring.specs.Rewire.{added_to, wire_at, closed_up, pulled_from, in_front}
use Rattle.carrying.proofs.Wires.{newest}

-- ---- wires of which each joins two nodes

module _ (n : ℕ) where
  abbrev Joins : ℕ → Wire → Type 0
  Joins j w = WireObeys n w

  to_each : (ws : List Wire) (i : ℕ) → EachFrom Joins i ws → Each (WireObeys n) ws
  to_each [] i h = tt
  to_each (w ∷ ws) i h = (h.0, to_each ws (i + 1) h.1)

  from_each : (ws : List Wire) (i : ℕ) → Each (WireObeys n) ws → EachFrom Joins i ws
  from_each [] i h = tt
  from_each (w ∷ ws) i h = (h.0, from_each ws (i + 1) h.1)

  join : (xs ys : List Wire) → Each (WireObeys n) xs → Each (WireObeys n) ys → Each (WireObeys n) (xs ++ ys)
  join [] ys h k = k
  join (x ∷ xs) ys h k = (h.0, join xs ys h.1 k)

  pub parts : (xs ys : List Wire) → Each (WireObeys n) (xs ++ ys) → Each (WireObeys n) xs × Each (WireObeys n) ys
  parts [] ys h = (tt, h)
  parts (x ∷ xs) ys h = let r = parts xs ys h.1 in ((h.0, r.0), r.1)

-- ---- a card with other wires

abbrev pub card_with : Card → List Wire → Card
card_with c ws = record { size = c.size; input = c.input; nodes = c.nodes; wires = ws }

module _ (c : Card) (h : Obeys c) where
  pub joined : Each (WireObeys (length c.nodes)) c.wires
  joined = to_each (length c.nodes) c.wires 0 (each_from (Joins (length c.nodes)) no_wire c.wires h.wires)

  -- it fits, if they join its nodes and are not too many
  pub with_fits : (ws : List Wire) → Each (WireObeys (length c.nodes)) ws → length ws ≤ 128 → Fits (card_with c ws)
  with_fits ws joins few =
      let f = fits c h in
      record {
        size_small = f.size_small;
        input_small = f.input_small;
        size_fits_lem = f.size_fits_lem;
        nodes_fit = f.nodes_fit;
        wires_fit = subst (λ (n : ℕ). WiresFit n 0 ws) (sym (records_length c.size 0 c.nodes))
            (wires_fit (length c.nodes) ws 0 0 (from_each (length c.nodes) ws 0 joins) h.few_nodes (omega arith));
      }

-- ---- where the records of a written board stand

wires_long : (ws : List Wire) → length (wires_bytes ws) ≡ 8 * length ws
wires_long = enc_length wires_bytes wire_bytes 8 refl (λ w ws. refl) (λ w. refl)

nodes_long : (ds : List NodeCard) → length (nodes_bytes ds) ≡ 14 * length ds
nodes_long = enc_length nodes_bytes node_bytes 14 refl (λ d ds. refl) (λ d. refl)

wires_append : (xs ys : List Wire) → wires_bytes (xs ++ ys) ≡ wires_bytes xs ++ wires_bytes ys
wires_append [] ys = refl
wires_append (x ∷ xs) ys = ap (λ (l : List ℕ). wire_bytes x ++ l) (wires_append xs ys)

module _ (c : Card) where
  -- head and nodes
  abbrev start : List ℕ
  start = head_bytes c.size c.input ++ nodes_bytes c.nodes

  start_long : length start ≡ 8 + 14 * length c.nodes
  start_long = omega (arith, nodes_long c.nodes, length-append (head_bytes c.size c.input) (nodes_bytes c.nodes))

  front_long : length (front c) ≡ place c
  front_long = length-append start (wires_bytes c.wires) ∙ omega (arith, start_long, wires_long c.wires)

  pub board_long : length (write_board c) ≡ place c + 4
  unfolding write_board
  board_long = length-append (front c) end_bytes ∙ ap (λ (n : ℕ). n + 4) front_long

  -- the end record is its last 4 bytes
  cut : length (front c) ≡ length (front c ++ end_bytes) - 4
  cut = omega (arith, length-append (front c) end_bytes)

  before_end : take (length (write_board c) - 4) (write_board c) ≡ front c
  unfolding write_board
  before_end = take_at (front c) end_bytes _ cut

  pub end_last : drop (length (write_board c) - 4) (write_board c) ≡ end_bytes
  unfolding write_board
  end_last = drop_at (front c) end_bytes _ cut

  -- a wire more
  pub added_written : (w : Wire) → added_to w.source w.target (write_board c) ≡ front c ++ (wire_bytes w ++ end_bytes)
  added_written w = (λ i. (before_end i ++ wire_bytes w) ++ end_last i) ∙ append_assoc (front c) (wire_bytes w) end_bytes

  pub added_card : (w : Wire) → front c ++ (wire_bytes w ++ end_bytes) ≡ write_board (card_with c (c.wires ++ (w ∷ [])))
  unfolding write_board
  added_card w =
      sym (append_assoc (front c) (wire_bytes w) end_bytes)
      ∙ ap (λ (l : List ℕ). l ++ end_bytes)
      (append_assoc start (wires_bytes c.wires) (wire_bytes w) ∙ ap (λ (l : List ℕ). start ++ l) (sym (wires_append c.wires (w ∷ []))))

  -- a wire less, of which xs stand before it and ys behind it
  pub pulled_card : (xs ys : List Wire) (w : Wire) → c.wires ≡ xs ++ (w ∷ ys)
      → closed_up (8 + 14 * length c.nodes + 8 * length xs) (write_board c) ≡ write_board (card_with c (xs ++ ys))
  unfolding write_board
  pulled_card xs ys w e =
      let at = 8 + 14 * length c.nodes + 8 * length xs in
      let before = start ++ wires_bytes xs in
      let behind = wires_bytes ys ++ end_bytes in
      let long : length before ≡ at = length-append start (wires_bytes xs) ∙ omega (arith, start_long, wires_long xs) in
      let long-too : length (before ++ wire_bytes w) ≡ at + 8 = length-append before (wire_bytes w) ∙ ap (λ (n : ℕ). n + 8) long in
      let all : front c ++ end_bytes ≡ before ++ (wire_bytes w ++ behind) =
      ap (λ (ws : List Wire). (start ++ wires_bytes ws) ++ end_bytes) e
      ∙ ap (λ (l : List ℕ). (start ++ l) ++ end_bytes) (wires_append xs (w ∷ ys))
      ∙ ap (λ (l : List ℕ). l ++ end_bytes) (sym (append_assoc start (wires_bytes xs) (wire_bytes w ++ wires_bytes ys)))
      ∙ append_assoc before (wire_bytes w ++ wires_bytes ys) end_bytes in
      let cut : take at (front c ++ end_bytes) ≡ before = ap (take at) all ∙ take_at before (wire_bytes w ++ behind) at long in
      let rest : drop (at + 8) (front c ++ end_bytes) ≡ behind =
      ap (drop (at + 8)) (all ∙ sym (append_assoc before (wire_bytes w) behind)) ∙ drop_at (before ++ wire_bytes w) behind (at + 8) long-too in
      (λ i. cut i ++ rest i)
      ∙ sym (append_assoc before (wires_bytes ys) end_bytes)
      ∙ ap (λ (l : List ℕ). l ++ end_bytes) (append_assoc start (wires_bytes xs) (wires_bytes ys) ∙ ap (λ (l : List ℕ). start ++ l) (sym (wires_append xs ys)))

-- ---- the changed board as it is read

module _ (s : List ℕ) (b : Bytes s) (p : Parsed) (e : read_board s ≡ whole p) where
  abbrev card : Card
  card = (read_write s b p e).card

  obeys : Obeys card
  obeys = (read_write s b p e).obeys

  written : s ≡ write_board card
  written = (read_write s b p e).bytes

  read_as : as_read card ≡ p
  read_as = (read_write s b p e).parsed

  nodes_same : length card.nodes ≡ length p.nodes
  nodes_same = sym (records_length card.size 0 card.nodes) ∙ ap (λ (q : Parsed). length q.nodes) read_as

  wires_same : card.wires ≡ p.wires
  wires_same = ap (λ (q : Parsed). q.wires) read_as

  -- a board's length, and where its end record stands
  pub read_long : length s ≡ 8 + 14 * length p.nodes + 8 * length p.wires + 4
  read_long = ap length written ∙ board_long card ∙ (λ i. 8 + 14 * nodes_same i + 8 * length (wires_same i) + 4)

  pub read_ends : drop (length s - 4) s ≡ end_bytes
  read_ends = ap (λ (l : List ℕ). drop (length l - 4) l) written ∙ end_last card

  changed_read : (ws : List Wire) → Each (WireObeys (length card.nodes)) ws → length ws ≤ 128
      → read_records (write_board (card_with card ws)) ≡ whole (with_wires p ws)
  changed_read ws joins few =
      records_read (card_with card ws) (with_fits card obeys ws joins few) ∙ ap (λ (q : Parsed). whole (with_wires q ws)) read_as

  module _ (x y : ℕ) where
    -- what stands in it are bytes
    pub added_small : Bytes (added_to x y s)
    added_small =
        subst Bytes (sym (ap (added_to x y) written ∙ added_written card (wire x y) ∙ added_card card (wire x y)))
        (board_bytes (card_with card (card.wires ++ (wire x y ∷ []))))

    pub added_fits : wire_fits (length p.nodes) (length p.wires) x y ≡ true → read_records (added_to x y s) ≡ whole (with_wires p (added p.wires x y))
    added_fits f =
        let w = wire_fits_lem (length p.nodes) (length p.wires) x y f in
        let ws = card.wires ++ (wire x y ∷ []) in
        ap (λ (l : List ℕ). read_records (added_to x y l)) written
        ∙ ap read_records (added_written card (wire x y) ∙ added_card card (wire x y))
        ∙ changed_read ws (join (length card.nodes) card.wires (wire x y ∷ []) (joined card obeys) (subst (λ (n : ℕ). WireObeys n (wire x y)) (sym nodes_same) w.obeys, tt))
        (omega (arith, w.room, length-append card.wires (wire x y ∷ []), ap length wires_same))
        ∙ ap (λ (l : List Wire). whole (with_wires p (l ++ (wire x y ∷ [])))) wires_same

    pub added_fails : x < 65536 → y < 65536 → wire_fits (length p.nodes) (length p.wires) x y ≡ false
        → read_records (added_to x y s) ≡ refused 5 (length s - 4)
    added_fails hx hy f =
        let at : place card ≡ length s - 4 = omega (arith, ap length written ∙ board_long card) in
        ap (λ (l : List ℕ). read_records (added_to x y l)) written
        ∙ ap read_records (added_written card (wire x y))
        ∙ wire_refused card (fits card obeys) (wire x y) end_bytes hx hy
        ((λ i. wire_fits (length (read_as i).nodes) (length (wires_same i)) x y) ∙ f)
        ∙ ap (refused 5) at

    module _ (there : wired p.wires x y ≡ true) where
      split : card.wires ≡ older p.wires x y ++ (wire x y ∷ newer p.wires x y)
      split = wires_same ∙ newest p.wires x y there

      pulled_is : pulled_from p x y s ≡ write_board (card_with card (pulled p.wires x y))
      pulled_is =
          (λ i. closed_up (8 + 14 * sym nodes_same i + 8 * length (older p.wires x y)) (written i))
          ∙ pulled_card card (older p.wires x y) (newer p.wires x y) (wire x y) split

      pub pulled_small : Bytes (pulled_from p x y s)
      pulled_small = subst Bytes (sym pulled_is) (board_bytes (card_with card (pulled p.wires x y)))

      pub pulled_fits : read_records (pulled_from p x y s) ≡ whole (with_wires p (pulled p.wires x y))
      pulled_fits =
          let xs = older p.wires x y in
          let ys = newer p.wires x y in
          let all = parts (length card.nodes) xs (wire x y ∷ ys) (subst (Each (WireObeys (length card.nodes))) split (joined card obeys)) in
          let few : length (xs ++ ys) ≤ 128 = omega (arith, obeys.few_wires, ap length split, length-append xs ys, length-append xs (wire x y ∷ ys)) in
          ap read_records pulled_is
          ∙ changed_read (xs ++ ys) (join (length card.nodes) xs ys all.0 all.1.1) few

      -- the record is inside the board
      pub pulled_inside : wire_at p (length (older p.wires x y)) + 12 ≤ length s
      pulled_inside =
          omega (arith, read_long, ap length (newest p.wires x y there), length-append (older p.wires x y) (wire x y ∷ newer p.wires x y))

-- ---- the bytes that a wire more is written into

module _ (bytes : List ℕ) (n x y : ℕ) (room : n + 8 ≤ length bytes) (low : 4 ≤ n) (ends : drop (length (take n bytes) - 4) (take n bytes) ≡ end_bytes) where
  abbrev head : List ℕ
  head = take (n - 4) bytes

  before_cut : take (length (take n bytes) - 4) (take n bytes) ≡ head
  before_cut =
      ap (λ (m : ℕ). take (m - 4) (take n bytes)) (length-take-le n bytes (omega (arith, room)))
      ∙ take-take (n - 4) n bytes (omega arith)

  -- the old board and the new one, by their parts
  pub board_parts : take n bytes ≡ head ++ end_bytes
  board_parts = sym (take-append-drop (length (take n bytes) - 4) (take n bytes)) ∙ (λ i. before_cut i ++ ends i)

  pub added_parts : added_to x y (take n bytes) ≡ head ++ (wire_bytes (wire x y) ++ end_bytes)
  added_parts = (λ i. (before_cut i ++ wire_bytes (wire x y)) ++ ends i) ∙ append_assoc head (wire_bytes (wire x y)) end_bytes

  pub added_front : in_front (added_to x y (take n bytes)) bytes ≡ sets bytes (n - 4) (wire_bytes (wire x y) ++ end_bytes)
  added_front =
      let end : length (head ++ (wire_bytes (wire x y) ++ end_bytes)) ≡ n - 4 + 12 =
      length-append head (wire_bytes (wire x y) ++ end_bytes) ∙ ap (λ (m : ℕ). m + 12) (length-take-le (n - 4) bytes (omega (arith, room))) in
      ap (λ (l : List ℕ). in_front l bytes) added_parts
      ∙ ap (λ (m : ℕ). head ++ (wire_bytes (wire x y) ++ end_bytes) ++ drop m bytes) end
      ∙ sym (sets-eq (wire_bytes (wire x y) ++ end_bytes) bytes (n - 4) (omega (arith, room, low)))
