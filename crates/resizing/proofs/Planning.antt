-- What is to be done to a board that is carried to another block size, case by case, and laws for the functions of src/resize.rt.
--     lates_more                  the late wires of one wire more
--     lines_sum                   the lines of the nodes are a sum
--     last_there                  the last late wire's target is a node
--     Tested, tested, line_view   what becomes of the late wire's target, case by case
--     no_delay_is                 a kind that is no delay
--     Corrects, corrects_plan     the one late wire's target has another line at the new block size; then the plan has it
--     Planned, plan_view          what a plan stores: nothing, the size, or the size and such a line
--     plan_same, .., plan_one     the plan by the code's tests
--     plan_room                   what is to be stored fits and lies within the board's bytes
-- Assumes nothing.
use Prim.Native.Nat.{ℕ, ◌+◌, ◌-◌, ◌*◌, ◌≤◌, ◌<◌}
use mathlib.Core.Path.{◌≡◌, refl, sym, ap, subst⁻¹, ◌∙◌}
use mathlib.Core.Bool.{Bool, true, false, cond, ◌||◌, and-eq-true_iff}
use mathlib.Core.List.{List, [], ◌∷◌, ◌++◌, append-nil}
use native.Mathlib.Omega.{arith}
use lib.Dec.{eqb, leb, ltb}
use lib.ListN.{length, get_or, length-append}
use borrow.Author.Tests.{ltb-true, ltb-false, leb-true, leb-false, le-leb, lt-leb, eqb-true, eqb-false, eq-eqb, ne_eqb}
use Rattle.std.proofs.lemmas.List.Sums.{sum_by-cons}
use Rattle.std.specs.Prelude.{sum_by, Option, Some, None, Result, Ok, Err}
use Rattle.values.specs.Words.{Bytes}
use Rattle.kinds.specs.Kind.{line_of}
use Rattle.kinds.specs.declared.kind.NodeKind.{NodeKind}
use Rattle.kinds.specs.declared.kind.NodeKind.TheVariants.{Delay}
use Rattle.kinds.specs.declared.kind.NodeRecord.{NodeRecord}
use Rattle.kinds.proofs.Arms.{kinds as each}
use Rattle.reading.specs.Table.{All}
use Rattle.reading.specs.Order.{Wire, Each, wire}
use Rattle.boards.specs.Board.{Parsed, whole, lines_of, size_fits}
use Rattle.boards.specs.Judge.{read_board}
use Rattle.boards.specs.Wires.{wire_of, wires_of}
use Rattle.graph.specs.Late.{is_late, late_wires}
use Rattle.records.specs.Write.{NodeCard, Card, nodes_bytes, write_board}
use Rattle.boards.specs.Obeys.{WireObeys}
use Rattle.reading.proofs.Choice.{pick, both, neither}
use Rattle.graph.proofs.Late.{late-more}
use Rattle.boards.proofs.Round.{read_write}
use Rattle.boards.proofs.RoundSix.{records_length}
use Rattle.memory.specs.Memory.{listed, kind_at}
use Rattle.resizing.specs.declared.resize.NotCarried.{NotCarried}
use Rattle.resizing.specs.declared.resize.NotCarried.TheVariants.{NoSize, ManyLate, NoDelay, TooShort, TooLong, TooMuch}
use Rattle.resizing.specs.declared.resize.Resized.{Resized}
use Rattle.resizing.specs.declared.resize.Resized.TheVariants.{Same, Size, Line}
use Rattle.resizing.specs.Planning.{last_target, Lates, Room}
use Rattle.resizing.specs.Resize.{delay_of, line_by, late_by, plan_of}
use Rattle.resizing.proofs.Boards.{delay_there, late_are}

-- ---- the late wires, wire by wire

last_snoc : (ws : List Wire) (w : Wire) → last_target (ws ++ (w ∷ [])) ≡ Some w.target
last_snoc [] w = refl
last_snoc (v ∷ []) w = refl
last_snoc (v ∷ u ∷ ws) w = last_snoc (u ∷ ws) w

snoc : (ws : List Wire) (n : ℕ) (t : Option ℕ) (w : Wire) (b : Bool) → Lates ws n t → Lates (ws ++ cond b (w ∷ []) []) (cond b (n + 1) n) (cond b (Some w.target) t)
snoc ws n t w true h = record { counted = omega (arith, h.counted, length-append ws (w ∷ [])); last = sym (last_snoc ws w) }
snoc ws n t w false h = rw append-nil h

pub lates_more : (l : List ℕ) (ws : List (ℕ × ℕ)) (i n : ℕ) (g : Option ℕ) (b : Bool) → i < length ws → is_late l (wire_of (get_or ws i (0, 0))) ≡ b
    → Lates (late_wires l (wires_of ws i)) n g → Lates (late_wires l (wires_of ws (i + 1))) (cond b (n + 1) n) (cond b (Some (get_or ws i (0, 0)).1) g)
lates_more l ws i n g b inside e h =
    subst⁻¹ (λ (vs : List Wire). Lates vs (cond b (n + 1) n) (cond b (Some (get_or ws i (0, 0)).1) g)) (late-more l ws i b inside e)
    (snoc (late_wires l (wires_of ws i)) n g (wire_of (get_or ws i (0, 0))) b h)

-- ---- the lines, node by node

pub lines_sum : (ns : List NodeRecord) → sum_by (λ (r : NodeRecord). line_of r.kind) ns ≡ lines_of ns
lines_sum [] = refl
lines_sum (r ∷ ns) = sum_by-cons (λ (d : NodeRecord). line_of d.kind) r ns ∙ ap (λ (n : ℕ). line_of r.kind + n) (lines_sum ns)

-- the last late wire's target is a node
pub last_there : (m : ℕ) (l : List ℕ) (ws : List Wire) (n t : ℕ) → Each (WireObeys m) ws → Lates (late_wires l ws) n (Some t) → t < m
last_there m l ws n t h d = go (late_wires l ws) (late_are (WireObeys m) l ws h) d.last
  where
    go : (vs : List Wire) → All (WireObeys m) vs → Some t ≡ last_target vs → t < m
    go [] h e = let never : ◌≡◌ {A = ℕ} 0 1 = cc in absurd (omega arith)
    go (w ∷ []) h e = let same : t ≡ w.target = cc in omega (arith, h.0.target_there)
    go (w ∷ v ∷ vs) h e = go (v ∷ vs) h.1 e

-- ---- the late wire's target k, a delay of n samples or of 0

-- what becomes of it, by the code's tests
pub data Tested (p : Parsed) (M k n : ℕ) : Result Resized NotCarried → Type 0 where
  no_delay : n ≡ 0 → Tested p M k n (Err (NoDelay k))
  too_short : (n ≡ 0 → ⊥) → n + p.size ≤ M → Tested p M k n (Err (TooShort k n))
  too_long : (n ≡ 0 → ⊥) → M < n + p.size → 132300 + M < n + p.size → Tested p M k n (Err (TooLong k n))
  too_much : (n ≡ 0 → ⊥) → M < n + p.size → n + p.size ≤ 132300 + M → 262144 + M < lines_of p.nodes + p.size → Tested p M k n (Err (TooMuch k n))
  carried : (n ≡ 0 → ⊥) → M < n + p.size → n + p.size ≤ 132300 + M → lines_of p.nodes + p.size ≤ 262144 + M → Tested p M k n (Ok (Line k n (n + p.size - M)))

pub tested : (p : Parsed) (M k n : ℕ) {r : Result Resized NotCarried} → Tested p M k n r → r ≡ line_by p M k n
tested p M k n (no_delay e) = rw (eq-eqb n 0 e)
tested p M k n (too_short some l) = rw (ne_eqb n 0 some, le-leb (n + p.size) M l)
tested p M k n (too_long some more l) = rw (ne_eqb n 0 some, lt-leb (n + p.size) M more, lt-leb (n + p.size) (132300 + M) l)
tested p M k n (too_much some more within l) =
    rw (ne_eqb n 0 some, lt-leb (n + p.size) M more, le-leb (n + p.size) (132300 + M) within, lt-leb (lines_of p.nodes + p.size) (262144 + M) l)
tested p M k n (carried some more within l) =
    rw (ne_eqb n 0 some, lt-leb (n + p.size) M more, le-leb (n + p.size) (132300 + M) within, le-leb (lines_of p.nodes + p.size) (262144 + M) l)

pub line_view : (p : Parsed) (M k n : ℕ) → Tested p M k n (line_by p M k n)
line_view p M k n =
    let T = Tested p M k n in
    let long : ℕ = n + p.size in
    let all : ℕ = lines_of p.nodes + p.size in
    pick T (eqb n 0) _ _ (λ e. no_delay (eqb-true n 0 e))
    (λ some. pick T (leb long M) _ _ (λ e. too_short (eqb-false n 0 some) (leb-true long M e))
    (λ more. pick T (leb long (132300 + M)) _ _
    (λ within. pick T (leb all (262144 + M)) _ _
    (λ e. carried (eqb-false n 0 some) (leb-false long M more) (leb-true long (132300 + M) within) (leb-true all (262144 + M) e))
    (λ e. too_much (eqb-false n 0 some) (leb-false long M more) (leb-true long (132300 + M) within) (leb-false all (262144 + M) e)))
    (λ e. too_long (eqb-false n 0 some) (leb-false long M more) (leb-false long (132300 + M) e))))

-- ---- a board

-- a block size that fits, and is another than the board's
abbrev pub SizeIn : ℕ → Type 0
SizeIn M = (1 ≤ M) × (M ≤ 128)

pub size_in : (M : ℕ) → SizeIn M → size_fits M ≡ true
size_in M h = (and-eq-true_iff (leb 1 M) (leb M 128)).1 (le-leb 1 M h.0, le-leb M 128 h.1)

size_told : (M : ℕ) → size_fits M ≡ true → SizeIn M
size_told M e = let two = both (leb 1 M) (leb M 128) e in (leb-true 1 M two.0, leb-true M 128 two.1)

pub record Another (p : Parsed) (M : ℕ) : Type 0 where
  pub size_fits_lem : SizeIn M
  pub other : M ≡ p.size → ⊥

-- the one late wire leads into node k, a delay of n samples; with m samples in its place, at blocks of M, all is within its bounds
pub record Corrects (p : Parsed) (M k n m : ℕ) : Type 0 where
  pub another : Another p M
  pub source : ℕ
  pub late_is : late_wires (listed p) p.wires ≡ wire source k ∷ []
  pub is_delay : kind_at p k ≡ Delay n
  pub some : 1 ≤ n
  pub least : 1 ≤ m
  pub most : m ≤ 132300
  pub few : lines_of p.nodes + m ≤ 262144 + n
  pub as_long : n + p.size ≡ m + M

-- what is stored: nothing, the size, or the size and a line
pub data Planned (p : Parsed) (M : ℕ) : Result Resized NotCarried → Type 0 where
  kept : {r : NotCarried} → Planned p M (Err r)
  already : M ≡ p.size → Planned p M (Ok Same)
  size_stored : Another p M → late_wires (listed p) p.wires ≡ [] → Planned p M (Ok Size)
  line_stored : (k n m : ℕ) → Corrects p M k n m → Planned p M (Ok (Line k n m))

delay_is : (k : NodeKind) → 1 ≤ delay_of k → k ≡ Delay (delay_of k)
delay_is = each (λ k. 1 ≤ delay_of k → k ≡ Delay (delay_of k)) (none, none, none, none, λ f. none, λ f. none, λ n h. refl, λ n f. none, λ f. none, λ f. none)
  where
    none : {A : Type 0} → 1 ≤ 0 → A
    none h = absurd (omega arith)

pub no_delay_is : (k : NodeKind) → ((n : ℕ) → k ≡ Delay n → ⊥) → delay_of k ≡ 0
no_delay_is = each (λ k. ((n : ℕ) → k ≡ Delay n → ⊥) → delay_of k ≡ 0) (none, none, none, none, λ f. none, λ f. none, λ n h. absurd (h n refl), λ n f. none, λ f. none, λ f. none)
  where
    none : {A : Type 0} → A → ◌≡◌ {A = ℕ} 0 0
    none h = refl

module _ (p : Parsed) (M : ℕ) where
  one_view : (w : Wire) {r : Result Resized NotCarried} → Another p M → late_wires (listed p) p.wires ≡ w ∷ [] → Tested p M w.target (delay_of (kind_at p w.target)) r
      → Planned p M r
  one_view w h e (no_delay _) = kept
  one_view w h e (too_short _ _) = kept
  one_view w h e (too_long _ _ _) = kept
  one_view w h e (too_much _ _ _ _) = kept
  one_view w h e (carried some more within few) =
      let n : ℕ = delay_of (kind_at p w.target) in
      line_stored w.target n (n + p.size - M) (record {
        another = h;
        source = w.source;
        late_is = e;
        is_delay = delay_is (kind_at p w.target) (omega (arith, some));
        some = omega (arith, some);
        least = omega arith;
        most = omega arith;
        few = omega arith;
        as_long = omega arith;
      })

  late_view : (ws : List Wire) → Another p M → late_wires (listed p) p.wires ≡ ws → Planned p M (late_by p M ws)
  late_view [] h e = size_stored h e
  late_view (w ∷ []) h e = one_view w h e (line_view p M w.target (delay_of (kind_at p w.target)))
  late_view (w ∷ v ∷ ws) h e = kept

  pub plan_view : Planned p M (plan_of p M)
  unfolding plan_of
  plan_view =
      pick (Planned p M) (size_fits M) _ _
      (λ f. pick (Planned p M) (eqb M p.size) _ _ (λ e. already (eqb-true M p.size e))
      (λ e. late_view (late_wires (listed p) p.wires) (record { size_fits_lem = size_told M f; other = eqb-false M p.size e }) refl))
      (λ _. kept)

  -- and back
  pub plan_same : SizeIn M → M ≡ p.size → Ok Same ≡ plan_of p M
  unfolding plan_of
  plan_same fits e = rw (size_in M fits, eq-eqb M p.size e)

  pub plan_late : (ws : List Wire) → Another p M → late_wires (listed p) p.wires ≡ ws → late_by p M ws ≡ plan_of p M
  unfolding plan_of
  plan_late ws h e = rw (size_in M h.size_fits_lem, ne_eqb M p.size h.other, e)

  pub corrects_plan : (k n m : ℕ) → Corrects p M k n m → Ok (Line k n m) ≡ plan_of p M
  corrects_plan k n m h =
      let delay : delay_of (kind_at p k) ≡ n = ap delay_of h.is_delay in
      let to : n + p.size - M ≡ m = omega arith in
      sym ((λ i. Ok (Line k (delay i) (delay i + p.size - M))) ∙ ap (λ (x : ℕ). Ok (Line k n x)) to)
      ∙ tested p M k (delay_of (kind_at p k)) (carried (λ e. omega arith) (omega arith) (omega arith) (omega arith))
      ∙ plan_late (wire h.source k ∷ []) h.another h.late_is

-- ---- the code's tests

pub plan_no_size : (p : Parsed) (M : ℕ) → (ltb M 1 || ltb 128 M) ≡ true → Err NoSize ≡ plan_of p M
unfolding plan_of
plan_no_size p M = go (ltb M 1) refl
  where
    go : (b : Bool) → ltb M 1 ≡ b → (b || ltb 128 M) ≡ true → Err NoSize ≡ plan_of p M
    go true e t = rw (lt-leb 1 M (ltb-true M 1 e))
    go false e t = rw (le-leb 1 M (ltb-false M 1 e), lt-leb M 128 (ltb-true 128 M t))

pub size_right : (M : ℕ) → (ltb M 1 || ltb 128 M) ≡ false → SizeIn M
size_right M e = let two = neither (ltb M 1) (ltb 128 M) e in (ltb-false M 1 two.0, ltb-false 128 M two.1)

-- the late wires by their count and the last one's target
module _ (p : Parsed) (M n : ℕ) (h : Another p M) where
  abbrev late : List Wire
  late = late_wires (listed p) p.wires

  pub plan_many : (t : Option ℕ) → Lates (late_wires (listed p) p.wires) n t → 1 < n → Err (ManyLate n) ≡ plan_of p M
  plan_many t lates more = go late refl lates
    where
      go : (ws : List Wire) → late ≡ ws → Lates ws n t → Err (ManyLate n) ≡ plan_of p M
      go [] q d = absurd (omega (arith, d.counted))
      go (w ∷ []) q d = absurd (omega (arith, d.counted))
      go (w ∷ v ∷ ws) q d = ap (λ (m : ℕ). Err (ManyLate m)) d.counted ∙ plan_late p M (w ∷ v ∷ ws) h q

  module _ (few : n ≤ 1) where
    pub plan_size : Lates (late_wires (listed p) p.wires) n None → Ok Size ≡ plan_of p M
    plan_size lates = go late refl lates
      where
        go : (ws : List Wire) → late ≡ ws → Lates ws n None → Ok Size ≡ plan_of p M
        go [] q d = plan_late p M [] h q
        go (w ∷ []) q d = let e = d.last in let never : ◌≡◌ {A = ℕ} 0 1 = cc in absurd (omega arith)
        go (w ∷ v ∷ ws) q d = absurd (omega (arith, d.counted))

    pub plan_one : (t : ℕ) → Lates (late_wires (listed p) p.wires) n (Some t) → line_by p M t (delay_of (kind_at p t)) ≡ plan_of p M
    plan_one t lates = go late refl lates
      where
        go : (ws : List Wire) → late ≡ ws → Lates ws n (Some t) → line_by p M t (delay_of (kind_at p t)) ≡ plan_of p M
        go [] q d = let e = d.last in let never : ◌≡◌ {A = ℕ} 0 1 = cc in absurd (omega arith)
        go (w ∷ []) q d =
            let e = d.last in
            let same : t ≡ w.target = cc in
            ap (λ (k : ℕ). line_by p M k (delay_of (kind_at p k))) same ∙ plan_late p M (w ∷ []) h q
        go (w ∷ v ∷ ws) q d = absurd (omega (arith, d.counted))

-- ---- the bytes

nodes_length : (ds : List NodeCard) → length (nodes_bytes ds) ≡ 14 * length ds
nodes_length [] = refl
nodes_length (d ∷ ds) = omega (arith, nodes_length ds)

board_length : (c : Card) → 14 * length c.nodes + 12 ≤ length (write_board c)
unfolding write_board
board_length c = simp (length-append, nodes_length) (omega arith)

module _ (s : List ℕ) (small : Bytes s) (p : Parsed) (e : read_board s ≡ whole p) (M : ℕ) where
  long : 14 * length p.nodes + 12 ≤ length s
  long =
      let a = read_write s small p e in
      let count = records_length a.card.size 0 a.card.nodes in
      let nodes = ap (λ (q : Parsed). length q.nodes) a.parsed in
      omega (arith, board_length a.card, count, nodes, ap length a.bytes)

  room : {r : Resized} → Planned p M (Ok r) → Room M (length s) r
  room (already _) = tt
  room (size_stored h _) = (h.size_fits_lem.1, omega (arith, long))
  room (line_stored k n m h) = (h.another.size_fits_lem.1, omega (arith, long, delay_there p k n h.is_delay))

  pub plan_room : (r : Resized) → Ok r ≡ plan_of p M → Room M (length s) r
  plan_room r e = room (subst⁻¹ (Planned p M) e (plan_view p M))
