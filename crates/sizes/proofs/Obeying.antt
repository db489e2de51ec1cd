-- A card at another block size, or with another line at a delay: its bytes are the old ones with that number stored, and it obeys as the old
-- one did.
--     size_read       so accepted bytes with another size are read as the board of that size, of the same kinds
--     line_read       and with another line at a delay besides, as that board with that kind replaced
--     laid_out        a board that is read is determined by its size, input node, wires and kinds
--     size_back, line_back    the size, and the line, stored again as they were
--     lines_replaced  the lines together, of boards of which one has another delay in a place
-- Assumes nothing.
use Prim.Native.Nat.{ℕ, zero, suc, ◌+◌, ◌*◌, ◌≤◌, ◌<◌}
use mathlib.Core.Path.{◌≡◌, refl, sym, ap, subst, ◌∙◌}
use mathlib.Core.Bool.{Bool, true, false, cond}
use mathlib.Core.List.{List, [], ◌∷◌, ◌++◌, map}
use native.Mathlib.Omega.{arith}
use lib.Dec.{eqb}
use lib.ListN.{length, get_or, set, length-set, get_or-map}
use lib.Seq.{sets, map-set, map-set_same, set-set, set-get_or, get_or-set_same}
use borrow.Author.Tests.{eqb-true}
use Rattle.values.specs.Bytes.{u16_bytes, u32_bytes}
use Rattle.kinds.specs.Kind.{line_of, channels_of, cell_size}
use Rattle.kinds.specs.declared.kind.NodeKind.{NodeKind}
use Rattle.kinds.specs.declared.kind.NodeKind.TheVariants.{Pass, Delay}
use Rattle.kinds.specs.declared.kind.NodeRecord.{NodeRecord}
use Rattle.boards.specs.Board.{Parsed, whole, lines_of}
use Rattle.boards.specs.Judge.{read_board}
use Rattle.records.specs.Write.{NodeCard, Card, head_bytes, node_bytes, wires_bytes, end_bytes, nodes_bytes, write_board}
use Rattle.boards.specs.Obeys.{kind_of, records_from, as_read, no_node, no_wire, EachAt, FieldsObey, NodeObeys, WireObeys, SourcesObey, lines_of_cards, Obeys}
use Rattle.boards.proofs.Round.{Accepted, write_read}
use Rattle.memory.specs.Memory.{kind_at, kinds}
use Rattle.resizing.specs.Resize.{delay_of}
use Rattle.resizing.proofs.Boards.{kind_in, delay_at}
use Rattle.sizes.proofs.Streams.{either}

-- ---- the card

abbrev card_of : Card → ℕ → List NodeCard → Card
card_of c M ds = record { size = M; input = c.input; nodes = ds; wires = c.wires }

abbrev with_line : NodeCard → ℕ → NodeCard
with_line d m = record { type = d.type; n = m; f = d.f }

-- node k's line is m
abbrev lined : List NodeCard → ℕ → ℕ → List NodeCard
lined ds k m = set ds k (with_line (get_or ds k no_node) m)

-- ---- its bytes

sets_on : (x : ℕ) (l : List ℕ) (i : ℕ) (vs : List ℕ) → sets (x ∷ l) (suc i) vs ≡ x ∷ sets l i vs
sets_on x l i [] = refl
sets_on x l i (v ∷ vs) = sets_on x (set l i v) (suc i) vs

sets_behind : (a l : List ℕ) (i j : ℕ) (vs : List ℕ) → length a + i ≡ j → sets (a ++ l) j vs ≡ a ++ sets l i vs
sets_behind [] l i j vs e = let d : j ≡ i = omega arith in ap (λ (n : ℕ). sets l n vs) d
sets_behind (x ∷ a) l i zero vs e = absurd (omega arith)
sets_behind (x ∷ a) l i (suc j) vs e = sets_on x (a ++ l) j vs ∙ ap (λ (t : List ℕ). x ∷ t) (sets_behind a l i j vs (omega arith))

size_bytes : (c : Card) (M : ℕ) → sets (write_board c) 4 (u16_bytes M) ≡ write_board (card_of c M c.nodes)
unfolding write_board
size_bytes c M = refl

module _ (m : ℕ) (x y : List ℕ) where
  nodes_bytes_lem : (ds : List NodeCard) (k j : ℕ) → k < length ds → 14 * k + 6 ≡ j
      → sets (nodes_bytes ds ++ x ++ y) j (u32_bytes m) ≡ nodes_bytes (lined ds k m) ++ x ++ y
  nodes_bytes_lem [] k j h e = absurd (omega arith)
  nodes_bytes_lem (d ∷ ds) zero j h e = let six : j ≡ 6 = omega arith in rw six
  nodes_bytes_lem (d ∷ ds) (suc k) j h e =
      sets_behind (node_bytes d) (nodes_bytes ds ++ x ++ y) (14 * k + 6) j (u32_bytes m) (omega arith)
      ∙ ap (λ (t : List ℕ). node_bytes d ++ t) (nodes_bytes_lem ds k (14 * k + 6) (omega arith) refl)

line-bytes : (c : Card) (k m : ℕ) → k < length c.nodes → sets (write_board c) (14 * k + 14) (u32_bytes m) ≡ write_board (card_of c c.size (lined c.nodes k m))
unfolding write_board
line-bytes c k m h =
    let head = head_bytes c.size c.input in
    let wires = wires_bytes c.wires in
    sets_behind head (nodes_bytes c.nodes ++ wires ++ end_bytes) (14 * k + 6) (14 * k + 14) (u32_bytes m) (omega arith)
    ∙ ap (λ (t : List ℕ). head ++ t) (nodes_bytes_lem m wires end_bytes c.nodes k (14 * k + 6) h refl)

two_stores : (c : Card) (M k m : ℕ) → k < length c.nodes
    → sets (sets (write_board c) 4 (u16_bytes M)) (14 * k + 14) (u32_bytes m) ≡ write_board (card_of c M (lined c.nodes k m))
two_stores c M k m h = ap (λ (b : List ℕ). sets b (14 * k + 14) (u32_bytes m)) (size_bytes c M) ∙ line-bytes (card_of c M c.nodes) k m h

-- the line as it was
lined_back : (ds : List NodeCard) (k m : ℕ) → k < length ds → lined (lined ds k m) k (get_or ds k no_node).n ≡ ds
lined_back ds k m h =
    let d : NodeCard = get_or ds k no_node in
    ap (λ (x : NodeCard). set (lined ds k m) k (with_line x d.n)) (get_or-set_same ds k (with_line d m) no_node h)
    ∙ set-set ds k (with_line d m) d
    ∙ set-get_or ds k no_node

-- ---- the description of a delay

delay_kind : (d : NodeCard) → d.type ≡ 7 → kind_of d ≡ Delay d.n
unfolding kind_of
delay_kind d e = rw e

delay_by : (b : Bool) (k j : NodeKind) → delay_of (cond b k j) ≡ cond b (delay_of k) (delay_of j)
delay_by true k j = refl
delay_by false k j = refl

no_delay : (d : NodeCard) → eqb d.type 7 ≡ false → delay_of (kind_of d) ≡ 0
unfolding kind_of
no_delay d e = simp (e, delay_by, either)

type_seven : (d : NodeCard) (n : ℕ) → kind_of d ≡ Delay n → 1 ≤ n → d.type ≡ 7
type_seven d n e some = go (eqb d.type 7) refl
  where
    go : (b : Bool) → eqb d.type 7 ≡ b → d.type ≡ 7
    go true q = eqb-true d.type 7 q
    go false q = absurd (omega (arith, no_delay d q, ap delay_of e))

-- ---- kinds, and their lines

-- the values of the lines of a list of kinds
abbrev lines_in : List NodeKind → ℕ
lines_in [] = 0
lines_in (k ∷ ks) = line_of k + lines_in ks

lines_in_lem : (rs : List NodeRecord) → lines_of rs ≡ lines_in (map (λ r. r.kind) rs)
lines_in_lem [] = refl
lines_in_lem (r ∷ rs) = ap (λ (n : ℕ). line_of r.kind + n) (lines_in_lem rs)

lines_cards : (ds : List NodeCard) → lines_of_cards ds ≡ lines_in (map kind_of ds)
lines_cards [] = refl
lines_cards (d ∷ ds) = ap (λ (n : ℕ). line_of (kind_of d) + n) (lines_cards ds)

-- with another line at a delay
lines_set : (ks : List NodeKind) (k n m : ℕ) → get_or ks k Pass ≡ Delay n → lines_in (set ks k (Delay m)) + n ≡ lines_in ks + m
lines_set [] k n m e = let never : ◌≡◌ {A = ℕ} 0 1 = cc in absurd (omega arith)
lines_set (j ∷ ks) zero n m e = let l : line_of j ≡ n = ap line_of e in omega arith
lines_set (j ∷ ks) (suc k) n m e = omega (arith, lines_set ks k n m e)

-- ---- it obeys

size_obeys : (c : Card) (M : ℕ) → Obeys c → 1 ≤ M → M ≤ 128 → Obeys (card_of c M c.nodes)
size_obeys c M h least most = record {
  least_size = least;
  most_size = most;
  some_node = h.some_node;
  few_nodes = h.few_nodes;
  nodes = h.nodes;
  few_lines = h.few_lines;
  few_wires = h.few_wires;
  wires = h.wires;
  sources = h.sources;
  input_pass = h.input_pass;
  input_free = h.input_free;
}

each_set : {A : Type 0} (P : ℕ → A → Type 0) (z : A) (xs : List A) (k : ℕ) (y : A) → EachAt P z xs → P k y → EachAt P z (set xs k y)
each_set P z [] k y h here i l = absurd (omega arith)
each_set P z (x ∷ xs) zero y h here zero l = here
each_set P z (x ∷ xs) zero y h here (suc i) l = h (suc i) l
each_set P z (x ∷ xs) (suc k) y h here zero l = h 0 (omega arith)
each_set P z (x ∷ xs) (suc k) y h here (suc i) l = each_set (λ j. P (suc j)) z xs k y (λ j q. h (suc j) (omega arith)) here i (omega arith)

module _ (c : Card) (k n m : ℕ) (at : get_or (map kind_of c.nodes) k Pass ≡ Delay n) (some : 1 ≤ n) where
  abbrev d : NodeCard
  d = get_or c.nodes k no_node

  there : k < length c.nodes
  there = (delay_at kind_of no_node c.nodes k n at).0

  old_kind : kind_of d ≡ Delay n
  old_kind = (delay_at kind_of no_node c.nodes k n at).1

  new_kind : kind_of (with_line d m) ≡ Delay m
  new_kind = delay_kind (with_line d m) (type_seven d n old_kind some)

  new_kinds : map kind_of (lined c.nodes k m) ≡ set (map kind_of c.nodes) k (Delay m)
  new_kinds = map-set kind_of c.nodes k (with_line d m) ∙ ap (set (map kind_of c.nodes) k) new_kind

  same_type : (i : ℕ) → (get_or (lined c.nodes k m) i no_node).type ≡ (get_or c.nodes i no_node).type
  same_type i =
      let type : NodeCard → ℕ = λ x. x.type in
      sym (get_or-map type (lined c.nodes k m) i no_node)
      ∙ ap (λ (l : List ℕ). get_or l i 0) (map-set_same type c.nodes k (with_line d m) no_node refl)
      ∙ get_or-map type c.nodes i no_node

  node_obeys : NodeObeys k d → 1 ≤ m → m ≤ 132300 → NodeObeys k (with_line d m)
  unfolding FieldsObey
  node_obeys o least most =
      let fields : FieldsObey (Delay n) d.n d.f = rw old_kind at o.fields in
      record {
        least_type = o.least_type;
        most_type = o.most_type;
        fields = rw new_kind ((least, most), fields.1);
        float_fits = o.float_fits;
        destination = o.destination;
      }

  sources_obey : SourcesObey c.wires k d → SourcesObey c.wires k (with_line d m)
  sources_obey o = record {
    sources = o.sources;
    once = o.once;
    same = o.same;
    least_sources = rw new_kind (rw old_kind at o.least_sources);
    most_sources = rw new_kind (rw old_kind at o.most_sources);
  }

  line_obeys : Obeys c → 1 ≤ m → m ≤ 132300 → lines_in (map kind_of c.nodes) + m ≤ 262144 + n → Obeys (card_of c c.size (lined c.nodes k m))
  line_obeys h least most few =
      let long : length (lined c.nodes k m) ≡ length c.nodes = length-set c.nodes k (with_line d m) in
      let lines = lines_cards (lined c.nodes k m) ∙ ap lines_in new_kinds in
      record {
        least_size = h.least_size;
        most_size = h.most_size;
        some_node = omega (arith, h.some_node);
        few_nodes = omega (arith, h.few_nodes);
        nodes = each_set NodeObeys no_node c.nodes k (with_line d m) h.nodes (node_obeys (h.nodes k there) least most);
        few_lines = omega (arith, lines_set (map kind_of c.nodes) k n m at);
        few_wires = h.few_wires;
        wires = subst (λ (l : ℕ). EachAt (λ j. WireObeys l) no_wire c.wires) (sym long) h.wires;
        sources = each_set (SourcesObey c.wires) no_node c.nodes k (with_line d m) h.sources (sources_obey (h.sources k there));
        input_pass = same_type c.input ∙ h.input_pass;
        input_free = h.input_free;
      }

-- ---- what it is read as

-- the records of a list of kinds
abbrev pub laid : ℕ → ℕ → List NodeKind → List NodeRecord
laid N start [] = []
laid N start (k ∷ ks) = record { kind = k; channels = channels_of k; cell = start } ∷ laid N (start + cell_size N k) ks

-- p at blocks of M, with nodes of these kinds
abbrev pub board_of : Parsed → ℕ → List NodeKind → Parsed
board_of p M ks = record { size = M; input = p.input; nodes = laid M 0 ks; wires = p.wires }

pub kinds_laid : (N start : ℕ) (ks : List NodeKind) → map (λ (r : NodeRecord). r.kind) (laid N start ks) ≡ ks
kinds_laid N start [] = refl
kinds_laid N start (k ∷ ks) = ap (λ (l : List NodeKind). k ∷ l) (kinds_laid N (start + cell_size N k) ks)

records_laid : (N start : ℕ) (ds : List NodeCard) → records_from N start ds ≡ laid N start (map kind_of ds)
records_laid N start [] = refl
records_laid N start (d ∷ ds) =
    ap (λ (l : List NodeRecord). record { kind = kind_of d; channels = channels_of (kind_of d); cell = start } ∷ l) (records_laid N (start + cell_size N (kind_of d)) ds)

module _ (c : Card) where
  kinds_of : kinds (as_read c) ≡ map kind_of c.nodes
  kinds_of = ap (map (λ (r : NodeRecord). r.kind)) (records_laid c.size 0 c.nodes) ∙ kinds_laid c.size 0 (map kind_of c.nodes)

  read_as : (M : ℕ) (ds : List NodeCard) (ks : List NodeKind) → map kind_of ds ≡ ks → as_read (card_of c M ds) ≡ board_of (as_read c) M ks
  read_as M ds ks e =
      ap (λ (l : List NodeRecord). record { size = M; input = c.input; nodes = l; wires = c.wires }) (records_laid M 0 ds ∙ ap (laid M 0) e)

-- ---- accepted bytes

module _ (s : List ℕ) (p : Parsed) (a : Accepted s p) where
  abbrev c : Card
  c = a.card

  -- of a change to the bytes that is one to the card
  changed : (f : List ℕ → List ℕ) (ks : Parsed → List NodeKind) (M : ℕ) (ds : List NodeCard) → (f (write_board c) ≡ write_board (card_of c M ds))
      → Obeys (card_of c M ds) → map kind_of ds ≡ ks (as_read c) → read_board (f s) ≡ whole (board_of p M (ks p))
  changed f ks M ds bytes obeys e =
      ap (λ (b : List ℕ). read_board (f b)) a.bytes
      ∙ ap read_board bytes
      ∙ write_read (card_of c M ds) obeys
      ∙ ap whole (read_as c M ds (ks (as_read c)) e)
      ∙ ap (λ (q : Parsed). whole (board_of q M (ks q))) a.parsed

  pub laid_out : p ≡ board_of p p.size (kinds p)
  laid_out = sym a.parsed ∙ read_as c c.size c.nodes (kinds (as_read c)) (sym (kinds_of c)) ∙ ap (λ (q : Parsed). board_of q q.size (kinds q)) a.parsed

  same_size : c.size ≡ p.size
  same_size = ap (λ (q : Parsed). q.size) a.parsed

  same_kinds : map kind_of c.nodes ≡ kinds p
  same_kinds = sym (kinds_of c) ∙ ap kinds a.parsed

  -- node k of the card, where the board has a delay
  card_kind : (k n : ℕ) → kind_at p k ≡ Delay n → get_or (map kind_of c.nodes) k Pass ≡ Delay n
  card_kind k n is_delay = ap (λ (l : List NodeKind). get_or l k Pass) same_kinds ∙ kind_in p k ∙ is_delay

  module _ (M : ℕ) (least_size : 1 ≤ M) (most_size : M ≤ 128) where
    pub size_read : read_board (sets s 4 (u16_bytes M)) ≡ whole (board_of p M (kinds p))
    size_read = changed (λ b. sets b 4 (u16_bytes M)) kinds M c.nodes (size_bytes c M) (size_obeys c M a.obeys least_size most_size) (sym (kinds_of c))

    pub line_read : (k n m : ℕ) → kind_at p k ≡ Delay n → 1 ≤ n → 1 ≤ m → m ≤ 132300 → lines_of p.nodes + m ≤ 262144 + n
        → read_board (sets (sets s 4 (u16_bytes M)) (14 * k + 14) (u32_bytes m)) ≡ whole (board_of p M (set (kinds p) k (Delay m)))
    line_read k n m is_delay some least most few =
        let lines : lines_in (map kind_of c.nodes) ≡ lines_of p.nodes = ap lines_in same_kinds ∙ sym (lines_in_lem p.nodes) in
        let at = card_kind k n is_delay in
        let e : Card = card_of c M c.nodes in
        changed (λ b. sets (sets b 4 (u16_bytes M)) (14 * k + 14) (u32_bytes m)) (λ q. set (kinds q) k (Delay m)) M (lined c.nodes k m)
        (two_stores c M k m (there e k n m at some))
        (line_obeys e k n m at some (size_obeys c M a.obeys least_size most_size) least most (omega arith))
        (new_kinds e k n m at some ∙ ap (λ (l : List NodeKind). set l k (Delay m)) (sym (kinds_of c)))

  -- the size and the line stored again as they were
  pub size_back : (M : ℕ) → sets (sets s 4 (u16_bytes M)) 4 (u16_bytes p.size) ≡ s
  size_back M =
      (λ i. sets (sets (a.bytes i) 4 (u16_bytes M)) 4 (u16_bytes (sym same_size i)))
      ∙ ap (λ (b : List ℕ). sets b 4 (u16_bytes c.size)) (size_bytes c M)
      ∙ size_bytes (card_of c M c.nodes) c.size
      ∙ sym a.bytes

  pub line_back : (M k n m : ℕ) → kind_at p k ≡ Delay n → 1 ≤ n
      → sets (sets (sets (sets s 4 (u16_bytes M)) (14 * k + 14) (u32_bytes m)) 4 (u16_bytes p.size)) (14 * k + 14) (u32_bytes n) ≡ s
  line_back M k n m is_delay some =
      let at = delay_at kind_of no_node c.nodes k n (card_kind k n is_delay) in
      let d : NodeCard = get_or c.nodes k no_node in
      let line : Delay n ≡ Delay d.n = sym at.1 ∙ delay_kind d (type_seven d n at.1 some) in
      let same : n ≡ d.n = cc in
      let e : Card = card_of c M (lined c.nodes k m) in
      let long = length-set c.nodes k (with_line d m) in
      (λ i. sets (sets (sets (sets (a.bytes i) 4 (u16_bytes M)) (14 * k + 14) (u32_bytes m)) 4 (u16_bytes (sym same_size i))) (14 * k + 14) (u32_bytes (same i)))
      ∙ ap (λ (b : List ℕ). sets (sets b 4 (u16_bytes c.size)) (14 * k + 14) (u32_bytes d.n)) (two_stores c M k m at.0)
      ∙ two_stores e c.size k d.n (omega (arith, at.0))
      ∙ ap (λ (ds : List NodeCard). write_board (card_of c c.size ds)) (lined_back c.nodes k m at.0)
      ∙ sym a.bytes

-- boards of which one has another delay in a place
pub lines_replaced : (p q : Parsed) (k n m : ℕ) → kind_at p k ≡ Delay n → kinds q ≡ set (kinds p) k (Delay m) → lines_of q.nodes + n ≡ lines_of p.nodes + m
lines_replaced p q k n m is_delay replaced =
    (λ i. (lines_in_lem q.nodes ∙ ap lines_in replaced) i + n)
    ∙ lines_set (kinds p) k n m (kind_in p k ∙ is_delay)
    ∙ (λ i. sym (lines_in_lem p.nodes) i + m)
