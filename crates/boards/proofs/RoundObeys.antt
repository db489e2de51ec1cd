-- The rules that a card must obey against what the reader asks, of each node and of each wire in turn. Assumes nothing.
use Prim.Native.Nat.{ℕ, zero, suc, ◌+◌, ◌≤◌, ◌<◌}
use mathlib.Core.Path.{◌≡◌, refl, ap, subst}
use mathlib.Core.Logic.{◌↔◌}
use mathlib.Core.List.{List, [], ◌∷◌}
use mathlib.Core.Bool.{Bool, true, false, cond, not, ◌&&◌, and-eq-true_iff}
use native.Mathlib.Omega.{arith}
use borrow.Author.Tests.{lt-ltb, le-leb, eqb-true, eqb-false, eq-eqb, ne_eqb, not-true}
use lib.ListN.{length, get_or}
use lib.Dec.{ltb, leb, eqb}
use Rattle.kinds.specs.Row.{Line, no_line, line_x, line_xy, row_of}
use Rattle.kinds.specs.Kind.{line_of}
use Rattle.kinds.specs.declared.kind.NodeKind.{NodeKind}
use Rattle.reading.specs.Order.{Wire}
use Rattle.boards.specs.Board.{placed}
use Rattle.records.specs.Write.{NodeCard}
use Rattle.boards.specs.Obeys.{kind_of, WholeObeys, FieldsObey, NodeObeys, WireObeys, EachAt, lines_of_cards}
use Rattle.boards.proofs.Fits as fits
use Rattle.boards.proofs.RoundRule.{kind_kept, kind_told, destination_is}
use Rattle.boards.proofs.RoundRun.{NodeFits, NodesFit, WireFits, WiresFit}

-- ---- each element with its number, in turn

abbrev pub EachFrom : {A : Type 0} → (ℕ → A → Type 0) → ℕ → List A → Type 0
EachFrom P i [] = Unit {0}
EachFrom P i (x ∷ xs) = P i x × EachFrom P (i + 1) xs

module _ {A : Type 0} (P : ℕ → A → Type 0) (z : A) where
  from_on : (xs : List A) (i : ℕ) → ((j : ℕ) → j < length xs → P (i + j) (get_or xs j z)) → EachFrom P i xs
  from_on [] i h = tt
  from_on (x ∷ xs) i h = (
    subst (λ (k : ℕ). P k x) (omega arith) (h 0 (omega arith)),
    from_on xs (i + 1) (λ j l. subst (λ (k : ℕ). P k (get_or xs j z)) (omega arith) (h (suc j) (omega arith))),
  )

  on_from : (xs : List A) (i : ℕ) → EachFrom P i xs → (j : ℕ) → j < length xs → P (i + j) (get_or xs j z)
  on_from [] i h j l = absurd (omega arith)
  on_from (x ∷ xs) i h zero l = subst (λ (k : ℕ). P k x) (omega arith) h.0
  on_from (x ∷ xs) i h (suc j) l = subst (λ (k : ℕ). P k (get_or xs j z)) (omega arith) (on_from xs (i + 1) h.1 j (omega arith))

  pub each_from : (xs : List A) → EachAt P z xs → EachFrom P 0 xs
  each_from xs h = from_on xs 0 (λ j l. subst (λ (k : ℕ). P k (get_or xs j z)) (omega arith) (h j l))

  pub from_each : (xs : List A) → EachFrom P 0 xs → EachAt P z xs
  from_each xs h j l = subst (λ (k : ℕ). P k (get_or xs j z)) (omega arith) (on_from xs 0 h j l)

-- ---- nodes

whole_small : (l : Line) (n : ℕ) → WholeObeys l n → n < 4294967296
whole_small no_line n h = omega arith
whole_small (line_x _) n h = omega arith
whole_small (line_xy _) n h = omega arith

fields_small : (k : NodeKind) (n f : ℕ) → FieldsObey k n f → n < 4294967296
unfolding FieldsObey
fields_small k n f h = whole_small (row_of k).line n h.0

-- the place of the destination, by its type's number
module _ (t i : ℕ) where
  place_in : (b : Bool) → eqb i 0 ≡ b → (t ≡ 3) ↔ (i ≡ 0) → cond b (eqb t 3) (not (eqb t 3)) ≡ true
  place_in true e h = eq-eqb t 3 (h.1 (eqb-true i 0 e))
  place_in false e h = ap not (ne_eqb t 3 (λ q. eqb-false i 0 e (h.0 q)))

  place_told : (b : Bool) → eqb i 0 ≡ b → cond b (eqb t 3) (not (eqb t 3)) ≡ true → (t ≡ 3) ↔ (i ≡ 0)
  place_told true e h = (λ _. eqb-true i 0 e, λ _. eqb-true t 3 h)
  place_told false e h = (λ q. absurd (eqb-false t 3 (not-true (eqb t 3) h) q), λ z. absurd (eqb-false i 0 e z))

module _ (i lines : ℕ) (d : NodeCard) where
  abbrev total : ℕ
  total = lines + line_of (kind_of d)

  pub node_fits_lem : NodeObeys i d → i < 64 → lines + line_of (kind_of d) ≤ 262144 → NodeFits i lines d
  node_fits_lem h room few =
      let k = kind_of d in
      let at : placed i k ≡ true = rw (destination_is d h.least_type h.most_type) (place_in d.type i (eqb i 0) refl h.destination) in
      record {
        type_small = omega (arith, h.most_type);
        n_small = fields_small k d.n d.f h.fields;
        f_small = h.float_fits;
        rule = kind_kept d h.least_type h.most_type h.fields;
        fits = (and-eq-true_iff (ltb i 64 && placed i k) (leb total 262144)).1
            ((and-eq-true_iff (ltb i 64) (placed i k)).1 (lt-ltb i 64 room, at), le-leb total 262144 few);
      }

  pub node_told : NodeFits i lines d → NodeObeys i d × (i < 64) × (lines + line_of (kind_of d) ≤ 262144)
  node_told h =
      let told = kind_told d (kind_of d) h.rule in
      let all = fits.node_fits_lem i lines (kind_of d) h.fits in (
        record {
          least_type = told.0;
          most_type = told.1;
          fields = told.2;
          float_fits = h.f_small;
          destination = place_told d.type i (eqb i 0) refl (rw (destination_is d told.0 told.1) at all.in_place);
        },
        all.room,
        all.few_lines,
      )

pub nodes_fit : (ds : List NodeCard) (i lines : ℕ) → EachFrom NodeObeys i ds → i + length ds ≤ 64 → lines + lines_of_cards ds ≤ 262144
    → NodesFit i lines ds
nodes_fit [] i lines h room few = tt
nodes_fit (d ∷ ds) i lines h room few =
    (node_fits_lem i lines d h.0 (omega arith) (omega arith), nodes_fit ds (i + 1) (lines + line_of (kind_of d)) h.1 (omega arith) (omega arith))

pub nodes_told : (ds : List NodeCard) (i lines : ℕ) → NodesFit i lines ds → i ≤ 64 → lines ≤ 262144
    → EachFrom NodeObeys i ds × (i + length ds ≤ 64) × (lines + lines_of_cards ds ≤ 262144)
nodes_told [] i lines h room few = (tt, omega arith, omega arith)
nodes_told (d ∷ ds) i lines h room few =
    let one = node_told i lines d h.0 in
    let rest = nodes_told ds (i + 1) (lines + line_of (kind_of d)) h.1 (omega arith) (omega arith) in
    ((one.0, rest.0), omega arith, omega arith)

-- ---- wires

module _ (i j : ℕ) (w : Wire) where
  pub wire_fits_lem : WireObeys i w → i ≤ 64 → j < 128 → WireFits i j w
  wire_fits_lem h few room =
      let x = w.source in
      let y = w.target in
      record {
        source_small = omega (arith, h.source_there);
        target_small = omega (arith, h.target_there);
        fits = (and-eq-true_iff (ltb j 128 && ltb x i && ltb y i) (not (eqb x y))).1 (
          (and-eq-true_iff (ltb j 128 && ltb x i) (ltb y i)).1
              ((and-eq-true_iff (ltb j 128) (ltb x i)).1 (lt-ltb j 128 room, lt-ltb x i h.source_there), lt-ltb y i h.target_there),
          ap not (ne_eqb x y h.apart),
        );
      }

  pub wire_told : WireFits i j w → WireObeys i w × (j < 128)
  wire_told h = let all = fits.wire_fits_lem i j w.source w.target h.fits in (all.obeys, all.room)

module _ (i : ℕ) where
  pub wires_fit : (ws : List Wire) (j k : ℕ) → EachFrom (λ (k : ℕ) (w : Wire). WireObeys i w) k ws → i ≤ 64 → j + length ws ≤ 128 → WiresFit i j ws
  wires_fit [] j k h few room = tt
  wires_fit (w ∷ ws) j k h few room = (wire_fits_lem i j w h.0 few (omega arith), wires_fit ws (j + 1) (k + 1) h.1 few (omega arith))

  pub wires_told : (ws : List Wire) (j k : ℕ) → WiresFit i j ws → j ≤ 128
      → EachFrom (λ (k : ℕ) (w : Wire). WireObeys i w) k ws × (j + length ws ≤ 128)
  wires_told [] j k h room = (tt, omega arith)
  wires_told (w ∷ ws) j k h room =
      let one = wire_told i j w h.0 in
      let rest = wires_told ws (j + 1) (k + 1) h.1 (omega arith) in
      ((one.0, rest.0), omega arith)
