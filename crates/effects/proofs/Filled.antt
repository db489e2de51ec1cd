-- Laws of arrays that are filled from their start, and of blocks stored in values.
-- Assumes nothing.
use mathlib.Core.Path.{◌≡◌, refl, sym, ap, ◌∙◌}
use mathlib.Core.Logic.{⊎_elim}
use mathlib.Core.Bool.{Bool, true, false, cond}
use mathlib.Core.List.{List, [], ◌∷◌, ◌++◌, map, append_assoc}
use Prim.Native.Nat.{ℕ, zero, suc, ◌+◌, ◌≤◌, ◌<◌}
use native.Mathlib.Nat.{le_of_suc-le-suc, eq-or-lt_of_le}
use native.Mathlib.Omega.{arith}
use lib.Dec.{ltb}
use borrow.Author.Tests.{ltb-true, ltb-false}
use lib.ListN.{length, set, take, drop, replicate, length-set, length-replicate, get_or-replicate}
use lib.Seq.{get_or-set_same, get_or-set_other, ext_get_or, drop-drop}
use lib.Lanes.{put_chunk}
use Rattle.std.proofs.lemmas.List.Edits.{sets-eq}
use Rattle.std.proofs.lemmas.Simd.{put_chunk_is}
use lib.Ieee.{Float, nan, binary32, to_bits}
use Rattle.values.specs.Words.{words}
use Rattle.values.specs.Floats.{float_at, set_four}
use Rattle.values.specs.Floors.{zero_f}
use Rattle.kinds.specs.Iter.{iter}
use Rattle.effects.specs.Block.{sample, fetched, fetched_if, quiet, fill, stored}
use Rattle.kinds.proofs.Iterated.{iter_then}

-- ---- loops that store or fill

-- after i of n turns of a loop over a cell, y is stored from value `at` on
pub record Storing (y : ℕ → Float) (at n : ℕ) (cell₀ : List ℕ) (i : ℕ) (cell : List ℕ) : Type 0 where
  pub turns : i ≤ n
  pub long : length cell ≡ length cell₀
  pub values : words cell ≡ stored y at i (words cell₀)

module _ {y : ℕ → Float} {at n : ℕ} {cell₀ : List ℕ} where
  pub storing_none : Storing y at n cell₀ 0 cell₀
  unfolding stored iter
  storing_none = record { turns = omega arith; long = refl; values = refl }

  pub storing_then : {i : ℕ} {cell cell' : List ℕ} → Storing y at n cell₀ i cell → i < n → length cell' ≡ length cell
      → words cell' ≡ set (words cell) (at + i) (to_bits binary32 (y i)) → Storing y at n cell₀ (i + 1) cell'
  unfolding stored
  storing_then {i} r below long e = record { turns = omega arith; long = long ∙ r.long; values = iter_then _ i _ _ _ r.values e }

  -- four turns at once
  pub storing_four : {i : ℕ} {a b c d : Float} {cell cell' : List ℕ} → Storing y at n cell₀ i cell → i + 4 ≤ n → length cell' ≡ length cell
      → words cell' ≡ set_four (words cell) (at + i) (map (to_bits binary32) (a ∷ b ∷ c ∷ d ∷ [])) → a ≡ y i → b ≡ y (i + 1) → c ≡ y (i + 2) → d ≡ y (i + 3)
      → Storing y at n cell₀ (i + 4) cell'
  unfolding stored
  storing_four {i} {cell = cell} r below long e ea eb ec ed =
      let one : at + i + 1 ≡ at + (i + 1) = omega arith in
      let two : at + i + 2 ≡ at + (i + 1 + 1) = omega arith in
      let three : at + i + 3 ≡ at + (i + 1 + 1 + 1) = omega arith in
      let two' : i + 2 ≡ i + 1 + 1 = omega arith in
      let three' : i + 3 ≡ i + 1 + 1 + 1 = omega arith in
      let four : i + 1 + 1 + 1 + 1 ≡ i + 4 = omega arith in
      let bits = to_bits binary32 in
      record {
        turns = below;
        long = long ∙ r.long;
        values =
            e
            ∙ (λ j.
            set (set (set (set (words cell) (at + i) (bits (ea j))) (one j) (bits (eb j))) (two j) (bits ((ec ∙ ap y two') j))) (three j) (bits ((ed ∙ ap y three') j)))
            ∙ iter_then _ (i + 1 + 1 + 1) _ _ _ (iter_then _ (i + 1 + 1) _ _ _ (iter_then _ (i + 1) _ _ _ (iter_then _ i _ _ _ r.values refl) refl) refl) refl
            ∙ ap (λ (j : ℕ). stored y at j (words cell₀)) four;
      }

  pub storing_end : {i : ℕ} {cell : List ℕ} → Storing y at n cell₀ i cell → n ≤ i → words cell ≡ stored y at n (words cell₀)
  storing_end {i} r all = let done : i ≡ n = omega arith in r.values ∙ ap (λ (j : ℕ). stored y at j (words cell₀)) done

-- after i of n turns of a loop over an array, its first i places are given by f
pub record Filling (f : ℕ → Float) (n : ℕ) (x₀ : List Float) (i : ℕ) (x : List Float) : Type 0 where
  pub turns : i ≤ n
  pub filled : x ≡ fill f i x₀

module _ {f : ℕ → Float} {n : ℕ} {x₀ : List Float} where
  pub filling_none : Filling f n x₀ 0 x₀
  unfolding fill iter
  filling_none = record { turns = omega arith; filled = refl }

  pub filling_then : {i : ℕ} {v : Float} {x : List Float} → Filling f n x₀ i x → i < n → v ≡ f i → Filling f n x₀ (i + 1) (set x i v)
  unfolding fill
  filling_then {i} {v} {x} r below e = record { turns = omega arith; filled = iter_then _ i _ _ _ r.filled (ap (set x i) e) }

  -- four turns at once
  pub filling_four : {i : ℕ} {a b c d : Float} {x : List Float} → Filling f n x₀ i x → i + 4 ≤ n → i + 4 ≤ length x → a ≡ f i → b ≡ f (i + 1) → c ≡ f (i + 2) → d ≡ f (i + 3)
      → Filling f n x₀ (i + 4) (put_chunk i x (a ∷ b ∷ c ∷ d ∷ []))
  unfolding fill
  filling_four {i} {a} {b} {c} {d} {x} r below long ea eb ec ed =
      let one : suc i ≡ i + 1 = omega arith in
      let two : suc (suc i) ≡ i + 1 + 1 = omega arith in
      let three : suc (suc (suc i)) ≡ i + 1 + 1 + 1 = omega arith in
      let two' : i + 2 ≡ i + 1 + 1 = omega arith in
      let three' : i + 3 ≡ i + 1 + 1 + 1 = omega arith in
      let four : i + 1 + 1 + 1 + 1 ≡ i + 4 = omega arith in
      record {
        turns = below;
        filled =
            put_chunk_is i x (a ∷ b ∷ c ∷ d ∷ []) long
            ∙ ap (λ (l : List Float). take i x ++ ((a ∷ b ∷ c ∷ d ∷ []) ++ l)) (drop-drop 4 i x)
            ∙ sym (append_assoc (take i x) (a ∷ b ∷ c ∷ d ∷ []) (drop (i + 4) x))
            ∙ sym (sets-eq (a ∷ b ∷ c ∷ d ∷ []) x i long)
            ∙ (λ j. set (set (set (set x i (ea j)) (one j) (eb j)) (two j) ((ec ∙ ap f two') j)) (three j) ((ed ∙ ap f three') j))
            ∙ iter_then _ (i + 1 + 1 + 1) _ _ _ (iter_then _ (i + 1 + 1) _ _ _ (iter_then _ (i + 1) _ _ _ (iter_then _ i _ _ _ r.filled refl) refl) refl) refl
            ∙ ap (λ (j : ℕ). fill f j x₀) four;
      }

  pub filling_end : {i : ℕ} {x : List Float} → Filling f n x₀ i x → n ≤ i → x ≡ fill f n x₀
  filling_end {i} r all = let done : i ≡ n = omega arith in r.filled ∙ ap (λ (j : ℕ). fill f j x₀) done

-- ---- what a filled array holds

pub length-fill : (f : ℕ → Float) (n : ℕ) (x : List Float) → length (fill f n x) ≡ length x
unfolding fill iter
length-fill f zero x = refl
length-fill f (suc n) x = length-set (fill f n x) n (f n) ∙ length-fill f n x

-- what lies ahead is as it was
pub fill-ahead : (f : ℕ → Float) (n : ℕ) (x : List Float) (i : ℕ) → n ≤ i → sample (fill f n x) i ≡ sample x i
unfolding fill iter
fill-ahead f zero x i h = refl
fill-ahead f (suc n) x i h = get_or-set_other (fill f n x) n i (f n) nan (λ e. omega arith) ∙ fill-ahead f n x i (omega arith)

-- the places filled
pub fill_at : (f : ℕ → Float) (n : ℕ) (x : List Float) → n ≤ length x → (i : ℕ) → i < n → sample (fill f n x) i ≡ f i
unfolding fill iter
fill_at f zero x long i h = absurd (omega arith)
fill_at f (suc n) x long i h =
    ⊎_elim
    (λ e. ap (sample (set (fill f n x) n (f n))) e ∙ get_or-set_same (fill f n x) n (f n) nan (omega (arith, length-fill f n x)) ∙ ap f (sym e))
    (λ l. get_or-set_other (fill f n x) n i (f n) nan (λ e. omega arith) ∙ fill_at f n x (omega arith) i l)
    (eq-or-lt_of_le (le_of_suc-le-suc h))

-- fillings that agree where they fill are the same
pub fill_same : (f g : ℕ → Float) (n : ℕ) (x : List Float) → ((i : ℕ) → i < n → f i ≡ g i) → fill f n x ≡ fill g n x
unfolding fill iter
fill_same f g zero x h = refl
fill_same f g (suc n) x h = ap (set (fill f n x) n) (h n (omega arith)) ∙ ap (λ (y : List Float). set y n (g n)) (fill_same f g n x (λ i b. h i (omega arith)))

-- after some turns of a loop over an array, what lies ahead is as it was
pub filling_ahead : {f : ℕ → Float} {n i : ℕ} {x₀ x : List Float} → Filling f n x₀ i x → (j : ℕ) → i ≤ j → sample x j ≡ sample x₀ j
filling_ahead {f} {i = i} {x₀ = x₀} r j h = ap (λ (y : List Float). sample y j) r.filled ∙ fill-ahead f i x₀ j h

-- filling again what was filled
pub fill-over : (f g : ℕ → Float) (n : ℕ) (x : List Float) → n ≤ length x → fill g n (fill f n x) ≡ fill g n x
fill-over f g n x long =
    ext_get_or nan (fill g n (fill f n x)) (fill g n x)
    (length-fill g n (fill f n x) ∙ length-fill f n x ∙ sym (length-fill g n x))
    (λ i h. at i (ltb i n) refl)
  where
    at : (i : ℕ) (b : Bool) → ltb i n ≡ b → sample (fill g n (fill f n x)) i ≡ sample (fill g n x) i
    at i true e =
        fill_at g n (fill f n x) (omega (arith, length-fill f n x)) i (ltb-true i n e) ∙ sym (fill_at g n x long i (ltb-true i n e))
    at i false e =
        let h : n ≤ i = ltb-false i n e in fill-ahead g n (fill f n x) i h ∙ fill-ahead f n x i h ∙ sym (fill-ahead g n x i h)

-- an array of zeros
pub quiet_all : {y : List Float} (x : List Float) → y ≡ replicate (length x) zero_f → y ≡ fill quiet (length x) x
quiet_all {y} x e =
    ext_get_or nan y (fill quiet (length x) x)
    (ap length e ∙ length-replicate (length x) zero_f ∙ sym (length-fill quiet (length x) x))
    (λ i h.
    let below : i < length x = omega (arith, ap length e, length-replicate {A = Float} (length x) zero_f) in
    ap (λ (l : List Float). sample l i) e ∙ get_or-replicate (length x) i zero_f nan below ∙ sym (fill_at quiet (length x) x (omega arith) i below))

-- samples that are fetched where they are asked for
module _ (asked : Bool) (ws : List ℕ) (at n : ℕ) (x y : List Float) where
  pub fetch_asked : asked ≡ true → y ≡ fill (fetched ws at) n x → y ≡ fetched_if asked ws at n x
  unfolding fetched_if
  fetch_asked e f = f ∙ ap (λ (b : Bool). fetched_if b ws at n x) (sym e)

  pub fetch_not : asked ≡ false → y ≡ x → y ≡ fetched_if asked ws at n x
  unfolding fetched_if
  fetch_not e f = f ∙ ap (λ (b : Bool). fetched_if b ws at n x) (sym e)

  pub fetch_at : asked ≡ true → n ≤ length x → y ≡ fetched_if asked ws at n x → (i : ℕ) → i < n → float_at ws (at + i) ≡ sample y i
  unfolding fetched_if
  fetch_at e long f i h =
      sym (ap (λ (u : List Float). sample u i) (f ∙ ap (λ (b : Bool). fetched_if b ws at n x) e) ∙ fill_at (fetched ws at) n x long i h)

  pub fetch_long : y ≡ fetched_if asked ws at n x → length y ≡ length x
  unfolding fetched_if
  fetch_long f = ap length f ∙ go asked
    where
      go : (b : Bool) → length (cond b (fill (fetched ws at) n x) x) ≡ length x
      go true = length-fill (fetched ws at) n x
      go false = refl
