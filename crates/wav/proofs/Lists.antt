-- What the loops over samples have written: the first so many values, and one or two more. Assumes nothing.
use mathlib.Core.Path.{◌≡◌, refl, sym, ap, ◌∙◌}
use mathlib.Core.List.{List, [], ◌∷◌, ◌++◌, append_assoc}
use Prim.Native.Nat.{ℕ, zero, suc, ◌+◌, ◌-◌, ◌*◌, ◌≤◌, ◌<◌}
use mathlib.Core.Bool.{true, false}
use native.Mathlib.Nat.{le_of_eq, sub-zero}
use native.Mathlib.Numerals.{add-one}
use native.Mathlib.Omega.{arith}
use lib.ListN.{length, get_or, set, take, length-set}
use lib.Seq.{take-suc-set, take_all}
use Rattle.std.specs.Prelude.{Option, None, Some, MatchOption}
use Rattle.values.specs.Floors.{finite_f}
use Rattle.wav.specs.Frames.{sample_in, first_bad, listed, interleaved}
use Rattle.wav.specs.declared.format.Format.{Format}

-- ---- a block that is filled

pub listed_next : (f : ℕ → ℕ) (ws ws' : List ℕ) (i : ℕ) → i < length ws → take i ws ≡ listed f i → ws' ≡ set ws i (f i) → take (i + 1) ws' ≡ listed f (i + 1)
unfolding listed
listed_next f ws ws' i h e g =
    rw (add-one i) (ap (take (suc i)) g ∙ take-suc-set ws i (f i) h ∙ ap (λ (l : List ℕ). l ++ (f i ∷ [])) e)

pub listed_end : (f : ℕ → ℕ) (ws : List ℕ) (n : ℕ) → length ws ≡ n → take n ws ≡ listed f n → ws ≡ listed f n
listed_end f ws n h e = sym (take_all n ws (le_of_eq h)) ∙ e

-- ---- two blocks that are interleaved

interleaved-more : (l r : List ℕ) (i : ℕ) → i < length l → i < length r
    → interleaved (take (suc i) l) (take (suc i) r) ≡ interleaved (take i l) (take i r) ++ (get_or l i 0 ∷ get_or r i 0 ∷ [])
unfolding interleaved
interleaved-more [] r i h k = absurd (omega arith)
interleaved-more (x ∷ l) [] i h k = absurd (omega arith)
interleaved-more (x ∷ l) (y ∷ r) zero h k = refl
interleaved-more (x ∷ l) (y ∷ r) (suc i) h k = ap (λ (q : List ℕ). x ∷ y ∷ q) (interleaved-more l r i (omega arith) (omega arith))

module _ (l r ws ws' ws'' : List ℕ) (i : ℕ) where
  pub pair_next : i < length l → i < length r → 2 * i + 1 < length ws → take (2 * i) ws ≡ interleaved (take i l) (take i r)
      → ws' ≡ set ws (2 * i) (get_or l i 0) → ws'' ≡ set ws' (2 * i + 1) (get_or r i 0) → take (2 * (i + 1)) ws'' ≡ interleaved (take (i + 1) l) (take (i + 1) r)
  pair_next h k room e one two =
      let a = get_or l i 0 in
      let b = get_or r i 0 in
      let odd : 2 * i + 1 ≡ suc (2 * i) = omega arith in
      let even : 2 * (i + 1) ≡ suc (suc (2 * i)) = omega arith in
      let long : length ws' ≡ length ws = ap length one ∙ length-set ws (2 * i) a in
      let second : take (suc (suc (2 * i))) ws'' ≡ take (suc (2 * i)) ws' ++ (b ∷ []) =
      ap (take (suc (suc (2 * i)))) (two ∙ ap (λ (k : ℕ). set ws' k b) odd) ∙ take-suc-set ws' (suc (2 * i)) b (omega arith) in
      let first : take (suc (2 * i)) ws' ≡ take (2 * i) ws ++ (a ∷ []) = ap (take (suc (2 * i))) one ∙ take-suc-set ws (2 * i) a (omega arith) in
      ap (λ (k : ℕ). take k ws'') even ∙ second ∙ ap (λ (q : List ℕ). q ++ (b ∷ [])) first ∙ append_assoc (take (2 * i) ws) (a ∷ []) (b ∷ [])
      ∙ ap (λ (q : List ℕ). q ++ (a ∷ b ∷ [])) e ∙ sym (interleaved-more l r i h k)
      ∙ ap (λ (k : ℕ). interleaved (take k l) (take k r)) (sym (add-one i))

pub interleaved_end : (l r ws : List ℕ) (n : ℕ) → length l ≡ n → length r ≡ n → length ws ≡ 2 * n → take (2 * n) ws ≡ interleaved (take n l) (take n r) → ws ≡ interleaved l r
interleaved_end l r ws n hl hr hw e =
    sym (take_all (2 * n) ws (le_of_eq hw)) ∙ e ∙ ap (λ (q : List ℕ). interleaved q (take n r)) (take_all n l (le_of_eq hl)) ∙ ap (interleaved l) (take_all n r (le_of_eq hr))

-- ---- the first sample that is infinite or NaN, of n

module _ (f : Format) (s : List ℕ) (i n : ℕ) (h : i < n) where
  left_over : n - i ≡ suc (n - (i + 1))
  left_over = omega arith

  bad_later : finite_f (sample_in f s i) ≡ true → first_bad f s (i + 1) (n - (i + 1)) ≡ first_bad f s i (n - i)
  unfolding first_bad
  bad_later fine = rw (left_over, fine, add-one i) refl

  bad_here : finite_f (sample_in f s i) ≡ false → Some i ≡ first_bad f s i (n - i)
  unfolding first_bad
  bad_here bad = rw (left_over, bad) refl

bad_none : (f : Format) (s : List ℕ) (i n : ℕ) → i ≡ n → None ≡ first_bad f s i (n - i)
unfolding first_bad
bad_none f s i n e = let none : n - i ≡ 0 = omega arith in rw none refl

-- those before i are fine
bad_past : (f : Format) (s : List ℕ) (i n : ℕ) → i ≤ n → ((k : ℕ) → k < i → finite_f (sample_in f s k) ≡ true) → first_bad f s i (n - i) ≡ first_bad f s 0 n
bad_past f s zero n h fine = ap (first_bad f s 0) (sub-zero n)
bad_past f s (suc i) n h fine =
    ap (λ (k : ℕ). first_bad f s k (n - k)) (sym (add-one i)) ∙ bad_later f s i n (omega arith) (fine i (omega arith))
    ∙ bad_past f s i n (omega arith) (λ k b. fine k (omega arith))

pub bad_found : (f : Format) (s : List ℕ) (n : ℕ) (r : Option ℕ)
    → MatchOption r ((k : ℕ) → 0 ≤ k → k < n → finite_f (sample_in f s k) ≡ true)
    (λ i. (0 ≤ i) × (i < n) × (finite_f (sample_in f s i) ≡ false) × ((k : ℕ) → 0 ≤ k → k < i → finite_f (sample_in f s k) ≡ true))
    → r ≡ first_bad f s 0 n
bad_found f s n None fine = bad_none f s n n refl ∙ bad_past f s n n (omega arith) (λ k b. fine k (omega arith) b)
bad_found f s n (Some i) h = bad_here f s i n h.1 h.2 ∙ bad_past f s i n (omega (arith, h.1)) (λ k b. h.3 k (omega arith) b)
