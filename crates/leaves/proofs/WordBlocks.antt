-- What the loops over a block have written: the first so many words, and one more.
--     taken_next, taken_all    going in
--     given_next, given_all    going out
-- Assumes nothing.
use Prim.Native.Nat.{ℕ, zero, suc, ◌+◌, ◌*◌, ◌≤◌, ◌<◌}
use mathlib.Core.Path.{◌≡◌, refl, sym, ap, ◌∙◌}
use mathlib.Core.List.{List, [], ◌∷◌, ◌++◌, map}
use native.Mathlib.Nat.{le_of_eq}
use native.Mathlib.Numerals.{add-one}
use native.Mathlib.Omega.{arith}
use lib.Ieee.{binary32, of_bits}
use lib.ListN.{length, get_or, set, take, drop, length-append, length-map, get_or-map}
use lib.Seq.{sets, sets-eq, take_all, take-suc, take-suc-set, take_at, length-take-le}
use Rattle.values.specs.Bytes.{u24_bytes}
use Rattle.leaves.specs.Converter.{to_word, words_of}

-- ---- going in

module _ (f : ℕ → ℕ) (t : List ℕ) where
  pub taken_next : (ws ws' : List ℕ) (i : ℕ) → i < length ws → i < length t → take i ws ≡ take i (map f t) → ws' ≡ set ws i (f (get_or t i 0))
      → take (i + 1) ws' ≡ take (i + 1) (map f t)
  taken_next ws ws' i h k e g =
      let v = f (get_or t i 0) in
      let long : i < length (map f t) = omega (arith, length-map t f) in
      rw (add-one i)
      (ap (take (suc i)) g ∙ take-suc-set ws i v h ∙ ap (λ (l : List ℕ). l ++ (v ∷ [])) e
      ∙ sym (take-suc (map f t) i (f 0) long ∙ ap (λ (w : ℕ). take i (map f t) ++ (w ∷ [])) (get_or-map f t i 0)))

  pub taken_all : (ws : List ℕ) (n : ℕ) → length ws ≡ n → length t ≡ n → take n ws ≡ take n (map f t) → ws ≡ map f t
  taken_all ws n h k e = sym (take_all n ws (le_of_eq h)) ∙ e ∙ take_all n (map f t) (le_of_eq (length-map t f ∙ k))

-- ---- going out

-- the bytes of one word more
words_more : (ws : List ℕ) (i : ℕ) → i < length ws → words_of (take (suc i) ws) ≡ words_of (take i ws) ++ u24_bytes (to_word (of_bits binary32 (get_or ws i 0)))
unfolding words_of
words_more [] i h = absurd (omega arith)
words_more (w ∷ ws) zero h = refl
words_more (w ∷ ws) (suc i) h = ap (λ (l : List ℕ). u24_bytes (to_word (of_bits binary32 w)) ++ l) (words_more ws i (omega arith))

module _ (ws : List ℕ) where
  pub given_next : (out out' : List ℕ) (i : ℕ) → i < length ws → 3 * i + 3 ≤ length out → take (3 * i) out ≡ words_of (take i ws)
      → out' ≡ sets out (3 * i) (u24_bytes (to_word (of_bits binary32 (get_or ws i 0)))) → take (3 * (i + 1)) out' ≡ words_of (take (i + 1) ws)
  given_next out out' i h room e g =
      let bytes = u24_bytes (to_word (of_bits binary32 (get_or ws i 0))) in
      let front = take (3 * i) out ++ bytes in
      let first : length (take (3 * i) out) ≡ 3 * i = length-take-le (3 * i) out (omega arith) in
      let long : length front ≡ 3 * (i + 1) = omega (arith, length-append (take (3 * i) out) bytes) in
      ap (take (3 * (i + 1))) (g ∙ sets-eq bytes out (3 * i) room) ∙ take_at front (drop (3 * i + 3) out) (3 * (i + 1)) long
      ∙ ap (λ (l : List ℕ). l ++ bytes) e ∙ sym (words_more ws i h) ∙ ap (λ (k : ℕ). words_of (take k ws)) (sym (add-one i))

  pub given_all : (out : List ℕ) (n : ℕ) → length ws ≡ n → length out ≡ 3 * n → take (3 * n) out ≡ words_of (take n ws) → out ≡ words_of ws
  given_all out n h long e = sym (take_all (3 * n) out (le_of_eq long)) ∙ e ∙ ap words_of (take_all n ws (le_of_eq h))
