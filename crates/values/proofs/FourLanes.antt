-- Lanes of floats and patterns: what a lane holds once those of NaNs were put apart. Assumes nothing.
use mathlib.Core.Path.{◌≡◌, refl, sym, ap, ◌∙◌}
use mathlib.Core.Bool.{Bool, true, false, cond, not}
use mathlib.Core.List.{List, [], ◌∷◌}
use Prim.Native.Nat.{ℕ, zero, suc, ◌+◌, ◌-◌, ◌*◌, ◌/◌, ◌%◌, ◌^◌, ◌≤◌, ◌<◌}
use native.Mathlib.Omega.{arith}
use lib.Dec.{T, ltb}
use lib.ListN.{length, get_or, set, drop, length-drop}
use lib.Seq.{paste, get_or-take, get_or-drop, length-take-le}
use lib.Lanes.{top, Each1, number_l, digits_l, chunk, put_chunk}
use lib.Bits.{bit_and}
use lib.Ieee.{Float, binary32, is_nan, nan_bits, of_bits, to_bits, ne}
use lib.Ieee.Compare.{differs_from_itself}
use mathlib.Core.Path.{subst}
use borrow.Author.Tests.{ltb-true, ltb-false}
use Rattle.std.proofs.lemmas.Nat.{and_mask}
use Rattle.std.proofs.lemmas.List.Edits.{sets-eq}
use Rattle.std.proofs.lemmas.Simd.{length-chunk, put_chunk_is}
use Rattle.values.specs.Words.{word, words, length-words}
use Rattle.values.specs.Parts.{part, words-part, lent}
use Rattle.values.proofs.Patterns.{above_inf, up_to_inf, same_not_nan}

-- a vector of four, by its lanes
pub lanes_of : {A : Type 0} (l : List A) (d : A) → length l ≡ 4 → l ≡ get_or l 0 d ∷ get_or l 1 d ∷ get_or l 2 d ∷ get_or l 3 d ∷ []
lanes_of [] d e = absurd (omega arith)
lanes_of (x ∷ []) d e = absurd (omega arith)
lanes_of (x ∷ y ∷ []) d e = absurd (omega arith)
lanes_of (x ∷ y ∷ z ∷ []) d e = absurd (omega arith)
lanes_of (x ∷ y ∷ z ∷ u ∷ []) d e = refl
lanes_of (x ∷ y ∷ z ∷ u ∷ v ∷ l) d e = absurd (omega arith)

-- what is the same lane by lane, and what holds of each, for the lanes of l
module _ {A : Type 0} (l : List A) (d : A) where
  pub same_lanes : {B : Type 0} {f g : A → B} → ((x : A) → f x ≡ g x)
      → f (get_or l 0 d) ∷ f (get_or l 1 d) ∷ f (get_or l 2 d) ∷ f (get_or l 3 d) ∷ [] ≡ g (get_or l 0 d) ∷ g (get_or l 1 d) ∷ g (get_or l 2 d) ∷ g (get_or l 3 d) ∷ []
  same_lanes h i = h (get_or l 0 d) i ∷ h (get_or l 1 d) i ∷ h (get_or l 2 d) i ∷ h (get_or l 3 d) i ∷ []

  pub each_lane : {P : A → Type 0} → ((x : A) → P x) → P (get_or l 0 d) × (P (get_or l 1 d) × (P (get_or l 2 d) × (P (get_or l 3 d) × Unit {0})))
  each_lane h = (h (get_or l 0 d), (h (get_or l 1 d), (h (get_or l 2 d), (h (get_or l 3 d), tt))))

-- a lane of a comparison
abbrev pub chosen : Bool → Bool
chosen b = top 31 (cond b (2 ^ 32 - 1) 0)

-- ---- a pattern's lane

abbrev pub of_nan : ℕ → Bool
of_nan w = ltb 0x7f80_0000 (bit_and w 0x7fff_ffff)

no_sign : (w : ℕ) → bit_and w 0x7fff_ffff ≡ w % 0x8000_0000
no_sign w = and_mask w 31

pub number_lane : (w : ℕ) → T (not (nan_bits binary32 (cond (chosen (of_nan w)) 0 w)))
unfolding nan_bits
number_lane w = go (of_nan w) refl
  where
    go : (b : Bool) → of_nan w ≡ b → T (not (nan_bits binary32 (cond (chosen b) 0 w)))
    go true e = tt
    go false e = up_to_inf w (omega (arith, no_sign w, ltb-false 0x7f80_0000 (bit_and w 0x7fff_ffff) e))

pub float_lane : (w : ℕ) → cond (chosen (of_nan w)) (of_bits binary32 0x7fc0_0000) (of_bits binary32 (cond (chosen (of_nan w)) 0 w)) ≡ of_bits binary32 w
unfolding of_bits
float_lane w = go (of_nan w) refl
  where
    go : (b : Bool) → of_nan w ≡ b → cond (chosen b) (of_bits binary32 0x7fc0_0000) (of_bits binary32 (cond (chosen b) 0 w)) ≡ of_bits binary32 w
    go true e = sym (above_inf w (omega (arith, no_sign w, ltb-true 0x7f80_0000 (bit_and w 0x7fff_ffff) e)))
    go false e = refl

-- ---- a float's lane

pub some_lane : (x : Float) → T (not (is_nan (cond (chosen (ne x x)) (of_bits binary32 0) x)))
unfolding of_bits is_nan
some_lane x = go (ne x x) refl
  where
    go : (b : Bool) → ne x x ≡ b → T (not (is_nan (cond (chosen b) (of_bits binary32 0) x)))
    go true e = tt
    go false e = same_not_nan x e

pub pattern_lane : (x : Float) → cond (chosen (ne x x)) 0x7fc0_0000 (to_bits binary32 (cond (chosen (ne x x)) (of_bits binary32 0) x)) ≡ to_bits binary32 x
unfolding to_bits
pattern_lane x = go (ne x x) refl
  where
    go : (b : Bool) → ne x x ≡ b → cond (chosen b) 0x7fc0_0000 (to_bits binary32 (cond (chosen b) (of_bits binary32 0) x)) ≡ to_bits binary32 x
    go true e = sym (ap (to_bits binary32) (differs_from_itself x (subst T (sym e) tt)))
    go false e = refl

-- ---- vectors of bytes and of words

-- four bytes as the lowest of more words, and the words above them
module _ (a b c d n : ℕ) (ha : a < 256) (hb : b < 256) (hc : c < 256) (hd : d < 256) where
  low_word : (a + 256 * (b + 256 * (c + 256 * (d + 256 * n)))) % 4294967296 ≡ word a b c d
  low_word = omega arith

  high_words : (a + 256 * (b + 256 * (c + 256 * (d + 256 * n)))) / 4294967296 ≡ n
  high_words = omega arith

-- bytes as a vector of words
joined_words : (m : ℕ) (bs : List ℕ) → length bs ≡ 4 * m → Each1 (λ b. b < 256) bs → digits_l 4294967296 m (number_l 256 bs) ≡ words bs
unfolding words
joined_words zero [] e h = refl
joined_words zero (a ∷ bs) e h = absurd (omega arith)
joined_words (suc m) [] e h = absurd (omega arith)
joined_words (suc m) (a ∷ []) e h = absurd (omega arith)
joined_words (suc m) (a ∷ b ∷ []) e h = absurd (omega arith)
joined_words (suc m) (a ∷ b ∷ c ∷ []) e h = absurd (omega arith)
joined_words (suc m) (a ∷ b ∷ c ∷ d ∷ bs) e h = λ i.
    low_word a b c d (number_l 256 bs) h.0 h.1.0 h.1.1.0 h.1.1.1.0 i
    ∷ (ap (digits_l 4294967296 m) (high_words a b c d (number_l 256 bs) h.0 h.1.0 h.1.1.0 h.1.1.1.0) ∙ joined_words m bs (omega arith) h.1.1.1.1) i

-- the lowest word's bytes, and those of the words above
module _ (p n : ℕ) (h : p < 4294967296) where
  low_bytes : word ((p + 4294967296 * n) % 256) ((p + 4294967296 * n) / 256 % 256) ((p + 4294967296 * n) / 256 / 256 % 256) ((p + 4294967296 * n) / 256 / 256 / 256 % 256) ≡ p
  low_bytes = omega arith

  high_bytes : (p + 4294967296 * n) / 256 / 256 / 256 / 256 ≡ n
  high_bytes = omega arith

-- a vector of words as bytes
split_words : (p q r s : ℕ) → p < 4294967296 → q < 4294967296 → r < 4294967296 → s < 4294967296
    → words (digits_l 256 16 (number_l 4294967296 (p ∷ q ∷ r ∷ s ∷ []))) ≡ p ∷ q ∷ r ∷ s ∷ []
unfolding words
split_words p q r s hp hq hr hs =
    next p (number_l 4294967296 (q ∷ r ∷ s ∷ [])) 12 hp
    ∙ ap (◌∷◌ p) (next q (number_l 4294967296 (r ∷ s ∷ [])) 8 hq ∙ ap (◌∷◌ q) (next r (number_l 4294967296 (s ∷ [])) 4 hr ∙ ap (◌∷◌ r) (next s 0 0 hs)))
  where
    next : (p n m : ℕ) → p < 4294967296 → words (digits_l 256 (suc (suc (suc (suc m)))) (p + 4294967296 * n)) ≡ p ∷ words (digits_l 256 m n)
    next p n m h = λ i. low_bytes p n h i ∷ words (digits_l 256 m (high_bytes p n h i))

-- four words of a list, and four words stored
pub four_words : (ws : List ℕ) (k : ℕ) → k + 4 ≤ length ws → part ws k 4 ≡ get_or ws k 0 ∷ get_or ws (k + 1) 0 ∷ get_or ws (k + 2) 0 ∷ get_or ws (k + 3) 0 ∷ []
four_words ws k h =
    let four : length (part ws k 4) ≡ 4 = length-take-le 4 (drop k ws) (omega (arith, length-drop k ws)) in
    let none : k + 0 ≡ k = omega arith in
    lanes_of (part ws k 4) 0 four
    ∙ (λ i.
    (at 0 (omega arith) ∙ ap (λ (j : ℕ). get_or ws j 0) none) i ∷ at 1 (omega arith) i ∷ at 2 (omega arith) i ∷ at 3 (omega arith) i ∷ [])
  where
    at : (j : ℕ) → j < 4 → get_or (part ws k 4) j 0 ≡ get_or ws (k + j) 0
    at j b = get_or-take 4 (drop k ws) j 0 b ∙ get_or-drop k ws j 0

paste_four : (ws : List ℕ) (k p q r s : ℕ) → k + 4 ≤ length ws → paste ws k (p ∷ q ∷ r ∷ s ∷ []) 4 ≡ set (set (set (set ws k p) (k + 1) q) (k + 2) r) (k + 3) s
paste_four ws k p q r s h =
    let one : suc k ≡ k + 1 = omega arith in
    let two : suc (suc k) ≡ k + 2 = omega arith in
    let three : suc (suc (suc k)) ≡ k + 3 = omega arith in
    sym (sets-eq (p ∷ q ∷ r ∷ s ∷ []) ws k h) ∙ (λ i. set (set (set (set ws k p) (one i) q) (two i) r) (three i) s)

-- a vector of bytes read as words, and a vector of words stored as bytes
pub read_four : (m : List ℕ) (k : ℕ) → 4 * k + 16 ≤ length m → Each1 (λ b. b < 256) (chunk (4 * k) 16 m)
    → digits_l 4294967296 4 (number_l 256 (chunk (4 * k) 16 m)) ≡ get_or (words m) k 0 ∷ get_or (words m) (k + 1) 0 ∷ get_or (words m) (k + 2) 0 ∷ get_or (words m) (k + 3) 0 ∷ []
read_four m k h bytes =
    joined_words 4 (chunk (4 * k) 16 m) (length-chunk (4 * k) 16 m h) bytes
    ∙ words-part m k 4 16 refl
    ∙ four_words (words m) k (omega (arith, length-words m))

pub write_four : (m : List ℕ) (k p q r s : ℕ) → 4 * k + 16 ≤ length m → p < 4294967296 → q < 4294967296 → r < 4294967296 → s < 4294967296
    → words (put_chunk (4 * k) m (digits_l 256 16 (number_l 4294967296 (p ∷ q ∷ r ∷ s ∷ [])))) ≡ set (set (set (set (words m) k p) (k + 1) q) (k + 2) r) (k + 3) s
write_four m k p q r s h hp hq hr hs =
    let bytes = digits_l 256 16 (number_l 4294967296 (p ∷ q ∷ r ∷ s ∷ [])) in
    ap words (put_chunk_is (4 * k) m bytes h)
    ∙ lent m bytes k 4 refl (omega arith)
    ∙ ap (λ (l : List ℕ). paste (words m) k l 4) (split_words p q r s hp hq hr hs)
    ∙ paste_four (words m) k p q r s (omega (arith, length-words m))
