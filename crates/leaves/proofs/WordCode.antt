-- How the code of a converter's words meets the definitions: the number of a pattern is a difference; the size of a sample's word is read off the sum with 1,
-- and is 2^23 from 1 on; the sign picks the pattern. Assumes nothing.
use mathlib.Core.Path.{◌≡◌, refl, sym, ap, ◌∙◌, subst}
use mathlib.Core.Bool.{Bool, true, false, not, cond, ◌||◌, true≢false, false≢true}
use Prim.Native.Nat.{ℕ, zero, suc, ◌+◌, ◌-◌, ◌*◌, ◌/◌, ◌%◌, ◌^◌, ◌≤◌, ◌<◌, min}
use native.Mathlib.Nat.{zero-mul, mul-one, min-eq_left, min-eq_right, min-le_right}
use native.Mathlib.Omega.{arith}
use borrow.Author.Tests.{ltb-true, ltb-false, lt-ltb, lt-leb}
use lib.IntN.{ℤ, pos, neg_ℤ, ◌-ℤ◌, +ℤ_idr}
use lib.Dec.{T, ltb, leb, eqb, lit<, lit≤}
use lib.Ieee.{Float, nan, inf, fin, binary32, up, down, round, add, sum, lt, le, eq, is_nan, odd, of_fields, of_bits, to_bits}
use lib.Ieee.Bits.{is_false, nan_bits_is}
use lib.Ieee.Fits.{down_pos}
use lib.Ieee.Nearest.{closest_mono}
use lib.Ieee.Scale.{round_same}
use Rattle.values.specs.Floors.{zero_f, f1, Upto}
use Rattle.values.proofs.Floors.{between, plain_not_below}
use Rattle.values.proofs.Patterns.{up_to_inf}
use Rattle.values.proofs.WholePart.{upto-number}
use Rattle.leaves.specs.Converter.{as_number, as_pattern, nearest_size, clipped, word_size, to_word}
use Rattle.leaves.proofs.PlusOne.{nearest-le, sum_pattern}
use Rattle.leaves.proofs.FloatSums.{sum-upto}

-- ---- the number of a pattern

-- u, less 2^24 from 2^23 on
pub number_is : (u : ℕ) → u < 2 ^ 24 → pos u -ℤ pos (u / 2 ^ 23 * 2 ^ 24) ≡ as_number u
number_is u h = go (ltb u (2 ^ 23)) refl
  where
    go : (b : Bool) → ltb u (2 ^ 23) ≡ b → pos u -ℤ pos (u / 2 ^ 23 * 2 ^ 24) ≡ cond b (pos u) (neg_ℤ (pos (2 ^ 24 - u)))
    go true e =
        let none : u / 2 ^ 23 * 2 ^ 24 ≡ 0 = omega (arith, ltb-true u (2 ^ 23) e) in
        rw none (+ℤ_idr (pos u))
    go false e =
        let one : u / 2 ^ 23 * 2 ^ 24 ≡ 2 ^ 24 = omega (arith, ltb-false u (2 ^ 23) e) in
        let size : 2 ^ 24 - u ≡ suc (2 ^ 24 - suc u) = omega arith in
        rw (one, lt-ltb u (2 ^ 24) h, size)

-- ---- the size of a word, of a sample that is not below zero

-- below 1
below_upto : (x : Float) → T (le zero_f x) → lt x f1 ≡ true → Upto 1 x
below_upto x p q = between x f1 1 (refl, refl) p (unfold le in subst (λ (b : Bool). T (b || eq x f1)) (sym q) tt)

below_is : (s : Bool) (m : ℕ) (e : ℤ) → (s ≡ true → m ≡ 0) → lt (fin s m e) f1 ≡ true → m * up e < down e
unfolding lt
below_is true m e z q = omega (arith, down_pos e, ap (λ (k : ℕ). k * up e) (z refl))
below_is false m e z q = omega (arith, ltb-true (m * up e * 1) (1 * down e) q)

zero-plus : (d : ℕ) → 0 < d → sum binary32 true (0 * 1) false (1 * d) (d * 1) ≡ round binary32 false (0 + d) d
unfolding sum
zero-plus d D =
    let same : 1 * d - 0 * 1 ≡ 0 + d = omega arith in
    ap (λ (t : Bool). cond t (round binary32 false (1 * d - 0 * 1) (d * 1)) (round binary32 (ltb (1 * d) (0 * 1)) (0 * 1 - 1 * d) (d * 1))) (lt-ltb 0 (1 * d) (omega arith))
    ∙ (λ i. round binary32 false (same i) (mul-one d i))

plus_one : (s : Bool) (m : ℕ) (e : ℤ) → (s ≡ true → m ≡ 0) → add binary32 (fin s m e) f1 ≡ round binary32 false (m * up e + down e) (down e)
unfolding add
plus_one false m e z = unfold sum in round_same binary32 false (m * up e * 1 + 1 * down e) (down e * 1) (m * up e + down e) (down e) (omega (arith, down_pos e)) (down_pos e) (omega arith)
plus_one true m e z =
    let none : m * up e ≡ 0 = ap (λ (k : ℕ). k * up e) (z refl) ∙ zero-mul (up e) in
    subst (λ (a : ℕ). sum binary32 true (a * 1) false (1 * down e) (down e * 1) ≡ round binary32 false (a + down e) (down e)) (sym none) (zero-plus (down e) (down_pos e))

pub sum_number : (x : Float) → T (le zero_f x) → lt x f1 ≡ true → T (not (is_nan (add binary32 x f1)))
sum_number x p q = upto-number (add binary32 x f1) 2 (sum-upto 1 1 x f1 (lit≤ tt) (below_upto x p q) (lit≤ tt, λ s. absurd (false≢true s)))

pub sum_size : (x : Float) → T (le zero_f x) → lt x f1 ≡ true → to_bits binary32 (add binary32 x f1) ≡ 0x3f80_0000 + word_size x
sum_size nan p q = absurd (below_upto nan p q)
sum_size (inf s) p q = absurd (below_upto (inf s) p q)
sum_size (fin s m e) p q =
    let signed = (below_upto (fin s m e) p q).1 in
    let below = below_is s m e signed q in
    ap (to_bits binary32) (plus_one s m e signed)
    ∙ sum_pattern (m * up e) (down e) (down_pos e) below
    ∙ ap (λ (k : ℕ). 0x3f80_0000 + k) (sym (min-eq_left (nearest-le (m * up e) (down e) (down_pos e) below)))

-- from 1 on
pub full_size : (x : Float) → T (le zero_f x) → lt x f1 ≡ false → 2 ^ 23 ≡ word_size x
unfolding lt
full_size nan p q = absurd (unfold le in p)
full_size (inf true) p q = absurd (unfold le in p)
full_size (inf false) p q = refl
full_size (fin true m e) p q = absurd (omega (arith, down_pos e, ltb-false 0 (m * up e * 1 + 1 * down e) q))
full_size (fin false m e) p q =
    let reached = closest_mono (2 ^ 23) 1 (m * up e * 2 ^ 23) (down e) (lit< tt) (down_pos e) (omega (arith, ltb-false (m * up e * 1) (1 * down e) q)) in
    sym (min-eq_right reached)

pub size-le : (x : Float) → word_size x ≤ 2 ^ 23
size-le nan = lit≤ tt
size-le (inf s) = lit≤ tt
size-le (fin s m e) = min-le_right (nearest_size m e) (2 ^ 23)

-- ---- the word, by the sign

-- a number with another sign
abbrev signed : Bool → Float → Float
signed s nan = nan
signed s (inf t) = inf s
signed s (fin t m e) = fin s m e

odd_signed : (d : ℕ) (s t : Bool) (q k l : ℕ) → odd d s q k l ≡ signed s (odd d t q k l)
unfolding odd
odd_signed d s t zero k l = refl
odd_signed d s t (suc q) k l = refl

-- the sign's bit stands apart from the fields
fields_signed : (s t : Bool) (x r : ℕ) → of_fields binary32 s x r ≡ signed s (of_fields binary32 t x r)
unfolding of_fields
fields_signed s t zero r = odd_signed 24 s t r 0 149
fields_signed s t (suc x) r = go (eqb (suc x) 255) (eqb r 0)
  where
    go : (a b : Bool) → cond a (cond b (inf s) nan) (odd 24 s (2 ^ 23 + r) x 149) ≡ signed s (cond a (cond b (inf t) nan) (odd 24 t (2 ^ 23 + r) x 149))
    go true true = refl
    go true false = refl
    go false b = odd_signed 24 s t (2 ^ 23 + r) x 149

-- a pattern without its sign's bit
module _ (w : ℕ) (few : w % 0x8000_0000 ≤ 0x7f80_0000) where
  abbrev plain : Float
  plain = of_bits binary32 (w % 0x8000_0000)

  abbrev fields : Bool → Float
  fields s = of_fields binary32 s (w % 0x8000_0000 / 2 ^ 23) (w % 2 ^ 23)

  plain_is : plain ≡ fields false
  unfolding of_bits
  plain_is =
      let upper : w % 0x8000_0000 % 0x8000_0000 ≡ w % 0x8000_0000 = omega arith in
      let lower : w % 0x8000_0000 % 2 ^ 23 ≡ w % 2 ^ 23 = omega arith in
      λ i. of_fields binary32 (lt-leb 0x8000_0000 (w % 0x8000_0000) (omega arith) i) (upper i / 2 ^ 23) (lower i)

  number : is_nan plain ≡ false
  number =
      let again : w % 0x8000_0000 % 0x8000_0000 ≤ 0x7f80_0000 = omega arith in
      is_false (is_nan plain) (subst (λ (b : Bool). T (not b)) (nan_bits_is binary32 (w % 0x8000_0000)) (up_to_inf (w % 0x8000_0000) again))

  pub plain_not_below_zero : T (le zero_f plain)
  unfolding is_nan le
  plain_not_below_zero = subst (λ (y : Float). T (le zero_f y)) (sym whole) (go plain number)
    where
      whole : plain ≡ signed false plain
      whole = plain_is ∙ fields_signed false false (w % 0x8000_0000 / 2 ^ 23) (w % 2 ^ 23) ∙ ap (signed false) (sym plain_is)

      go : (y : Float) → is_nan y ≡ false → T (le zero_f (signed false y))
      go nan e = absurd (true≢false e)
      go (inf t) e = tt
      go (fin t m e') e = plain_not_below m e'

  pub signed_word : as_pattern (clipped (leb 0x8000_0000 w) (word_size plain)) ≡ to_word (of_bits binary32 w)
  unfolding of_bits to_word is_nan
  signed_word =
      let s = leb 0x8000_0000 w in
      go s plain number
      ∙ ap to_word (ap (signed s) plain_is ∙ sym (fields_signed s false (w % 0x8000_0000 / 2 ^ 23) (w % 2 ^ 23)))
    where
      held : (s : Bool) (n : ℕ) → clipped s (min n (2 ^ 23)) ≡ clipped s n
      held true n = let e : min (min n (2 ^ 23)) (2 ^ 23) ≡ min n (2 ^ 23) = omega arith in ap (λ (k : ℕ). neg_ℤ (pos k)) e
      held false n = let e : min (min n (2 ^ 23)) (2 ^ 23 - 1) ≡ min n (2 ^ 23 - 1) = omega arith in ap pos e

      go : (s : Bool) (y : Float) → is_nan y ≡ false → as_pattern (clipped s (word_size y)) ≡ to_word (signed s y)
      go s nan e = absurd (true≢false e)
      go s (inf t) e = refl
      go s (fin t m e') e = ap as_pattern (held s (nearest_size m e'))
