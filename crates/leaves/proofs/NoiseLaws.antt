-- The rig's noise: its state and its samples.
--     xorshift_lt, after_lt    a step keeps 32 bits, and so do any number
--     never_zero               for every start and every number of steps the state is not zero
--     sample_exact             a sample is its number over 2^23 exactly,
--     sample_range             at least -1 and below 1
--     proper                   all of that in one
--     sample_word              and a sample is that of a converter's word, the upper 24 bits with the highest one turned
-- Assumes nothing.
use mathlib.Core.Path.{◌≡◌, refl, sym, ap, subst, ◌∙◌}
use mathlib.Core.Bool.{Bool, true, false, cond, ◌&&◌, ◌||◌, true≢false, false≢true}
use Prim.Native.Nat.{ℕ, zero, suc, ◌+◌, ◌-◌, ◌*◌, ◌/◌, ◌%◌, ◌^◌, ◌≤◌, ◌<◌}
use native.Mathlib.Nat.{pos_of_ne-zero, mul-le-mul_right, mul-lt-mul_of_pos_right}
use native.Mathlib.Omega.{arith}
use borrow.Author.Tests.{ltb-true, ltb-false, lt-ltb, le-ltb, eq-eqb, eqb-false}
use lib.Bits.{bit_xor}
use lib.IntN.{pos, negsuc, neg_ℤ, ◌-ℤ◌}
use lib.Dec.{T, ltb, eqb, lit<, lt→ltb}
use lib.Ieee.{Float, nan, inf, fin, up, down, level, le, lt, eq}
use lib.Ieee.Exact.{HasValue}
use lib.Ieee.Fits.{down_pos}
use Rattle.std.specs.Float.{minus_one}
use Rattle.std.specs.Int.Bits.{xor_add_and, xor_lt}
use Rattle.std.proofs.lemmas.Nat.{and_le_l, and_le_r}
use Rattle.values.specs.Floors.{f1}
use Rattle.leaves.specs.Sine.{over23}
use Rattle.leaves.specs.Converter.{as_number, of_word}
use Rattle.leaves.specs.Noise.{default_start, start_of, left, right, xorshift, state_after, upper, sample_of, apart, Proper}
use Rattle.leaves.proofs.Quotient.{exact_signed}

-- ---- the state

-- numbers that differ in no bit are one
xor_none : (a b : ℕ) → bit_xor a b ≡ 0 → a ≡ b
xor_none a b e = omega (arith, e, xor_add_and a b, and_le_l a b, and_le_r a b)

left_lt : (k s : ℕ) → s < 2 ^ 32 → left k s < 2 ^ 32
left_lt k s h = xor_lt 32 s (s * 2 ^ k % 2 ^ 32) h (omega arith)

right_lt : (k s : ℕ) → s < 2 ^ 32 → right (suc k) s < 2 ^ 32
right_lt k s h = xor_lt 32 s (s / 2 ^ suc k) h (omega arith)

pub xorshift_lt : (s : ℕ) → s < 2 ^ 32 → xorshift s < 2 ^ 32
unfolding xorshift
xorshift_lt s h = left_lt 5 (right 17 (left 13 s)) (right_lt 16 (left 13 s) (left_lt 13 s h))

-- 31 and 8191 times a number below 2^32 are no multiple of 2^32, but of zero; and a number is not its own part above its lower 17 bits
xorshift_none : (s : ℕ) → s < 2 ^ 32 → xorshift s ≡ 0 → s ≡ 0
unfolding xorshift
xorshift_none s h e =
    let a = left 13 s in
    let b = right 17 a in
    let last : b ≡ 0 = omega (arith, right_lt 16 a (left_lt 13 s h), xor_none b (b * 2 ^ 5 % 2 ^ 32) e) in
    let middle : a ≡ 0 = omega (arith, xor_none a (a / 2 ^ 17) last) in
    omega (arith, h, xor_none s (s * 2 ^ 13 % 2 ^ 32) middle)

pub xorshift_pos : (s : ℕ) → s < 2 ^ 32 → 0 < s → 0 < xorshift s
xorshift_pos s h p = pos_of_ne-zero (λ e. omega (arith, p, xorshift_none s h e))

pub start_proper : (given : ℕ) → given < 2 ^ 32 → (0 < start_of given) × (start_of given < 2 ^ 32)
start_proper given h = go (eqb given 0) (eqb-false given 0)
  where
    go : (b : Bool) → (b ≡ false → given ≡ 0 → ⊥) → (0 < cond b default_start given) × (cond b default_start given < 2 ^ 32)
    go true some = (lit< tt, lit< tt)
    go false some = (omega (arith, some refl), h)

pub after_lt : (n s : ℕ) → s < 2 ^ 32 → state_after n s < 2 ^ 32
unfolding state_after
after_lt zero s h = h
after_lt (suc n) s h = after_lt n (xorshift s) (xorshift_lt s h)

after_pos : (n s : ℕ) → s < 2 ^ 32 → 0 < s → 0 < state_after n s
unfolding state_after
after_pos zero s h p = p
after_pos (suc n) s h p = after_pos n (xorshift s) (xorshift_lt s h) (xorshift_pos s h p)

pub never_zero : (given n : ℕ) → given < 2 ^ 32 → 0 < state_after n (start_of given)
never_zero given n h =
    let start = start_proper given h in after_pos n (start_of given) start.1 start.0

-- ---- a sample's value

-- less 2^23
less : (k : ℕ) → pos k -ℤ pos (2 ^ 23) ≡ cond (ltb k (2 ^ 23)) (neg_ℤ (pos (2 ^ 23 - k))) (pos (k - 2 ^ 23))
less k = go (ltb k (2 ^ 23)) refl
  where
    go : (b : Bool) → ltb k (2 ^ 23) ≡ b → cond b (negsuc (2 ^ 23 - suc k)) (pos (k - 2 ^ 23)) ≡ cond b (neg_ℤ (pos (2 ^ 23 - k))) (pos (k - 2 ^ 23))
    go true e =
        let size : 2 ^ 23 - k ≡ suc (2 ^ 23 - suc k) = omega (arith, ltb-true k (2 ^ 23) e) in
        rw size
    go false e = refl

pub sample_exact : (s : ℕ) → s < 2 ^ 32 → HasValue (sample_of s) (ltb (upper s) (2 ^ 23)) (apart (upper s)) (2 ^ 23)
unfolding sample_of
sample_exact s h = rw less (go (ltb (upper s) (2 ^ 23)) refl)
  where
    k : ℕ
    k = upper s

    go : (b : Bool) → ltb k (2 ^ 23) ≡ b → HasValue (over23 (cond b (neg_ℤ (pos (2 ^ 23 - k))) (pos (k - 2 ^ 23)))) b (cond b (2 ^ 23 - k) (k - 2 ^ 23)) (2 ^ 23)
    go true e = rw (lt-ltb 0 (2 ^ 23 - k) (omega (arith, ltb-true k (2 ^ 23) e))) at (exact_signed true (2 ^ 23 - k) (omega arith))
    go false e = exact_signed false (k - 2 ^ 23) (omega (arith, h))

-- ---- its range

-- at most: less or the same
at_most : (a b : ℕ) (t : Bool) → a ≤ b → T (ltb a b || (eqb b a && (true || t)))
at_most a b t h = go (ltb a b) refl
  where
    go : (c : Bool) → ltb a b ≡ c → T (c || (eqb b a && (true || t)))
    go true e = tt
    go false e = rw (eq-eqb b a (omega (arith, h, ltb-false a b e))) tt

-- n / 2^23 of either sign, where n is at most 2^23 on the negative side and below it on the other
range_of : (x : Float) (s : Bool) (n : ℕ) → HasValue x s n (2 ^ 23) → (s ≡ true → n ≤ 2 ^ 23) → (s ≡ false → n < 2 ^ 23) → T (le minus_one x) × T (lt x f1)
unfolding le lt eq
range_of nan s n v low high = absurd v
range_of (inf t) s n v low high = absurd v
range_of (fin true m e) s n v low high =
    let d = down_pos e in
    let held : n * down e ≤ 2 ^ 23 * down e = mul-le-mul_right (down e) (low (sym v.0)) in (
      at_most (m * up e * 1) (1 * 1 * down e) (eqb (1 * 1 * down e) 0) (omega (arith, v.1, held)),
      lt→ltb 0 (m * up e * 1 + 1 * 1 * down e) (omega (arith, d)),
    )
range_of (fin false m e) s n v low high =
    let d = down_pos e in
    let held : n * down e < 2 ^ 23 * down e = mul-lt-mul_of_pos_right (high (sym v.0)) d in (
      subst (λ (b : Bool). T (b || level true (1 * 1 * down e) false (m * up e * 1))) (sym (lt-ltb 0 (1 * 1 * down e + m * up e * 1) (omega (arith, d)))) tt,
      lt→ltb (m * up e * 1) (1 * 1 * down e) (omega (arith, v.1, held)),
    )

pub sample_range : (s : ℕ) → s < 2 ^ 32 → T (le minus_one (sample_of s)) × T (lt (sample_of s) f1)
sample_range s h = range_of (sample_of s) (ltb (upper s) (2 ^ 23)) (apart (upper s)) (sample_exact s h) (low (ltb (upper s) (2 ^ 23)) refl) (high (ltb (upper s) (2 ^ 23)) refl)
  where
    k : ℕ
    k = upper s

    low : (b : Bool) → ltb k (2 ^ 23) ≡ b → b ≡ true → cond b (2 ^ 23 - k) (k - 2 ^ 23) ≤ 2 ^ 23
    low true e t = omega arith
    low false e t = absurd (false≢true t)

    high : (b : Bool) → ltb k (2 ^ 23) ≡ b → b ≡ false → cond b (2 ^ 23 - k) (k - 2 ^ 23) < 2 ^ 23
    high true e t = absurd (true≢false t)
    high false e t = omega (arith, h)

-- ---- in one

pub proper : (given n : ℕ) → given < 2 ^ 32 → Proper (state_after n (start_of given))
proper given n h =
    let s = state_after n (start_of given) in
    let small = after_lt n (start_of given) (start_proper given h).1 in
    let range = sample_range s small in
    record { not_zero = never_zero given n h; in_32_bits = small; at_least = range.0; below = range.1; exact = sample_exact s small }

-- ---- a sample and a converter's word

abbrev pub word_of : ℕ → ℕ
word_of s = (upper s + 2 ^ 23) % 2 ^ 24

number_of : (k : ℕ) → k < 2 ^ 24 → pos k -ℤ pos (2 ^ 23) ≡ as_number ((k + 2 ^ 23) % 2 ^ 24)
number_of k h = less k ∙ go (ltb k (2 ^ 23)) refl
  where
    go : (b : Bool) → ltb k (2 ^ 23) ≡ b → cond b (neg_ℤ (pos (2 ^ 23 - k))) (pos (k - 2 ^ 23)) ≡ as_number ((k + 2 ^ 23) % 2 ^ 24)
    go true e =
        let word : (k + 2 ^ 23) % 2 ^ 24 ≡ k + 2 ^ 23 = omega (arith, ltb-true k (2 ^ 23) e) in
        let size : 2 ^ 24 - (k + 2 ^ 23) ≡ 2 ^ 23 - k = omega arith in
        rw (word, le-ltb (k + 2 ^ 23) (2 ^ 23) (omega arith), size)
    go false e =
        let word : (k + 2 ^ 23) % 2 ^ 24 ≡ k - 2 ^ 23 = omega (arith, ltb-false k (2 ^ 23) e) in
        rw (word, lt-ltb (k - 2 ^ 23) (2 ^ 23) (omega arith))

pub sample_word : (s : ℕ) → s < 2 ^ 32 → sample_of s ≡ of_word (word_of s)
unfolding sample_of of_word
sample_word s h = ap over23 (number_of (upper s) (omega arith))
