-- A converter's words and the samples that they stand for: nothing is lost going in, every word comes back as it was, and what goes out is a word.
--     word_exact      a word's sample is its number over 2^23 exactly
--     word_fits       and a float of 32 bits
--     zero_plus       which +0 added to it leaves as it is
--     word_lt         the word of any sample has 24 bits
--     word_back       the word of a word's sample is that word
-- Assumes nothing.
use mathlib.Core.Path.{◌≡◌, refl, sym, ap, ◌∙◌}
use mathlib.Core.Bool.{Bool, true, false, not, cond, false≢true}
use Prim.Native.Nat.{ℕ, zero, suc, ◌+◌, ◌-◌, ◌*◌, ◌%◌, ◌^◌, ◌<◌, min}
use native.Mathlib.Nat.{mul-pos}
use native.Mathlib.Omega.{arith}
use borrow.Author.Tests.{ltb-true, ltb-false, lt-ltb}
use lib.IntN.{ℤ, pos, negsuc, neg_ℤ}
use lib.Dec.{T, ltb, lit<}
use lib.Ieee.{Float, nan, inf, fin, binary32, fits, up, down, round, sum, add}
use lib.Ieee.Exact.{HasValue}
use lib.Ieee.Fits.{down_pos, round-fits}
use lib.Ieee.Scale.{round_same}
use lib.Ieee.Nearest.{closest}
use Rattle.values.specs.Floors.{zero_f}
use Rattle.leaves.specs.Sine.{over23}
use Rattle.leaves.specs.Converter.{as_number, as_pattern, of_word, nearest_size, clipped, nearest_number, to_word}
use Rattle.leaves.proofs.Closest.{closest_whole}
use Rattle.leaves.proofs.Quotient.{exact_signed}

-- ---- going in

pub word_exact : (u : ℕ) → u < 2 ^ 24 → HasValue (of_word u) (not (ltb u (2 ^ 23))) (cond (ltb u (2 ^ 23)) u (2 ^ 24 - u)) (2 ^ 23)
unfolding of_word
word_exact u h = go (ltb u (2 ^ 23)) refl
  where
    go : (b : Bool) → ltb u (2 ^ 23) ≡ b → HasValue (over23 (cond b (pos u) (neg_ℤ (pos (2 ^ 24 - u))))) (not b) (cond b u (2 ^ 24 - u)) (2 ^ 23)
    go true e = exact_signed false u h
    go false e =
        let n = 2 ^ 24 - u in
        rw (lt-ltb 0 n (omega arith)) at (exact_signed true n (omega (arith, ltb-false u (2 ^ 23) e)))

over_fits : (z : ℤ) → T (fits binary32 (over23 z))
unfolding over23
over_fits (pos n) = round-fits binary32 false n (2 ^ 23)
over_fits (negsuc n) = round-fits binary32 true (suc n) (2 ^ 23)

pub word_fits : (u : ℕ) → T (fits binary32 (of_word u))
unfolding of_word
word_fits u = over_fits (as_number u)

-- a / c and b / c, of which the first is +0
zero_sum : (s : Bool) (a b c n : ℕ) → a ≡ 0 → 0 < c → b * 2 ^ 23 ≡ n * c → (s ≡ true → 0 < b) → sum binary32 false a s b c ≡ round binary32 s n (2 ^ 23)
unfolding sum
zero_sum false a b c n z C v some = round_same binary32 false (a + b) c n (2 ^ 23) C (lit< tt) (omega (arith, z, v))
zero_sum true a b c n z C v some =
    ap (λ (q : Bool). cond q (round binary32 true (b - a) c) (round binary32 false (a - b) c)) (lt-ltb a b (omega (arith, z, some refl)))
    ∙ round_same binary32 true (b - a) c n (2 ^ 23) C (lit< tt) (omega (arith, z, v))

-- +0 and a float of n / 2^23, which is no -0
plus_zero : (x : Float) (s : Bool) (n : ℕ) → HasValue x s n (2 ^ 23) → (s ≡ true → 0 < n) → add binary32 zero_f x ≡ round binary32 s n (2 ^ 23)
unfolding add
plus_zero nan s n v some = absurd v
plus_zero (inf t) s n v some = absurd v
plus_zero (fin t m e) s n v some =
    let d = down_pos e in
    ap (λ (b : Bool). sum binary32 false (0 * up (pos 0) * down e) b (m * up e * down (pos 0)) (down (pos 0) * down e)) v.0
    ∙ zero_sum s (0 * up (pos 0) * down e) (m * up e * down (pos 0)) (down (pos 0) * down e) n (omega arith) (omega (arith, d)) (omega (arith, v.1))
    (λ q. omega (arith, v.1, mul-pos (some q) d))

minus_over : (n : ℕ) → 0 < n → over23 (neg_ℤ (pos n)) ≡ round binary32 true n (2 ^ 23)
unfolding over23
minus_over zero h = absurd (omega arith)
minus_over (suc n) h = refl

-- +0 and a word's sample
pub zero_plus : (u : ℕ) → u < 2 ^ 24 → add binary32 zero_f (of_word u) ≡ of_word u
unfolding of_word over23
zero_plus u h = go (ltb u (2 ^ 23)) refl (word_exact u h)
  where
    go : (b : Bool) → ltb u (2 ^ 23) ≡ b → HasValue (over23 (cond b (pos u) (neg_ℤ (pos (2 ^ 24 - u))))) (not b) (cond b u (2 ^ 24 - u)) (2 ^ 23)
        → add binary32 zero_f (over23 (cond b (pos u) (neg_ℤ (pos (2 ^ 24 - u))))) ≡ over23 (cond b (pos u) (neg_ℤ (pos (2 ^ 24 - u))))
    go true e v = plus_zero (over23 (pos u)) false u v (λ s. absurd (false≢true s))
    go false e v =
        let some : 0 < 2 ^ 24 - u = omega arith in
        plus_zero (over23 (neg_ℤ (pos (2 ^ 24 - u)))) true (2 ^ 24 - u) v (λ _. some) ∙ sym (minus_over (2 ^ 24 - u) some)

-- ---- going out

-- the pattern of a number that is not above zero
pub minus_pattern : (n : ℕ) → as_pattern (neg_ℤ (pos n)) ≡ (2 ^ 24 - n) % 2 ^ 24
minus_pattern zero = refl
minus_pattern (suc n) = omega arith

pub word_lt : (x : Float) → to_word x < 2 ^ 24
unfolding to_word
word_lt nan = lit< tt
word_lt (inf true) = lit< tt
word_lt (inf false) = lit< tt
word_lt (fin true m e) = rw (minus_pattern (min (nearest_size m e) (2 ^ 23))) (omega arith)
word_lt (fin false m e) = omega arith

pub word_back : (u : ℕ) → u < 2 ^ 24 → to_word (of_word u) ≡ u
unfolding to_word
word_back u h = go (of_word u) (word_exact u h)
  where
    sides : (b : Bool) → ltb u (2 ^ 23) ≡ b → as_pattern (clipped (not b) (cond b u (2 ^ 24 - u))) ≡ u
    sides true e = omega (arith, ltb-true u (2 ^ 23) e)
    sides false e = minus_pattern (min (2 ^ 24 - u) (2 ^ 23)) ∙ omega (arith, ltb-false u (2 ^ 23) e)

    go : (x : Float) → HasValue x (not (ltb u (2 ^ 23))) (cond (ltb u (2 ^ 23)) u (2 ^ 24 - u)) (2 ^ 23) → as_pattern (nearest_number x) ≡ u
    go nan v = absurd v
    go (inf s) v = absurd v
    go (fin s m e) v =
        let n = cond (ltb u (2 ^ 23)) u (2 ^ 24 - u) in
        ap (λ (t : Bool). as_pattern (clipped t (nearest_size m e))) v.0
        ∙ ap (λ (k : ℕ). as_pattern (clipped (not (ltb u (2 ^ 23))) (closest k (down e)))) v.1
        ∙ ap (λ (k : ℕ). as_pattern (clipped (not (ltb u (2 ^ 23))) k)) (closest_whole n (down e) (down_pos e))
        ∙ sides (ltb u (2 ^ 23)) refl
