-- A byte over 128 is a float with nothing lost, and a whole number of 32 bits over 2^31 the nearest float: its upper 24 bits and its lower 8 are floats exactly,
-- and their sum is rounded once. Assumes nothing.
use mathlib.Core.Path.{◌≡◌, refl, sym, ap, ◌∙◌}
use mathlib.Core.Bool.{Bool, true, false, cond, not}
use Prim.Native.Nat.{ℕ, zero, suc, ◌+◌, ◌-◌, ◌*◌, ◌/◌, ◌%◌, ◌^◌, ◌≤◌, ◌<◌}
use native.Mathlib.Nat.{mul_assoc, mul-pos}
use native.Mathlib.Omega.{arith}
use borrow.Author.Tests.{ltb-true, ltb-false, lt-ltb, le-ltb}
use lib.Dec.{ltb, lit<, lit≤}
use lib.IntN.{pos, neg_ℤ}
use lib.Ieee.{Float, Format, nan, inf, fin, binary32, up, down, neg, add, div, of_int, sum, odd, units, round, low, prec, emax}
use lib.Ieee.Exact.{HasValue}
use lib.Ieee.Back.{round_whole}
use lib.Ieee.Fits.{down_pos, round_is}
use lib.Ieee.Scale.{round_same}
use Rattle.values.specs.Floors.{whole}
use Rattle.leaves.specs.Sine.{over23}
use Rattle.leaves.specs.Converter.{of_word}
use Rattle.leaves.proofs.Quotient.{quotient, exact}
use Rattle.wav.specs.Frames.{byte_of, long_of}
use Rattle.wav.proofs.Exact.{size_of, minus, negated}

-- ---- a whole number over a power of two

pub divided : (k n : ℕ) → n ≤ 2 ^ 24 → div binary32 (of_int binary32 (pos n)) (whole 1 k) ≡ round binary32 false n (2 ^ k)
unfolding of_int
divided k n h = quotient k (round binary32 false n 1) false n (round_whole binary32 false n h)

-- ---- the upper 24 bits and the lower 8

cross : (p q d e a b : ℕ) → p * 2 ^ 23 ≡ a * e → q * 2 ^ 31 ≡ b * d → (p * d + q * e) * 2 ^ 31 ≡ (a * 256 + b) * (e * d)
cross p q d e a b h k =
    let one : p * 2 ^ 23 * d ≡ a * e * d = ap (λ (x : ℕ). x * d) h in
    let two : q * 2 ^ 31 * e ≡ b * d * e = ap (λ (x : ℕ). x * e) k in
    omega arith

joined : (x y : Float) (a b : ℕ) → HasValue x false a (2 ^ 23) → HasValue y false b (2 ^ 31) → add binary32 x y ≡ round binary32 false (a * 256 + b) (2 ^ 31)
unfolding add sum
joined nan y a b v w = absurd v
joined (inf s) y a b v w = absurd v
joined (fin s m e) nan a b v w = absurd w
joined (fin s m e) (inf t) a b v w = absurd w
joined (fin s m e) (fin t n d) a b v w =
    ap (λ (r : Bool). sum binary32 r (m * up e * down d) t (n * up d * down e) (down e * down d)) v.0
    ∙ ap (λ (r : Bool). sum binary32 false (m * up e * down d) r (n * up d * down e) (down e * down d)) w.0
    ∙ round_same binary32 false (m * up e * down d + n * up d * down e) (down e * down d) (a * 256 + b) (2 ^ 31) (mul-pos (down_pos e) (down_pos d)) (lit< tt)
    (cross (m * up e) (n * up d) (down d) (down e) a b v.1 w.1)

pub long_is : (n : ℕ) → n ≤ 2 ^ 31
    → add binary32 (div binary32 (of_int binary32 (pos (n / 256))) (whole 1 23)) (div binary32 (of_int binary32 (pos (n % 256))) (whole 1 31)) ≡ round binary32 false n (2 ^ 31)
long_is n h =
    let high : n / 256 < 2 ^ 24 = omega arith in
    let low8 : n % 256 < 2 ^ 24 = omega arith in
    let all : n / 256 * 256 + n % 256 ≡ n = omega arith in
    ap (λ (x : Float). add binary32 x (div binary32 (of_int binary32 (pos (n % 256))) (whole 1 31))) (divided 23 (n / 256) (omega arith))
    ∙ ap (add binary32 (round binary32 false (n / 256) (2 ^ 23))) (divided 31 (n % 256) (omega arith))
    ∙ joined (round binary32 false (n / 256) (2 ^ 23)) (round binary32 false (n % 256) (2 ^ 31)) (n / 256) (n % 256)
    (exact false 23 (n / 256) (lit≤ tt) high)
    (exact false 31 (n % 256) (lit≤ tt) low8)
    ∙ ap (λ (x : ℕ). round binary32 false x (2 ^ 31)) all

-- ---- what a sample is

neg-odd : (d : ℕ) (s : Bool) (q k l : ℕ) → neg (odd d s q k l) ≡ odd d (not s) q k l
unfolding neg odd
neg-odd d s zero k l = refl
neg-odd d s (suc q) k l = refl

neg-units : (f : Format) (s : Bool) (q k : ℕ) → neg (units f s q k) ≡ units f (not s) q k
unfolding units neg
neg-units f s q k = go (ltb (q * 2 ^ k) (2 ^ (low f + suc (emax f))))
  where
    go : (b : Bool) → neg (cond b (odd (suc (prec f)) s q k (low f)) (inf s)) ≡ cond b (odd (suc (prec f)) (not s) q k (low f)) (inf (not s))
    go true = neg-odd (suc (prec f)) s q k (low f)
    go false = refl

neg-round : (f : Format) (s : Bool) (n d : ℕ) → neg (round f s n d) ≡ round f (not s) n d
neg-round f s n d = ap neg (round_is f s n d) ∙ neg-units f s _ _ ∙ sym (round_is f (not s) n d)

-- 32 bits: the float that is nearest to the number over 2^31, negative from 2^31 on
pub long_nearest : (w : ℕ) → long_of w ≡ round binary32 (minus (2 ^ 31) w) (size_of (2 ^ 31) w) (2 ^ 31)
unfolding long_of
long_nearest w = go (ltb w (2 ^ 31))
  where
    go : (b : Bool) → cond b (round binary32 false w (2 ^ 31)) (neg (round binary32 false (2 ^ 32 - w) (2 ^ 31))) ≡ round binary32 (not b) (cond b w (2 ^ 32 - w)) (2 ^ 31)
    go true = refl
    go false = neg-round binary32 false (2 ^ 32 - w) (2 ^ 31)

-- so a converter's word of 24 bits that is written in 32 is what it was
pub long_whole : (w : ℕ) → w < 2 ^ 24 → long_of (w * 256) ≡ of_word w
unfolding long_of of_word over23
long_whole w h = go (ltb w (2 ^ 23)) refl
  where
    same : (s : Bool) (n : ℕ) → round binary32 s (n * 256) (2 ^ 31) ≡ round binary32 s n (2 ^ 23)
    same s n = round_same binary32 s (n * 256) (2 ^ 31) n (2 ^ 23) (lit< tt) (lit< tt) (mul_assoc n 256 (2 ^ 23))

    below : (n : ℕ) → 0 < n → neg (round binary32 false (n * 256) (2 ^ 31)) ≡ over23 (neg_ℤ (pos n))
    below zero k = absurd (omega arith)
    below (suc n) k = neg-round binary32 false (suc n * 256) (2 ^ 31) ∙ same true (suc n)

    go : (b : Bool) → ltb w (2 ^ 23) ≡ b
        → cond (ltb (w * 256) (2 ^ 31)) (round binary32 false (w * 256) (2 ^ 31)) (neg (round binary32 false (2 ^ 32 - w * 256) (2 ^ 31)))
        ≡ over23 (cond b (pos w) (neg_ℤ (pos (2 ^ 24 - w))))
    go true e = rw (lt-ltb (w * 256) (2 ^ 31) (omega (arith, ltb-true w (2 ^ 23) e))) (same false w)
    go false e =
        let size : 2 ^ 32 - w * 256 ≡ (2 ^ 24 - w) * 256 = omega arith in
        rw (le-ltb (w * 256) (2 ^ 31) (omega (arith, ltb-false w (2 ^ 23) e)), size) (below (2 ^ 24 - w) (omega arith))

-- 8 bits: the byte less 128, over 128, exactly
pub byte_exact : (b : ℕ) → b < 256 → HasValue (byte_of b) (ltb b 128) (cond (ltb b 128) (128 - b) (b - 128)) 128
unfolding byte_of
byte_exact b h = go (ltb b 128)
  where
    fine : (n : ℕ) → n < 2 ^ 24 → HasValue (round binary32 false n 128) false n 128
    fine n k = exact false 7 n (lit≤ tt) k

    go : (t : Bool) → HasValue (cond t (neg (round binary32 false (128 - b) 128)) (round binary32 false (b - 128) 128)) t (cond t (128 - b) (b - 128)) 128
    go true = negated (round binary32 false (128 - b) 128) (128 - b) 128 (fine (128 - b) (omega arith))
    go false = fine (b - 128) (omega arith)
