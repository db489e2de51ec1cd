-- 1 − mix is finite for every finite mix: the largest float is (2^24 − 1) × 2^104, and one more than it still rounds to it. Assumes nothing.
use mathlib.Core.Path.{◌≡◌, refl, sym, ap, ◌∙◌, subst}
use mathlib.Core.Bool.{Bool, beq, true, false, cond, not, ◌&&◌, false≢true}
use Prim.Native.Nat.{ℕ, zero, suc, ◌+◌, ◌-◌, ◌*◌, ◌%◌, ◌^◌, ◌≤◌, ◌<◌}
use native.Mathlib.Nat.{le_trans, le_of_eq, mul-one, one-mul, mul_assoc, mul-le-mul, mul-le-mul_right, lt_of_mul-lt-mul_right, suc-mul}
use native.Mathlib.Numerals.{add-one}
use native.Mathlib.Omega.{arith}
use borrow.Author.Tests.{leb-true, leb-false}
use lib.IntN.{ℤ, pos, negsuc}
use lib.Dec.{T, leb, ltb, eqb, ltb→lt, lit<, lit≤}
use lib.Pow.{pow-add, pow_pos, pow_mono}
use lib.Ieee.{Float, nan, inf, fin, binary32, prec, emax, low, up, down, odd, units, round, sum, add, neg, sub, le, fits}
use lib.Ieee.Fits.{down_pos, and_l, and_r, round_is}
use lib.Ieee.Order.{round_mono}
use Rattle.values.specs.Floors.{finite_f}
use Rattle.values.proofs.Floors.{nothing-le}
use Rattle.plate_board.specs.Plate.{dry_of}

-- ---- a rounded value is finite up to the largest float and one more

abbrev largest : ℕ
largest = (2 ^ 24 - 1) * 2 ^ 104

odd_finite : (d : ℕ) (s : Bool) (q k l : ℕ) → finite_f (odd d s q k l) ≡ true
unfolding odd
odd_finite d s zero k l = refl
odd_finite d s (suc q) k l = refl

-- whether the result is an infinity is not the sign's to say
units_finite : (s : Bool) (q k : ℕ) → T (le (units binary32 false q k) (round binary32 false (largest + 1) 1)) → finite_f (units binary32 s q k) ≡ true
unfolding units le round
units_finite s q k = go (ltb (q * 2 ^ k) (2 ^ (low binary32 + suc (emax binary32))))
  where
    go : (b : Bool) → T (le (cond b (odd (suc (prec binary32)) false q k (low binary32)) (inf false)) (round binary32 false (largest + 1) 1))
        → finite_f (cond b (odd (suc (prec binary32)) s q k (low binary32)) (inf s)) ≡ true
    go true t = odd_finite (suc (prec binary32)) s q k (low binary32)
    go false t = absurd t

round_finite : (s : Bool) (n c : ℕ) → 0 < c → n ≤ (largest + 1) * c → finite_f (round binary32 s n c) ≡ true
round_finite s n c some h =
    let top : n * 1 ≤ (largest + 1) * c = le_trans (le_of_eq (mul-one n)) h in
    let below = subst (λ (x : Float). T (le x (round binary32 false (largest + 1) 1))) (round_is binary32 false n c) (round_mono binary32 n c (largest + 1) 1 some (lit< tt) top) in
    ap finite_f (round_is binary32 s n c) ∙ units_finite s _ _ below

-- ---- no value of the format is larger

below_next : (x : ℕ) {n : ℕ} → x < suc n → x ≤ n
below_next x h = omega arith

-- a number of 24 digits, moved up by k, that lies below 2^128: the lower 104 places are free, or more of them are
shifted : (m k : ℕ) → m < 2 ^ 24 → m * 2 ^ k < 2 ^ 128 → m * 2 ^ k ≤ largest
shifted m k digits room = go (leb k 104) refl
  where
    go : (b : Bool) → leb k 104 ≡ b → m * 2 ^ k ≤ largest
    go true e = let most : m ≤ 2 ^ 24 - 1 = below_next m digits in mul-le-mul most (pow_mono (leb-true k 104 e))
    go false e =
        let j = k - 105 in
        let parts : m * 2 ^ k ≡ m * 2 ^ j * 2 ^ 105 =
        ap (λ (i : ℕ). m * 2 ^ i) (omega (arith, leb-false k 104 e)) ∙ ap (λ (u : ℕ). m * u) (pow-add 2 j 105) ∙ sym (mul_assoc m (2 ^ j) (2 ^ 105)) in
        let few : m * 2 ^ j < 2 ^ 23 = lt_of_mul-lt-mul_right (2 ^ 105) (subst (λ (n : ℕ). n < 2 ^ 23 * 2 ^ 105) parts room) in
        let most : m * 2 ^ j ≤ 2 ^ 23 - 1 = below_next (m * 2 ^ j) few in
        le_trans (le_of_eq parts) (le_trans (mul-le-mul_right (2 ^ 105) most) (lit≤ tt))

sized : (m : ℕ) (e : ℤ) → m < 2 ^ 24 → m * up e < 2 ^ 128 * down e → m * up e ≤ largest * down e
sized m (pos k) digits room = le_trans (shifted m k digits (subst (λ (n : ℕ). m * 2 ^ k < n) (mul-one (2 ^ 128)) room)) (le_of_eq (sym (mul-one largest)))
sized m (negsuc k) digits room =
    let reach : 2 ^ 24 ≤ largest = lit≤ tt in
    let small : m ≤ 2 ^ 24 = omega arith in
    let whole : m ≤ largest = le_trans small reach in
    mul-le-mul whole (pow_pos (suc k))

value_le : (s : Bool) (m : ℕ) (e : ℤ) → T (fits binary32 (fin s m e)) → m * up e ≤ largest * down e
unfolding fits
value_le s zero e h = nothing-le (up e) (largest * down e)
value_le s (suc m) e h =
    let three = eqb (suc m % 2) 1 && ltb (suc m) (2 ^ 24) && leb (down e) (2 ^ 149) in
    let high = ltb→lt (suc m * up e) (2 ^ 128 * down e) (and_r three (ltb (suc m * up e) (2 ^ 128 * down e)) h) in
    let digits = ltb→lt (suc m) (2 ^ 24) (and_r (eqb (suc m % 2) 1) _ (and_l (eqb (suc m % 2) 1 && ltb (suc m) (2 ^ 24)) _ (and_l three _ h))) in
    sized (suc m) e digits high

-- ---- 1 − mix

-- every sum and difference of two numbers is at most the sum
sum_finite : (s t : Bool) (a b c : ℕ) → 0 < c → a + b ≤ (largest + 1) * c → finite_f (sum binary32 s a t b c) ≡ true
unfolding sum
sum_finite s t a b c some h = go (beq s t) (ltb a b)
  where
    go : (x y : Bool) → finite_f (cond x (round binary32 s (a + b) c) (cond y (round binary32 t (b - a) c) (round binary32 (s && ltb b a) (a - b) c))) ≡ true
    go true y = round_finite s (a + b) c some h
    go false true = round_finite t (b - a) c some (le_trans (omega arith) h)
    go false false = round_finite (s && ltb b a) (a - b) c some (le_trans (omega arith) h)

-- n / d + 1, with what the multiplications by 1 leave
with_one : (n d k : ℕ) → n ≤ k * d → 1 * d + n * 1 ≤ (k + 1) * (1 * d)
with_one n d k h = rw (one-mul, mul-one, add-one, suc-mul) (omega arith)

pub dry_finite : (x : Float) → T (fits binary32 x) → finite_f x ≡ true → finite_f (dry_of x) ≡ true
unfolding sub add neg
dry_finite nan h e = absurd (false≢true e)
dry_finite (inf s) h e = absurd (false≢true e)
dry_finite (fin s m e) h q = sum_finite false (not s) (1 * 1 * down e) (m * up e * 1) (1 * down e) (rw one-mul (down_pos e)) (with_one (m * up e) (down e) largest (value_le s m e h))
