-- The floor of a float from 1 to 2^24, off its pattern b: the digits of b under a leading one, moved by what b's exponent field says.
-- In units of 2^-149 the float is n, and its pattern keeps the first 24 digits of n and how many it dropped. Assumes nothing.
use mathlib.Core.Path.{◌≡◌, refl, sym, ap, ◌∙◌, subst}
use mathlib.Core.Bool.{Bool, true, false, not, ◌&&◌, ◌||◌, true≢false}
use Prim.Native.Nat.{ℕ, suc, ◌+◌, ◌-◌, ◌*◌, ◌/◌, ◌%◌, ◌^◌, ◌≤◌, ◌<◌}
use native.Mathlib.Nat.{le_trans, le_of_eq, le_antisymm, lt_of_le_of_lt, lt_of_lt_of_le, lt_of_not-le, not-le_of_lt, zero-lt-suc, zero-mul, zero-div, mul_comm, mul_right_comm, mul-le-mul_right, pow-suc, le-div_iff_mul-le, div-eq_of_lt, div-div-eq-div-mul, mul-div-mul_right}
use native.Mathlib.Decide.{dec_le}
use native.Mathlib.Omega.{arith}
use lib.Dec.{T, ltb, eqb, eqb→eq, lit<}
use lib.Pow.{pow-add, pow_pos, pow_mono, shr-shr}
use lib.Ieee.{Float, nan, inf, fin, binary32, up, down, size, le, is_nan, to_bits}
use lib.Ieee.Digits.{size-lt, size-le, size_reaches}
use lib.Ieee.Fits.{down_pos, kept-lt, and_r}
use borrow.Author.Tests.{ltb-false, eqb-false}
use Rattle.values.specs.Floors.{f1, Upto, floor_of}
use Rattle.values.proofs.Floors.{or-le, quotient_le}

-- what a pattern b of a whole part v says
pub record Digits (b v : ℕ) : Type 0 where
  pub field_low : 127 ≤ b / 2 ^ 23
  pub field_high : b / 2 ^ 23 ≤ 151
  pub moved : (b % 2 ^ 23 + 2 ^ 23) * 2 / 2 ^ (151 - b / 2 ^ 23) ≡ v

-- ---- how many digits a number has

size-gt : (n k : ℕ) → 2 ^ k ≤ n → k < size n
size-gt n k h = lt_of_not-le {n = size n} {m = k} (λ (g : size n ≤ k). not-le_of_lt (lt_of_lt_of_le (size-lt n) (pow_mono g)) h)

pub size_is : (n k : ℕ) → 2 ^ k ≤ n → n < 2 ^ suc k → size n ≡ suc k
size_is n k h l = le_antisymm (size-le n (suc k) l) (size-gt n k h)

-- ---- n units of 2^-149, from 1 to 2^24

module _ (n : ℕ) (low : 2 ^ 149 ≤ n) (high : n ≤ 2 ^ 173) where
  size_low : 149 < size n
  size_low = size-gt n 149 low

  size_high : size n ≤ 174
  size_high = size-le n 174 (lt_of_le_of_lt high (lit< tt))

  -- the digits kept
  digits_low : 2 ^ 23 ≤ n / 2 ^ (size n - 24)
  digits_low =
      let k = size n - 24 in
      let reach : 23 + k < size n = omega (arith, size_low) in
      (le-div_iff_mul-le (pow_pos k)).1 (le_trans (le_of_eq (sym (pow-add 2 23 k))) (size_reaches n (23 + k) reach))

  moved_by : (k : ℕ) → k ≡ size n - 24 → n / 2 ^ k * 2 / 2 ^ (150 - k) ≡ n / 2 ^ 149
  moved_by k e = go (dec_le k 149)
    where
      go : Dec (k ≤ 149) → n / 2 ^ k * 2 / 2 ^ (150 - k) ≡ n / 2 ^ 149
      go (yes h) =
          let j = 149 - k in
          let a : 150 - k ≡ suc j = omega arith in
          let b : k + j ≡ 149 = omega arith in
          ap (λ (i : ℕ). n / 2 ^ k * 2 / 2 ^ i) a
          ∙ ap (λ (d : ℕ). n / 2 ^ k * 2 / d) (pow-suc 2 j)
          ∙ mul-div-mul_right (n / 2 ^ k) (2 ^ j) (zero-lt-suc 1)
          ∙ shr-shr n k j
          ∙ ap (λ (i : ℕ). n / 2 ^ i) b
      go (no h) =
          let a : k ≡ 150 = omega (arith, size_high) in
          let b : 173 < size n = omega (arith, size_high) in
          let c : n ≡ 2 ^ 173 = le_antisymm high (size_reaches n 173 b) in
          ap (λ (i : ℕ). n / 2 ^ i * 2 / 2 ^ (150 - i)) a ∙ ap (λ (i : ℕ). i / 2 ^ 150 * 2 / 2 ^ 0) c ∙ ap (λ (i : ℕ). i / 2 ^ 149) (sym c)

  pub digits : Digits (0 + (size n - 24) * 2 ^ 23 + n / 2 ^ (size n - 24)) (n / 2 ^ 149)
  digits =
      let k = size n - 24 in
      let q = n / 2 ^ k in
      let b = 0 + k * 2 ^ 23 + q in
      let few : q < 2 ^ 24 = kept-lt 24 n in
      let many : 2 ^ 23 ≤ q = digits_low in
      let field : b / 2 ^ 23 ≡ k + 1 = omega arith in
      let kept : b % 2 ^ 23 + 2 ^ 23 ≡ q = omega arith in
      let by : 151 - b / 2 ^ 23 ≡ 150 - k = omega arith in
      record {
        field_low = omega (arith, size_low);
        field_high = omega (arith, size_high);
        moved = ap (λ (x : ℕ). x * 2 / 2 ^ (151 - b / 2 ^ 23)) kept ∙ ap (λ (x : ℕ). q * 2 / 2 ^ x) by ∙ moved_by k refl;
      }

-- ---- a float from 0 to 2^24, at least 1 and below it

pub unit_low : (a d : ℕ) → 0 < d → d ≤ a → 2 ^ 149 ≤ a * 2 ^ 149 / d
unit_low a d D h =
    (le-div_iff_mul-le D).1 (le_trans (le_of_eq (mul_comm (2 ^ 149) d)) (mul-le-mul_right (2 ^ 149) h))

unit_high : (a d : ℕ) → a ≤ 2 ^ 24 * d → a * 2 ^ 149 / d ≤ 2 ^ 173
unit_high a d h =
    quotient_le (a * 2 ^ 149) d (2 ^ 173) (le_trans (mul-le-mul_right (2 ^ 149) h) (le_of_eq (mul_right_comm (2 ^ 24) d (2 ^ 149))))

unit_floor : (a d : ℕ) → a * 2 ^ 149 / d / 2 ^ 149 ≡ a / d
unit_floor a d = div-div-eq-div-mul (a * 2 ^ 149) d (2 ^ 149) ∙ mul-div-mul_right a d (pow_pos 149)

pub from_one : (x : Float) → Upto (2 ^ 24) x → le f1 x ≡ true → Digits (to_bits binary32 x) (floor_of x)
unfolding le to_bits floor_of
from_one nan u h = absurd u
from_one (inf s) u h = absurd u
from_one (fin true m e) u h =
    let z : 1 * down e ≡ 0 = eqb→eq (1 * down e) 0 (and_r (eqb (1 * down e) (m * up e * 1)) (eqb (1 * down e) 0) (subst T (sym h) tt)) in
    absurd (omega (arith, down_pos e))
from_one (fin false m e) u h =
    let a = m * up e in
    let d = down e in
    let l : 1 * d ≤ a * 1 = or-le (1 * d) (a * 1) true (subst T (sym h) tt) in
    subst (λ (v : ℕ). Digits (to_bits binary32 (fin false m e)) v) (unit_floor a d)
    (digits (a * 2 ^ 149 / d) (unit_low a d (down_pos e) (omega arith)) (unit_high a d u.0))

over : (a b : ℕ) → (ltb a b || (eqb a b && true)) ≡ false → b < a
over a b h = go (ltb a b) (eqb a b) refl refl h
  where
    go : (x y : Bool) → ltb a b ≡ x → eqb a b ≡ y → (x || (y && true)) ≡ false → b < a
    go true y p q h = absurd (true≢false h)
    go false true p q h = absurd (true≢false h)
    go false false p q h = omega (arith, ltb-false a b p, eqb-false a b q)

pub below_one : (x : Float) (n : ℕ) → Upto n x → le f1 x ≡ false → 0 ≡ floor_of x
unfolding le floor_of
below_one nan n u h = absurd u
below_one (inf s) n u h = absurd u
below_one (fin true m e) n u h = sym (ap (λ (k : ℕ). k * up e / down e) (u.1 refl) ∙ ap (λ (k : ℕ). k / down e) (zero-mul (up e)) ∙ zero-div (down e))
below_one (fin false m e) n u h =
    let l : m * up e * 1 < 1 * down e = over (1 * down e) (m * up e * 1) h in sym (div-eq_of_lt (omega arith))

-- what is cut is no NaN
pub upto-number : (x : Float) (n : ℕ) → Upto n x → T (not (is_nan x))
unfolding is_nan
upto-number nan n u = absurd u
upto-number (inf s) n u = absurd u
upto-number (fin s m e) n u = tt
