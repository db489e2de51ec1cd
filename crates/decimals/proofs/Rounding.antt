-- `round` by one division: the number of dropped digits, the quotient rounded, and the bits that they give. Assumes nothing.
use mathlib.Core.Path.{◌≡◌, refl, sym, ap, ◌∙◌}
use mathlib.Core.Bool.{Bool, true, false, cond, true≢false}
use Prim.Native.Nat.{ℕ, zero, zero-le, suc, ◌+◌, ◌-◌, ◌*◌, ◌/◌, ◌%◌, ◌^◌, ◌<◌, ◌≤◌, compare}
use native.Mathlib.Decide.{dec_lt}
use native.Mathlib.Nat.{le_trans, le_of_eq, lt_of_lt_of_le, lt_of_le_of_lt, lt_of_not-le, not-le_of_lt, mul_assoc, mul_comm, mul-le-mul, mul-le-mul_right, lt_of_mul-lt-mul_right, mul-pos, mul-div_cancel, zero-add, add_assoc, le-div_iff_mul-le, div-lt_iff_lt-mul, add-mul, one-mul, le_of_lt, pow-le-pow_right, div-add-mod', mod-lt}
use native.Mathlib.Omega.{arith}
use borrow.Author.Tests.{lt-ltb, le-ltb}
use lib.Arith.{digits_div, digits_mod}
use lib.Dec.{ltb, lit<}
use lib.Pow.{pow-add, pow_pos, pow_mono, shl_lt, shl-shr}
use lib.Ieee.{Float, nan, inf, fin, binary32, up, down, size, nearest, neg, odd, units, round, to_bits}
use lib.Ieee.Digits.{size-lt, size-le}
use lib.Ieee.Fits.{round_is, nearest-le, down_pos}
use lib.Ieee.Exact.{HasValue, odd_sign, units_val}
use lib.Ieee.Nearest.{closest, closest_same, nearest-ge}
use Rattle.decimals.specs.Big.{limit}
use Rattle.decimals.specs.Decimal.{nearest_to}
use Rattle.decimals.proofs.Scaling.{tens_pos}

-- ---- the bits of q × 2^k of the smallest floats

size-gt : (n j : ℕ) → 2 ^ j ≤ n → j < size n
size-gt n j h = lt_of_not-le (λ (g : size n ≤ j). not-le_of_lt (lt_of_lt_of_le (size-lt n) (pow_mono g)) h)

-- a positive float's bits, by its number of smallest floats
value_bits : (x : Float) (n : ℕ) → HasValue x false n (2 ^ 149) → to_bits binary32 x ≡ (size n - 24) * 8388608 + n / 2 ^ (size n - 24)
unfolding to_bits
value_bits nan n v = absurd v
value_bits (inf s) n v = absurd v
value_bits (fin s m e) n v =
    let is : m * up e * 2 ^ 149 / down e ≡ n = ap (λ (z : ℕ). z / down e) v.1 ∙ mul-div_cancel n (down_pos e) in
    ap (λ (z : ℕ). cond s 2147483648 0 + (size z - 24) * 8388608 + z / 2 ^ (size z - 24)) is
    ∙ ap (λ (b : Bool). cond b 2147483648 0 + (size n - 24) * 8388608 + n / 2 ^ (size n - 24)) v.0
    ∙ ap (λ (z : ℕ). z + n / 2 ^ (size n - 24)) (zero-add ((size n - 24) * 8388608))

-- the digits that are dropped of a number with 24 + k digits; at k = 0 of one with fewer too
dropped : (n k : ℕ) → n < 2 ^ (24 + k) → (0 < k → 2 ^ (23 + k) ≤ n) → size n - 24 ≡ k
dropped n zero h l = omega (arith, size-le n 24 h)
dropped n (suc k) h l = omega (arith, size-le n (24 + suc k) h, size-gt n (23 + suc k) (l (omega arith)))

-- q of 24 digits, or of fewer at k = 0
kept_bits : (q k : ℕ) → q < 2 ^ 24 → (0 < k → 2 ^ 23 ≤ q) → (size (q * 2 ^ k) - 24) * 8388608 + q * 2 ^ k / 2 ^ (size (q * 2 ^ k) - 24) ≡ k * 8388608 + q
kept_bits q k h l =
    let n = q * 2 ^ k in
    let is : size n - 24 ≡ k = dropped n k (shl_lt 24 k h) (λ p. le_trans (le_of_eq (pow-add 2 23 k)) (mul-le-mul_right (2 ^ k) (l p))) in
    ap (λ (z : ℕ). z * 8388608 + n / 2 ^ z) is ∙ ap (λ (z : ℕ). k * 8388608 + z) (shl-shr q k)

-- 2^24, which has a digit more
carried_bits : (k : ℕ) → (size (2 ^ 24 * 2 ^ k) - 24) * 8388608 + 2 ^ 24 * 2 ^ k / 2 ^ (size (2 ^ 24 * 2 ^ k) - 24) ≡ k * 8388608 + 2 ^ 24
carried_bits k =
    let one_more : 24 + k ≡ 23 + (1 + k) = omega arith in
    let sums : (1 + k) * 8388608 + 2 ^ 23 ≡ k * 8388608 + 2 ^ 24 = omega arith in
    let same : 2 ^ 24 * 2 ^ k ≡ 2 ^ 23 * 2 ^ (1 + k) = sym (pow-add 2 24 k) ∙ ap (λ (z : ℕ). 2 ^ z) one_more ∙ pow-add 2 23 (1 + k) in
    ap (λ (n : ℕ). (size n - 24) * 8388608 + n / 2 ^ (size n - 24)) same
    ∙ kept_bits (2 ^ 23) (1 + k) (omega arith) (λ p. omega arith)
    ∙ sums

finite_bits_lem : (q k j : ℕ) → q < 2 ^ j → j + k ≤ 277 → to_bits binary32 (units binary32 false q k) ≡ (size (q * 2 ^ k) - 24) * 8388608 + q * 2 ^ k / 2 ^ (size (q * 2 ^ k) - 24)
finite_bits_lem q k j h l = value_bits (units binary32 false q k) (q * 2 ^ k) (units_val binary32 false q k (lt_of_lt_of_le (shl_lt j k h) (pow_mono l)))

infinite_bits : (q k j : ℕ) → 2 ^ j ≤ q → 277 ≤ j + k → to_bits binary32 (units binary32 false q k) ≡ 2139095040
unfolding units to_bits
infinite_bits q k j h l =
    rw (le-ltb (q * 2 ^ k) (2 ^ 277) (le_trans (pow_mono l) (le_trans (le_of_eq (pow-add 2 j k)) (mul-le-mul_right (2 ^ k) h))))

-- the bits of the float, of which k is the field and q the digits; infinity's from there on
pub units_bits : (q k : ℕ) → q ≤ 16777216 → (0 < k → 8388608 ≤ q) → to_bits binary32 (units binary32 false q k) ≡ cond (ltb 253 k) 2139095040 (k * 8388608 + q)
units_bits q k h l = pick (dec_lt 253 k) (dec_lt q 16777216)
  where
    pick : Dec (253 < k) → Dec (q < 16777216) → to_bits binary32 (units binary32 false q k) ≡ cond (ltb 253 k) 2139095040 (k * 8388608 + q)
    pick (yes a) d = infinite_bits q k 23 (l (omega arith)) (omega arith) ∙ (rw (lt-ltb 253 k a))
    pick (no a) (yes b) = finite_bits_lem q k 24 b (omega arith) ∙ kept_bits q k b l ∙ (rw (le-ltb 253 k (omega arith)))
    pick (no a) (no b) = full (dec_lt k 253) (omega arith)
      where
        full : Dec (k < 253) → q ≡ 16777216 → to_bits binary32 (units binary32 false q k) ≡ cond (ltb 253 k) 2139095040 (k * 8388608 + q)
        full (yes c) e =
            finite_bits_lem q k 25 (omega arith) (omega arith)
            ∙ ap (λ (z : ℕ). (size (z * 2 ^ k) - 24) * 8388608 + z * 2 ^ k / 2 ^ (size (z * 2 ^ k) - 24)) e
            ∙ carried_bits k
            ∙ ap (λ (z : ℕ). k * 8388608 + z) (sym e)
            ∙ (rw (le-ltb 253 k (omega arith)))
        full (no c) e =
            let last : k ≡ 253 = omega arith in
            let sum : 2139095040 ≡ k * 8388608 + q = omega arith in
            infinite_bits q k 24 (omega arith) (omega arith) ∙ sum ∙ (rw (le-ltb 253 k (omega arith)))

-- ---- one division: n over den, with t for 2^24 units of den × 2^k, the first above n

module _ (n den k t whole rest : ℕ) (positive : 0 < den) (is-unit : t ≡ 16777216 * den * 2 ^ k) (above : n < t) (first : 0 < k → t ≤ n * 2)
    (divided : whole * t + rest ≡ n * 16777216) (left : rest < t) where
  -- t, by one product
  unit : t ≡ 16777216 * (2 ^ k * den)
  unit = is-unit ∙ mul_assoc 16777216 den (2 ^ k) ∙ ap (λ (z : ℕ). 16777216 * z) (mul_comm den (2 ^ k))

  field : size (n / den) - 24 ≡ k
  field =
      let all : 2 ^ (24 + k) * den ≡ 16777216 * (2 ^ k * den) = ap (λ (z : ℕ). z * den) (pow-add 2 24 k) ∙ mul_assoc 16777216 (2 ^ k) den in
      let half : 2 ^ (23 + k) * den ≡ 8388608 * (2 ^ k * den) = ap (λ (z : ℕ). z * den) (pow-add 2 23 k) ∙ mul_assoc 8388608 (2 ^ k) den in
      dropped (n / den) k ((div-lt_iff_lt-mul positive).1 (omega (arith, unit)))
      (λ p. (le-div_iff_mul-le positive).1 (omega (arith, unit, first p)))

  quotient : closest n (den * 2 ^ k) ≡ nearest whole (compare (rest * 2) t)
  quotient =
      let u = den * 2 ^ k in
      let cross : n * t ≡ n * 16777216 * u = ap (λ (z : ℕ). n * z) (is-unit ∙ mul_assoc 16777216 den (2 ^ k)) ∙ sym (mul_assoc n 16777216 u) in
      closest_same n u (n * 16777216) t (mul-pos positive (pow_pos k)) (omega arith) cross
      ∙ ap (λ (z : ℕ). nearest (z / t) (compare (z % t * 2) t)) (sym divided)
      ∙ ap (λ (z : ℕ). nearest z (compare ((whole * t + rest) % t * 2) t)) (digits_div whole left)
      ∙ ap (λ (z : ℕ). nearest whole (compare (z * 2) t)) (digits_mod whole left)

  whole_lt : whole < 16777216
  whole_lt = lt_of_mul-lt-mul_right t (omega arith)

  whole_ge : 0 < k → 8388608 ≤ whole
  whole_ge p =
      let more : 8388608 * t < (1 + whole) * t = omega (arith, first p, add-mul 1 whole t) in
      omega (arith, lt_of_mul-lt-mul_right t {m = 8388608} {n = 1 + whole} more)

  rounded_le : nearest whole (compare (rest * 2) t) ≤ 16777216
  rounded_le = le_trans (nearest-le whole (compare (rest * 2) t)) whole_lt

  rounded_ge : 0 < k → 8388608 ≤ nearest whole (compare (rest * 2) t)
  rounded_ge p = le_trans (whole_ge p) (nearest-ge whole (compare (rest * 2) t))

  -- the bits of num / den rounded, where n is num in smallest floats
  pub round_bits : (num : ℕ) → n ≡ num * 2 ^ 149 → to_bits binary32 (round binary32 false num den) ≡ cond (ltb 253 k) 2139095040 (k * 8388608 + nearest whole (compare (rest * 2) t))
  round_bits num e =
      ap (to_bits binary32) (round_is binary32 false num den)
      ∙ ap (λ (z : ℕ). to_bits binary32 (units binary32 false (closest z (den * 2 ^ (size (z / den) - 24))) (size (z / den) - 24))) (sym e)
      ∙ ap (λ (z : ℕ). to_bits binary32 (units binary32 false (closest n (den * 2 ^ z)) z)) field
      ∙ ap (λ (z : ℕ). to_bits binary32 (units binary32 false z k)) quotient
      ∙ units_bits (nearest whole (compare (rest * 2) t)) k rounded_le rounded_ge

-- ---- the steps of the division

-- a unit in reach is doubled fewer than 512 times
pub few_doublings : (a k v : ℕ) → 0 < a → v ≡ a * 2 ^ k → v < limit → k < 512
unfolding limit
few_doublings a k v p e h =
    lt_of_not-le (λ (g : 512 ≤ k). not-le_of_lt h (le_trans (pow_mono g) (le_trans (le_of_eq (sym (one-mul (2 ^ k)))) (le_trans (mul-le-mul_right (2 ^ k) p) (le_of_eq (sym e))))))

-- ---- a decimal: d × 10^up / 10^down

pub nearest_bits : (d up down n k t whole rest : ℕ) → n ≡ d * 10 ^ up * 2 ^ 149 → t ≡ 16777216 * 10 ^ down * 2 ^ k → n < t → (0 < k → t ≤ n * 2)
    → whole * t + rest ≡ n * 16777216 → rest < t → to_bits binary32 (nearest_to d up down) ≡ cond (ltb 253 k) 2139095040 (k * 8388608 + nearest whole (compare (rest * 2) t))
unfolding nearest_to
nearest_bits d up down n k t whole rest e f above first divided left =
    round_bits n (10 ^ down) k t whole rest (tens_pos down) f above first divided left (d * 10 ^ up) e

-- the same, without the division, where infinity is the answer
pub infinity_bits : (d up down n k t : ℕ) → n ≡ d * 10 ^ up * 2 ^ 149 → t ≡ 16777216 * 10 ^ down * 2 ^ k → n < t → (0 < k → t ≤ n * 2) → 253 < k → 2139095040 ≡ to_bits binary32 (nearest_to d up down)
infinity_bits d up down n k t e f above first h =
    sym (nearest_bits d up down n k t (n * 16777216 / t) (n * 16777216 % t) e f above first (div-add-mod' (n * 16777216) t) (mod-lt (n * 16777216) (lt_of_le_of_lt zero-le above))
    ∙ (rw (lt-ltb 253 k h)))

-- the numbers of decimals in reach are far below the limit
pub digits_room : (d up : ℕ) → d < 10 ^ 40 → up ≤ 60 → d * 10 ^ up ≤ 10 ^ 100
digits_room d up h l = mul-le-mul (le_of_lt h) (pow-le-pow_right {n = 10} (omega arith) {i = up} {j = 60} l)

pub tens_room : (down : ℕ) → down ≤ 100 → 10 ^ down ≤ 10 ^ 100
tens_room down l = pow-le-pow_right {n = 10} (omega arith) {i = down} {j = 100} l

-- up to 10^100 × 2^151
pub in_reach : (n : ℕ) → n ≤ 10 ^ 100 * 2 ^ 151 → n < limit
unfolding limit
in_reach n h = lt_of_le_of_lt h (lit< tt)

-- up to 40 digits
pub digits_reach : (n : ℕ) → n ≤ 10 ^ 40 → n < limit
unfolding limit
digits_reach n h = lt_of_le_of_lt h (lit< tt)

-- l digits, and m behind them, of 40
pub first_room : (v l : ℕ) → v ≡ 0 → l ≤ 40 → (v + 1) * 10 ^ l ≤ 10 ^ 40
first_room v l e h =
    le_trans (le_of_eq (ap (λ (z : ℕ). (z + 1) * 10 ^ l) e ∙ one-mul (10 ^ l))) (pow-le-pow_right {n = 10} (omega arith) {i = l} {j = 40} h)

pub second_room : (v w l m : ℕ) → v ≡ 0 → w + 1 ≤ (v + 1) * 10 ^ l → l + m ≤ 40 → (w + 1) * 10 ^ m ≤ 10 ^ 40
second_room v w l m e r h =
    le_trans (mul-le-mul_right (10 ^ m) r)
    (le_trans (le_of_eq (mul_assoc (v + 1) (10 ^ l) (10 ^ m) ∙ ap (λ (z : ℕ). (v + 1) * z) (sym (pow-add 10 l m)))) (first_room v (l + m) e h))

-- ---- the sign in front

value_neg : (x : Float) (a c : ℕ) → HasValue x false a c → to_bits binary32 (neg x) ≡ 2147483648 + to_bits binary32 x
unfolding to_bits neg
value_neg nan a c v = absurd v
value_neg (inf s) a c v = absurd v
value_neg (fin true m e) a c v = absurd (true≢false v.0)
value_neg (fin false m e) a c v =
    let n = m * up e * 2 ^ 149 / down e in
    ap (λ (z : ℕ). 2147483648 + z + n / 2 ^ (size n - 24)) (sym (zero-add ((size n - 24) * 8388608))) ∙ add_assoc 2147483648 (0 + (size n - 24) * 8388608) (n / 2 ^ (size n - 24))

units_neg : (q k : ℕ) → to_bits binary32 (neg (units binary32 false q k)) ≡ 2147483648 + to_bits binary32 (units binary32 false q k)
unfolding units
units_neg q k = pick (ltb (q * 2 ^ k) (2 ^ 277))
  where
    pick : (b : Bool) → to_bits binary32 (neg (cond b (odd 25 false q k 149) (inf false))) ≡ 2147483648 + to_bits binary32 (cond b (odd 25 false q k 149) (inf false))
    pick true = value_neg (odd 25 false q k 149) (q * 2 ^ k) (2 ^ 149) (odd_sign 25 false q k 149)
    pick false = unfold to_bits neg in refl

pub nearest_neg : (d up down : ℕ) → to_bits binary32 (neg (nearest_to d up down)) ≡ 2147483648 + to_bits binary32 (nearest_to d up down)
unfolding nearest_to
nearest_neg d up down =
    ap (λ (x : Float). to_bits binary32 (neg x)) (round_is binary32 false (d * 10 ^ up) (10 ^ down))
    ∙ units_neg _ _
    ∙ ap (λ (x : Float). 2147483648 + to_bits binary32 x) (sym (round_is binary32 false (d * 10 ^ up) (10 ^ down)))
