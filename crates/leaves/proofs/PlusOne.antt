-- A fraction a / d from 0 to 1, plus 1, as a float: floats from 1 to 2 are 2^-23 apart, so the one rounding of the sum is that of 2^23 × a / d to the nearest
-- whole number, and the sum's pattern is that number above the pattern of 1. Assumes nothing.
use mathlib.Core.Path.{◌≡◌, sym, ap, ◌∙◌}
use mathlib.Core.Logic.{◌⊎◌, inl, inr}
use mathlib.Core.Bool.{Bool, false}
use Prim.Native.Nat.{ℕ, ◌+◌, ◌-◌, ◌*◌, ◌/◌, ◌^◌, ◌≤◌, ◌<◌}
use native.Mathlib.Nat.{le_refl, le_of_eq, lt_of_lt_of_le, lt_of_le_of_lt, eq-or-lt_of_le, mul_right_comm, mul-pos, mul-le-mul_right, mul-lt-mul_of_pos_right, mul-div_cancel, div-lt_iff_lt-mul}
use native.Mathlib.Omega.{arith}
use lib.Dec.{lit<}
use lib.Pow.{pow_pos, shl_lt, shl-shr}
use lib.Ieee.{Float, nan, inf, fin, binary32, down, size, units, round, to_bits}
use lib.Ieee.Exact.{HasValue, units_val}
use lib.Ieee.Fits.{down_pos, core, round_is}
use lib.Ieee.Nearest.{closest, closest_mono, closest_same}
use Rattle.values.proofs.WholePart.{size_is, unit_low}
use Rattle.leaves.proofs.Closest.{closest_more}

-- ---- the pattern of q / 2^23, from 1 to 2

-- of n units of 2^-149
abbrev pattern_of : ℕ → ℕ
pattern_of n = 0 + (size n - 24) * 2 ^ 23 + n / 2 ^ (size n - 24)

units_pattern : (q : ℕ) → 2 ^ 23 ≤ q → q ≤ 2 ^ 24 → pattern_of (q * 2 ^ 126) ≡ 0x3f00_0000 + q
units_pattern q l h = go (eq-or-lt_of_le h)
  where
    go : (q ≡ 2 ^ 24) ⊎ (q < 2 ^ 24) → pattern_of (q * 2 ^ 126) ≡ 0x3f00_0000 + q
    go (inl e) =
        ap (λ (k : ℕ). pattern_of (k * 2 ^ 126)) e
        ∙ ap (λ (k : ℕ). 0 + (k - 24) * 2 ^ 23 + 2 ^ 150 / 2 ^ (k - 24)) (size_is (2 ^ 150) 150 (le_refl (2 ^ 150)) (lit< tt))
        ∙ ap (λ (k : ℕ). 0x3f00_0000 + k) (sym e)
    go (inr s) =
        ap (λ (k : ℕ). 0 + (k - 24) * 2 ^ 23 + q * 2 ^ 126 / 2 ^ (k - 24)) (size_is (q * 2 ^ 126) 149 (mul-le-mul_right (2 ^ 126) l) (shl_lt 24 126 s))
        ∙ ap (λ (k : ℕ). 0x3f00_0000 + k) (shl-shr q 126)

pattern : (x : Float) (q : ℕ) → HasValue x false (q * 2 ^ 126) (2 ^ 149) → 2 ^ 23 ≤ q → q ≤ 2 ^ 24 → to_bits binary32 x ≡ 0x3f00_0000 + q
unfolding to_bits
pattern nan q v l h = absurd v
pattern (inf t) q v l h = absurd v
pattern (fin t m e) q v l h =
    ap (λ (s : Bool). to_bits binary32 (fin s m e)) v.0
    ∙ ap pattern_of (ap (λ (k : ℕ). k / down e) v.1 ∙ mul-div_cancel (q * 2 ^ 126) (down_pos e))
    ∙ units_pattern q l h

-- ---- the sum

scaled : (a d p t : ℕ) → (a + d) * (p * t) * d ≡ (a * p + p * d) * (d * t)
scaled a d p t = omega arith

module _ (a d : ℕ) (D : 0 < d) (h : a < d) where
  pub nearest-le : closest (a * 2 ^ 23) d ≤ 2 ^ 23
  nearest-le = closest_mono (a * 2 ^ 23) d (2 ^ 23) 1 D (lit< tt) (omega arith)

  digits : size ((a + d) * 2 ^ 149 / d) ≡ 150
  digits =
      let twice : a + d < 2 * d = omega arith in
      size_is ((a + d) * 2 ^ 149 / d) 149 (unit_low (a + d) d D (omega arith))
      ((div-lt_iff_lt-mul D).1 (lt_of_lt_of_le (mul-lt-mul_of_pos_right twice (pow_pos 149)) (le_of_eq (mul_right_comm 2 d (2 ^ 149)))))

  rounded : round binary32 false (a + d) d ≡ units binary32 false (closest (a * 2 ^ 23) d + 2 ^ 23) 126
  rounded =
      let n = (a + d) * 2 ^ 149 in
      round_is binary32 false (a + d) d
      ∙ ap (λ (k : ℕ). core binary32 false n d (k - 24)) digits
      ∙ ap (λ (q : ℕ). units binary32 false q 126)
      (closest_same n (d * 2 ^ 126) (a * 2 ^ 23 + 2 ^ 23 * d) d (mul-pos D (pow_pos 126)) D (scaled a d (2 ^ 23) (2 ^ 126))
      ∙ closest_more (a * 2 ^ 23) d (2 ^ 22) D)

  pub sum_pattern : to_bits binary32 (round binary32 false (a + d) d) ≡ 0x3f80_0000 + closest (a * 2 ^ 23) d
  sum_pattern =
      let c = closest (a * 2 ^ 23) d in
      let q = c + 2 ^ 23 in
      let small : q ≤ 2 ^ 24 = omega (arith, nearest-le) in
      ap (to_bits binary32) rounded
      ∙ pattern (units binary32 false q 126) q (units_val binary32 false q 126 (lt_of_le_of_lt (mul-le-mul_right (2 ^ 126) small) (lit< tt))) (omega arith) small
      ∙ omega arith
