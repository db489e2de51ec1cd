-- Patterns and floats: which float is the NaN and which patterns are its own, which patterns are finite, and that a pattern comes
-- back from its float. The way from a float to its pattern and back is `of_bits-to_bits` of `lib.Ieee.Bits`. Assumes nothing.
use mathlib.Core.Path.{◌≡◌, refl, sym, ◌∙◌, subst, ap}
use mathlib.Core.Bool.{Bool, true, false, not, cond}
use Prim.Native.Nat.{ℕ, zero, suc, ◌+◌, ◌/◌, ◌%◌, ◌^◌, ◌≤◌, ◌<◌}
use native.Mathlib.Omega.{arith}
use lib.Dec.{T, leb, ltb, eqb}
use lib.Ieee.{Float, nan, inf, fin, binary32, odd, is_nan, nan_bits, fits, of_fields, of_bits, to_bits, ne}
use lib.Ieee.Bits.{nan_bits_is, nan_bits_above, is_false, of_bits-to_bits, to_bits-of_bits, to_bits-lt}
use lib.Ieee.Compare.{nan_differs, differs_from_itself}
use borrow.Author.Tests.{lt-ltb, le-ltb, eqb-true, eqb-false}
use Rattle.values.specs.Floors.{finite_f}
use Rattle.values.specs.Floats.{finite_bits}

is_nan_lem : (x : Float) → is_nan x ≡ true → x ≡ nan
unfolding is_nan
is_nan_lem nan e = refl
is_nan_lem (inf s) e = cc
is_nan_lem (fin s m k) e = cc

-- a pattern above the infinity's, but for its sign, is the NaN
pub above_inf : (n : ℕ) → 0x7f80_0000 < n % 0x8000_0000 → of_bits binary32 n ≡ nan
above_inf n h = is_nan_lem (of_bits binary32 n) (sym (nan_bits_is binary32 n) ∙ nan_bits_above binary32 n ∙ lt-ltb _ _ h)

-- any other pattern is not
pub up_to_inf : (n : ℕ) → n % 0x8000_0000 ≤ 0x7f80_0000 → T (not (nan_bits binary32 n))
up_to_inf n h = subst (λ (b : Bool). T (not b)) (sym (nan_bits_above binary32 n ∙ le-ltb _ _ h)) tt

-- what equals itself is no NaN
pub same_not_nan : (x : Float) → ne x x ≡ false → T (not (is_nan x))
unfolding is_nan
same_not_nan nan e = subst T (sym nan_differs ∙ e) tt
same_not_nan (inf s) e = tt
same_not_nan (fin s m k) e = tt

-- the NaN, and nothing else, differs from itself
pub nan_test : (x : Float) → ne x x ≡ true → is_nan x ≡ true
unfolding is_nan
nan_test x e = ap is_nan (differs_from_itself x (subst T (sym e) tt))

pub no_nan_test : (x : Float) → ne x x ≡ false → is_nan x ≡ false
no_nan_test x e = is_false (is_nan x) (same_not_nan x e)

-- ---- a pattern, read and written

-- what is no NaN's comes back
pub pattern_back : (w : ℕ) → w < 2 ^ 32 → w % 0x8000_0000 ≤ 0x7f80_0000 → to_bits binary32 (of_bits binary32 w) ≡ w
pattern_back w h g = to_bits-of_bits binary32 w h (subst (λ (b : Bool). T (not b)) (nan_bits_is binary32 w) (up_to_inf w g))

-- and a NaN's comes back as 7FC00000
pub pattern_nan : (w : ℕ) → 0x7f80_0000 < w % 0x8000_0000 → to_bits binary32 (of_bits binary32 w) ≡ 0x7fc0_0000
unfolding to_bits
pattern_nan w h = ap (to_bits binary32) (above_inf w h)

pub pattern_lt : (x : Float) → T (fits binary32 x) → to_bits binary32 x < 2 ^ 32
pattern_lt x f = to_bits-lt binary32 x f

-- ---- the finite floats

odd_finite : (d : ℕ) (s : Bool) (q k l : ℕ) → finite_f (odd d s q k l) ≡ true
unfolding odd
odd_finite d s zero k l = refl
odd_finite d s (suc q) k l = refl

-- only the exponent's highest field has no finite float
fields_finite : (s : Bool) (x t : ℕ) → finite_f (of_fields binary32 s x t) ≡ not (eqb x 255)
unfolding of_fields
fields_finite s zero t = odd_finite 24 s t 0 149
fields_finite s (suc x) t = go (eqb (suc x) 255) (eqb t 0)
  where
    go : (a b : Bool) → finite_f (cond a (cond b (inf s) nan) (odd 24 s (2 ^ 23 + t) x 149)) ≡ not a
    go true true = refl
    go true false = refl
    go false b = odd_finite 24 s (2 ^ 23 + t) x 149

field_below : (w : ℕ) → not (eqb (w % 0x8000_0000 / 2 ^ 23) 255) ≡ ltb (w % 0x8000_0000) 0x7f80_0000
field_below w = go (eqb (w % 0x8000_0000 / 2 ^ 23) 255) refl
  where
    go : (b : Bool) → eqb (w % 0x8000_0000 / 2 ^ 23) 255 ≡ b → not b ≡ ltb (w % 0x8000_0000) 0x7f80_0000
    go true e = sym (le-ltb (w % 0x8000_0000) 0x7f80_0000 (omega (arith, eqb-true (w % 0x8000_0000 / 2 ^ 23) 255 e)))
    go false e = sym (lt-ltb (w % 0x8000_0000) 0x7f80_0000 (omega (arith, eqb-false (w % 0x8000_0000 / 2 ^ 23) 255 e)))

-- a pattern's float is finite where the pattern is below infinity's, the sign's bit aside
pub finite_pattern : (w : ℕ) → finite_f (of_bits binary32 w) ≡ ltb (w % 0x8000_0000) 0x7f80_0000
unfolding of_bits
finite_pattern w = fields_finite (leb 0x8000_0000 w) (w % 0x8000_0000 / 2 ^ 23) (w % 2 ^ 23) ∙ field_below w

-- a float's pattern is finite where the float is
pub pattern_finite : (x : Float) → T (fits binary32 x) → finite_bits (to_bits binary32 x) ≡ finite_f x
pattern_finite x f = ap finite_f (of_bits-to_bits binary32 x f)

pub finite_float : (x : Float) → T (fits binary32 x) → finite_f x ≡ ltb (to_bits binary32 x % 0x8000_0000) 0x7f80_0000
finite_float x f = sym (pattern_finite x f) ∙ finite_pattern (to_bits binary32 x)
