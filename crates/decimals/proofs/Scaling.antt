-- A whole number over another, both held exactly, is one rounding of the exact result. Assumes nothing.
use mathlib.Core.Path.{◌≡◌, sym, ap, ◌∙◌}
use mathlib.Core.Bool.{Bool, false, cond}
use Prim.Native.Nat.{ℕ, zero, suc, ◌*◌, ◌^◌, ◌<◌}
use native.Mathlib.Nat.{mul_assoc, mul_comm, mul-one, mul-pos, zero-lt-suc, le_of_lt, one-le-pow}
use native.Mathlib.Omega.{arith}
use borrow.Author.Tests.{ne_eqb}
use lib.Dec.{eqb}
use lib.IntN.{pos}
use lib.Ieee.{Float, nan, inf, fin, binary32, up, down, unlike, round, div, of_int}
use lib.Ieee.Fits.{up_pos, down_pos}
use lib.Ieee.Exact.{HasValue}
use lib.Ieee.Back.{round_whole}
use lib.Ieee.Scale.{round_same}
use Rattle.decimals.specs.Decimal.{over}

-- the exact fractions, each side a product of four
cross_over : (a b n k du dd : ℕ) → a ≡ n * du → b ≡ k * dd → a * dd * k ≡ n * (b * du)
cross_over a b n k du dd p q = rw (p, q) (mul_assoc (n * du) dd k ∙ mul_assoc n du (dd * k) ∙ ap (λ (x : ℕ). n * x) (mul_comm du (dd * k) ∙ ap (λ (x : ℕ). x * du) (mul_comm dd k)))

over_at : (x y : Float) (n k : ℕ) → 0 < k → HasValue x false n 1 → HasValue y false k 1 → div binary32 x y ≡ round binary32 false n k
unfolding div
over_at nan y n k h v w = absurd v
over_at (inf s) y n k h v w = absurd v
over_at (fin s m e) nan n k h v w = absurd w
over_at (fin s m e) (inf t) n k h v w = absurd w
over_at (fin s m e) (fin t zero d) n k h v w = absurd (omega (arith, w.1, mul-pos h (down_pos d)))
over_at (fin s m e) (fin t (suc p) d) n k h v w =
    ap (λ (b : Bool). cond b (cond (eqb m 0) nan (inf (unlike s t))) (round binary32 (unlike s t) (m * up e * down d) (suc p * up d * down e))) (ne_eqb (suc p) 0 (λ z. omega arith))
    ∙ ap (λ (r : Bool). round binary32 (unlike r t) (m * up e * down d) (suc p * up d * down e)) v.0
    ∙ ap (λ (r : Bool). round binary32 (unlike false r) (m * up e * down d) (suc p * up d * down e)) w.0
    ∙ round_same binary32 false (m * up e * down d) (suc p * up d * down e) n k (mul-pos (mul-pos (zero-lt-suc p) (up_pos d)) (down_pos e)) h
    (cross_over (m * up e) (suc p * up d) n k (down e) (down d) (sym (mul-one _) ∙ v.1) (sym (mul-one _) ∙ w.1))

digits_value : (n : ℕ) → n < 2 ^ 24 → HasValue (of_int binary32 (pos n)) false n 1
unfolding of_int
digits_value n h = round_whole binary32 false n (le_of_lt h)

pub tens_pos : (k : ℕ) → 0 < 10 ^ k
tens_pos k = omega (arith, one-le-pow k 10 (omega arith))

-- digits over a power of ten
pub quotient_at : (d k : ℕ) (tens : Float) → d < 2 ^ 24 → HasValue tens false (10 ^ k) 1 → div binary32 (of_int binary32 (pos d)) tens ≡ over d k
unfolding over
quotient_at d k tens h v = over_at (of_int binary32 (pos d)) tens d (10 ^ k) (tens_pos k) (digits_value d h) v
