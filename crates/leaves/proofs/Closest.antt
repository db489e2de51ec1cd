-- A fraction to the nearest whole number, a tie to the even one, as `closest` of the kit has it.
--     closest_whole    a whole number stays
--     closest_more     an even whole number more, and the result is so much more
--     closest_near     the result is at most a half away, and even at a tie
-- Assumes nothing.
use mathlib.Core.Path.{◌≡◌, ◌∙◌}
use mathlib.Core.Bool.{not}
use Prim.Native.Nat.{ℕ, ◌+◌, ◌*◌, ◌/◌, ◌%◌, ◌≤◌, ◌<◌, compare, Ordering}
use native.Mathlib.Nat.{mul-one, mul-le-mul_right, div-one, mod-one, mod-lt, div-add-mod', add-mul-div_right, add-mul-mod_self_right}
use native.Mathlib.Omega.{arith}
use lib.Dec.{T, is_le, compare_is_eq, leb→le, nleb→lt, eqb→eq, lit<}
use lib.Ieee.{nearest}
use lib.Ieee.Fits.{eq→eqb}
use lib.Ieee.Nearest.{closest, closest_same}

-- ---- whole numbers

pub closest_whole : (n b : ℕ) → 0 < b → closest (n * b) b ≡ n
closest_whole n b B = closest_same (n * b) b n 1 B (lit< tt) (mul-one (n * b)) ∙ rw (div-one, mod-one)

pub closest_more : (a b w : ℕ) → 0 < b → closest (a + 2 * w * b) b ≡ closest a b + 2 * w
closest_more a b w B =
    rw (add-mul-div_right a (2 * w) {z = b} B, add-mul-mod_self_right a (2 * w) b) (go (a / b) (compare (a % b * 2) b))
  where
    go : (q : ℕ) (o : Ordering) → nearest (q + 2 * w) o ≡ nearest q o + 2 * w
    go q Ordering.lt = omega arith
    go q Ordering.eq = omega arith
    go q Ordering.gt = omega arith

-- ---- how near

-- n is at most a half above a / b and at most a half below; where two whole numbers are as near, it is the even one
pub record Near (a b n : ℕ) : Type 0 where
  pub not_above : 2 * n * b ≤ 2 * a + b
  pub not-below : 2 * a ≤ 2 * n * b + b
  pub even : a % b * 2 ≡ b → n % 2 ≡ 0

pub closest_near : (a b : ℕ) → 0 < b → Near a b (closest a b)
closest_near a b B = go (compare (a % b * 2) b) (nleb→lt (a % b * 2) b) (leb→le (a % b * 2) b) (eqb→eq (a % b * 2) b) eq→eqb
  where
    parts : a / b * b + a % b ≡ a
    parts = div-add-mod' a b

    go : (o : Ordering) → (T (not (is_le o)) → b < a % b * 2) → (T (is_le o) → a % b * 2 ≤ b) → (T (compare_is_eq o) → a % b * 2 ≡ b) → (a % b * 2 ≡ b → T (compare_is_eq o)) → Near a b (nearest (a / b) o)
    go Ordering.lt g l e t = record { not_above = omega (arith, parts); not-below = omega (arith, parts, l tt); even = λ h. absurd (t h) }
    go Ordering.eq g l e t =
        let half : a % b * 2 ≡ b = e tt in
        let one : a / b % 2 * b ≤ 1 * b = mul-le-mul_right b (omega arith) in
        record { not_above = omega (arith, parts); not-below = omega (arith, parts); even = λ h. omega arith }
    go Ordering.gt g l e t =
        record { not_above = omega (arith, parts, g tt); not-below = omega (arith, parts, mod-lt a B); even = λ h. absurd (t h) }
