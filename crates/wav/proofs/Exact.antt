-- A whole number of 16 bits over 2^15 is a float with nothing lost: it is a converter's word, whose own law is leaves' `word_exact`. Assumes nothing.
use mathlib.Core.Path.{◌≡◌, refl, ap, ◌∙◌}
use mathlib.Core.Bool.{Bool, true, false, cond, not}
use Prim.Native.Nat.{ℕ, ◌*◌, ◌-◌, ◌^◌, ◌≤◌, ◌<◌}
use native.Mathlib.Nat.{mul_assoc, mul_right_comm, eq_of_mul-eq-mul_right}
use native.Mathlib.Omega.{arith}
use borrow.Author.Tests.{ltb-true, ltb-false, lt-ltb, le-ltb}
use lib.Dec.{ltb, lit<}
use lib.Ieee.{Float, nan, inf, fin, up, down, neg}
use lib.Ieee.Exact.{HasValue}
use Rattle.leaves.specs.Converter.{of_word}
use Rattle.leaves.proofs.WordLaws.{word_exact}

pub negated : (x : Float) (n d : ℕ) → HasValue x false n d → HasValue (neg x) true n d
unfolding neg
negated nan n d v = absurd v
negated (inf s) n d v = absurd v
negated (fin s m e) n d v = (ap not v.0, v.1)

-- the size of a whole number of which half are negative, and whether it is
abbrev pub size_of : ℕ → ℕ → ℕ
size_of half w = cond (ltb w half) w (2 * half - w)

abbrev pub minus : ℕ → ℕ → Bool
minus half w = not (ltb w half)

-- 256 times as much over 2^23 is the number itself over 2^15
finer : (x : Float) (s : Bool) (n : ℕ) → HasValue x s (n * 256) (2 ^ 23) → HasValue x s n (2 ^ 15)
finer nan s n v = v
finer (inf t) s n v = v
finer (fin t m e) s n v = (
  v.0,
  eq_of_mul-eq-mul_right 256 (lit< tt) (m * up e * 2 ^ 15) (n * down e) (mul_assoc (m * up e) (2 ^ 15) 256 ∙ v.1 ∙ mul_right_comm n 256 (down e)),
)

pub sixteen_exact : (w : ℕ) → w < 2 ^ 16 → HasValue (of_word (w * 256)) (minus (2 ^ 15) w) (size_of (2 ^ 15) w) (2 ^ 15)
sixteen_exact w h = finer (of_word (w * 256)) (minus (2 ^ 15) w) (size_of (2 ^ 15) w) (go (ltb w (2 ^ 15)) refl)
  where
    exact : HasValue (of_word (w * 256)) (minus (2 ^ 23) (w * 256)) (size_of (2 ^ 23) (w * 256)) (2 ^ 23)
    exact = word_exact (w * 256) (omega arith)

    go : (b : Bool) → ltb w (2 ^ 15) ≡ b → HasValue (of_word (w * 256)) (not b) (cond b w (2 ^ 16 - w) * 256) (2 ^ 23)
    go true e = rw (lt-ltb (w * 256) (2 ^ 23) (omega (arith, ltb-true w (2 ^ 15) e))) at exact
    go false e =
        let high : 2 ^ 23 ≤ w * 256 = omega (arith, ltb-false w (2 ^ 15) e) in
        let size : 2 ^ 24 - w * 256 ≡ (2 ^ 16 - w) * 256 = omega arith in
        rw (le-ltb (w * 256) (2 ^ 23) high, size) at exact
