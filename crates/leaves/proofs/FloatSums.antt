-- Sums of floats that are not below zero, and differences that are not: what bounds them before rounding bounds them after it. Assumes nothing.
use mathlib.Core.Path.{◌≡◌, refl, ap, ◌∙◌}
use mathlib.Core.Bool.{Bool, true, false, cond, false≢true}
use Prim.Native.Nat.{ℕ, ◌+◌, ◌-◌, ◌*◌, ◌^◌, ◌≤◌, ◌<◌}
use native.Mathlib.Nat.{le_trans, le_of_eq, add-mul, mul_assoc, mul_comm, mul-le-mul_right, mul-pos}
use native.Mathlib.Omega.{arith}
use lib.Dec.{ltb}
use lib.Ieee.{Float, nan, inf, fin, binary32, up, down, round, sum, add}
use lib.Ieee.Fits.{down_pos}
use Rattle.values.specs.Floors.{Upto}
use Rattle.values.proofs.Floors.{no_size, round-upto}

-- ---- a / c and b / c of unlike signs: the rounded difference, by a test for the smaller

-- -a / c + b / c, where a is not above b
pub smaller_first : (t s : Bool) (a b c n : ℕ) → 0 < c → n ≤ 2 ^ 24 → a ≤ b → b ≤ n * c → Upto n (cond t (round binary32 false (b - a) c) (round binary32 s (a - b) c))
smaller_first true s a b c n C N h k = round-upto false (b - a) c n C N (omega arith) (λ s. absurd (false≢true s))
smaller_first false s a b c n C N h k =
    let z : a - b ≡ 0 = omega arith in round-upto s (a - b) c n C N (omega arith) (λ _. z)

-- a / c - b / c, where b is not above a
pub larger_first : (t : Bool) (a b c n : ℕ) → 0 < c → n ≤ 2 ^ 24 → b ≤ a → a - b ≤ n * c → Upto n (cond t (round binary32 true (b - a) c) (round binary32 false (a - b) c))
larger_first true a b c n C N h k =
    let z : b - a ≡ 0 = omega arith in round-upto true (b - a) c n C N (omega arith) (λ _. z)
larger_first false a b c n C N h k = round-upto false (a - b) c n C N k (λ s. absurd (false≢true s))

-- ---- a sum

-- a / c, which is at most k, and b / c, which is at most n: a sign stands only before a zero
sum_of : (s t : Bool) (a b c k n : ℕ) → 0 < c → k + n ≤ 2 ^ 24 → a ≤ k * c → b ≤ n * c → (s ≡ true → a ≡ 0) → (t ≡ true → b ≡ 0) → Upto (k + n) (sum binary32 s a t b c)
unfolding sum
sum_of false false a b c k n C N p q y z = round-upto false (a + b) c (k + n) C N (omega (arith, add-mul k n c)) (λ s. absurd (false≢true s))
sum_of true true a b c k n C N p q y z =
    let e : a ≡ 0 = y refl in
    let g : b ≡ 0 = z refl in
    let none : a + b ≡ 0 = omega arith in
    round-upto true (a + b) c (k + n) C N (omega (arith, add-mul k n c)) (λ _. none)
sum_of true false a b c k n C N p q y z =
    let e : a ≡ 0 = y refl in
    smaller_first (ltb a b) (ltb b a) a b c (k + n) C N (omega arith) (omega (arith, add-mul k n c))
sum_of false true a b c k n C N p q y z =
    let e : b ≡ 0 = z refl in
    larger_first (ltb a b) a b c (k + n) C N (omega arith) (omega (arith, add-mul k n c))

pub sum-upto : (k n : ℕ) (x y : Float) → k + n ≤ 2 ^ 24 → Upto k x → Upto n y → Upto (k + n) (add binary32 x y)
unfolding add
sum-upto k n nan y N u v = absurd u
sum-upto k n (inf s) y N u v = absurd u
sum-upto k n (fin s m e) nan N u v = absurd v
sum-upto k n (fin s m e) (inf t) N u v = absurd v
sum-upto k n (fin s m e) (fin t l d) N u v =
    sum_of s t (m * up e * down d) (l * up d * down e) (down e * down d) k n (mul-pos (down_pos e) (down_pos d)) N
    (le_trans (mul-le-mul_right (down d) u.0) (le_of_eq (mul_assoc k (down e) (down d))))
    (le_trans (mul-le-mul_right (down e) v.0) (le_of_eq (mul_assoc n (down d) (down e) ∙ ap (λ (c : ℕ). n * c) (mul_comm (down d) (down e)))))
    (no_size s m (up e) (down d) u.1) (no_size t l (up d) (down e) v.1)
