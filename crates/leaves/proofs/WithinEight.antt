-- The sine's accuracy, at every u: the value lies within 8 of 2^23 times whatever the series allow as the sine. Assumes nothing.
use mathlib.Core.Path.{◌≡◌, refl, ap, ◌∙◌}
use mathlib.Core.Bool.{Bool, true, false, cond}
use Prim.Native.Nat.{ℕ, zero, suc, ◌+◌, ◌-◌, ◌*◌, ◌%◌, ◌^◌, ◌≤◌, ◌<◌}
use native.Mathlib.Nat.{zero-mul, mul-zero, add-mul, mul_assoc, mul_comm, mul-le-mul_right, le_of_mul-le-mul_right}
use native.Mathlib.Omega.{arith}
use borrow.Author.Tests.{ltb-true}
use lib.Dec.{ltb, eqb, lit<}
use lib.IntN.{ℤ, pos, negsuc, neg_ℤ, nat_abs, sub_ℕ, ◌-ℤ◌, ◌*ℤ◌, ◌+ℤ◌, neg_ℤ-neg_ℤ, +ℤ_comm}
use Rattle.leaves.specs.Sine.{quarter_of, quadrant, folded, signed, sine_of}
use Rattle.leaves.specs.Series.{factorial, low, low_over, high, high_over, SameSine, first_quarter, second_quarter, third_quarter, fourth_quarter, WithinEight}
use Rattle.leaves.proofs.Quotient.{folded-le}
use Rattle.leaves.proofs.Accuracy.{near_low, near_high}
use Rattle.leaves.proofs.Order.{in_order}

-- ---- the angle of the first quarter turn

same_sine : (u : ℕ) → SameSine u (folded u) (ltb 1 (quadrant u))
same_sine u = go (quadrant u) refl
  where
    go : (q : ℕ) → quadrant u ≡ q → SameSine u (cond (eqb (q % 2) 1) (2 ^ 22 - u % 2 ^ 22) (u % 2 ^ 22)) (ltb 1 q)
    go zero e = first_quarter (omega arith)
    go (suc zero) e = second_quarter (omega arith)
    go (suc (suc zero)) e = third_quarter (omega arith)
    go (suc (suc (suc zero))) e = fourth_quarter (omega arith)
    go (suc (suc (suc (suc q)))) e = absurd (omega arith)

-- ---- how far two fractions are apart

-- from an end b / l of the bracket to a number x / o in it
upper : (v l b x o : ℕ) → 0 < l → v * l ≤ 2 ^ 23 * b + 8 * l → b * o ≤ x * l → v * o ≤ 2 ^ 23 * x + 8 * o
upper v l b x o L near end =
    let c : v * (l * o) ≤ 2 ^ 23 * (b * o) + 8 * (l * o) = simp (add-mul, mul_assoc) at (mul-le-mul_right o near) in
    let d : v * o * l ≡ v * (l * o) = mul_assoc v o l ∙ ap (λ (y : ℕ). v * y) (mul_comm o l) in
    let e : (2 ^ 23 * x + 8 * o) * l ≡ 2 ^ 23 * (x * l) + 8 * (o * l) = add-mul (2 ^ 23 * x) (8 * o) l ∙ simp mul_assoc in
    let f : o * l ≡ l * o = mul_comm o l in
    le_of_mul-le-mul_right {k = l} (omega arith) L

lower : (v l b x o : ℕ) → 0 < l → 2 ^ 23 * b ≤ (v + 8) * l → x * l ≤ b * o → 2 ^ 23 * x ≤ (v + 8) * o
lower v l b x o L near end =
    let c : 2 ^ 23 * (b * o) ≤ (v + 8) * (l * o) = simp mul_assoc at (mul-le-mul_right o near) in
    let d : 2 ^ 23 * x * l ≡ 2 ^ 23 * (x * l) = mul_assoc (2 ^ 23) x l in
    let e : (v + 8) * o * l ≡ (v + 8) * (l * o) = mul_assoc (v + 8) o l ∙ ap (λ (y : ℕ). (v + 8) * y) (mul_comm o l) in
    le_of_mul-le-mul_right {k = l} (omega arith) L

-- a difference, as a size
sub_size : (a b e : ℕ) → a ≤ b + e → b ≤ a + e → nat_abs (sub_ℕ a b) ≤ e
sub_size a b e h k = go (ltb a b) refl
  where
    go : (r : Bool) → ltb a b ≡ r → nat_abs (cond r (negsuc (b - suc a)) (pos (a - b))) ≤ e
    go true t = omega (arith, ltb-true a b t)
    go false t = omega arith

apart : (a b e : ℕ) → a ≤ b + e → b ≤ a + e → nat_abs (pos a -ℤ pos b) ≤ e
apart a zero e h k = omega arith
apart a (suc b) e h k = sub_size a (suc b) e h k

-- a product with one negated factor
neg_left : (v o : ℕ) → neg_ℤ (pos v) *ℤ pos o ≡ neg_ℤ (pos (v * o))
neg_left zero o = rw zero-mul
neg_left (suc v) o = refl

neg_right : (k x : ℕ) → pos k *ℤ neg_ℤ (pos x) ≡ neg_ℤ (pos (k * x))
neg_right k zero = rw mul-zero
neg_right k (suc x) = refl

signed_apart : (s : Bool) (v x o : ℕ) → v * o ≤ 2 ^ 23 * x + 8 * o → 2 ^ 23 * x ≤ v * o + 8 * o
    → nat_abs (signed s v *ℤ pos o -ℤ pos (2 ^ 23) *ℤ signed s x) ≤ 8 * o
signed_apart false v x o h k = apart (v * o) (2 ^ 23 * x) (8 * o) h k
signed_apart true v x o h k =
    let e : neg_ℤ (pos v) *ℤ pos o -ℤ pos (2 ^ 23) *ℤ neg_ℤ (pos x) ≡ pos (2 ^ 23 * x) -ℤ pos (v * o) =
    (λ i. neg_left v o i -ℤ neg_right (2 ^ 23) x i) ∙ ap (λ (z : ℤ). neg_ℤ (pos (v * o)) +ℤ z) (neg_ℤ-neg_ℤ (pos (2 ^ 23 * x)))
    ∙ +ℤ_comm (neg_ℤ (pos (v * o))) (pos (2 ^ 23 * x)) in
    rw e (apart (2 ^ 23 * x) (v * o) (8 * o) k h)

-- ---- the theorem

low-pos : 0 < low_over
unfolding low_over factorial
low-pos = lit< tt

high-pos : 0 < high_over
unfolding high_over factorial
high-pos = lit< tt

pub within_eight : (u : ℕ) → WithinEight u
unfolding sine_of
within_eight u =
    let t = folded u in
    let v = quarter_of t in
    let small : t ≤ 2 ^ 22 = folded-le u in
    record {
      t = t;
      small = small;
      negative = ltb 1 (quadrant u);
      same_sine = same_sine u;
      in_order = in_order t;
      within = λ x o b.
          let above = upper v low_over (low t) x o low-pos (near_low t small) b.not-below in
          let below = lower v high_over (high t) x o high-pos (near_high t small) b.not_above in
          signed_apart (ltb 1 (quadrant u)) v x o above (rw add-mul at below);
    }
