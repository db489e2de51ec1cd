-- Floats from 0 to a whole number: rounding keeps them there, and so does the floor. Assumes nothing.
use mathlib.Core.Path.{◌≡◌, refl, sym, ap, ◌∙◌, subst}
use mathlib.Core.Bool.{Bool, true, false, ◌&&◌, ◌||◌, true≢false, false≢true}
use Prim.Native.Nat.{ℕ, ◌+◌, ◌*◌, ◌/◌, ◌^◌, ◌≤◌, ◌<◌}
use native.Mathlib.Nat.{le_trans, le_of_eq, le_of_lt, zero-lt-suc, zero-mul, mul-one, mul_comm, mul_assoc, mul_right_comm, mul-pos, mul-le-mul_right, le_of_mul-le-mul_right, div-le_of_le-mul, eq_of_mul-eq-mul_right}
use native.Mathlib.Omega.{arith}
use lib.IntN.{ℤ}
use lib.Dec.{T, ltb, eqb, ltb→lt, lt→ltb, eqb→eq, lit<}
use lib.Ieee.{Float, nan, inf, fin, binary32, up, down, unlike, round, div, le}
use lib.Ieee.Fits.{up_pos, down_pos, and_i, and_l, and_r, eq→eqb}
use lib.Ieee.Exact.{HasValue, round_exact}
use lib.Ieee.Back.{round_whole}
use lib.Ieee.Order.{round_mono, le_of_values}
use lib.Ieee.Nearest.{div_same}
use Rattle.values.specs.Floors.{whole, zero_f, within, Upto, floor_of}

-- ---- from the two tests

pub or-le : (a b : ℕ) (t : Bool) → T (ltb a b || (eqb a b && t)) → a ≤ b
or-le a b t h = go (ltb a b) (eqb a b) (ltb→lt a b) (eqb→eq a b) h
  where
    go : (x y : Bool) → (T x → a < b) → (T y → a ≡ b) → T (x || (y && t)) → a ≤ b
    go true y p q h = le_of_lt (p tt)
    go false true p q h = le_of_eq (q tt)
    go false false p q h = absurd h

pub no_product : (m u : ℕ) → 0 < u → m * u ≡ 0 → m ≡ 0
no_product m u p e = eq_of_mul-eq-mul_right u p m 0 (e ∙ sym (zero-mul u))

pub not-below : (m : ℕ) (e : ℤ) → T (le zero_f (fin true m e)) → m ≡ 0
unfolding le
not-below m e h =
    no_product m (up e) (up_pos e)
    (sym (mul-one (m * up e)) ∙ sym (eqb→eq (0 * down e) (m * up e * 1) (and_l (eqb (0 * down e) (m * up e * 1)) (eqb (0 * down e) 0) h)) ∙ zero-mul (down e))

pub nothing-le : (u k : ℕ) → 0 * u ≤ k
nothing-le u k = omega arith

-- a zero with a sign lies from 0 to n
pub minus_zero_upto : (n m : ℕ) (e : ℤ) → m ≡ 0 → Upto n (fin true m e)
minus_zero_upto n m e z = (subst (λ (k : ℕ). k * up e ≤ n * down e) (sym z) (nothing-le (up e) (n * down e)), λ _. z)

pub between : (y z : Float) (n : ℕ) → HasValue z false n 1 → T (le zero_f y) → T (le y z) → Upto n y
unfolding le
between nan z n v p q = absurd p
between (inf true) z n v p q = absurd p
between (inf false) nan n v p q = absurd q
between (inf false) (inf t) n v p q = absurd v
between (inf false) (fin t k d) n v p q = absurd q
between (fin true m e) z n v p q = minus_zero_upto n m e (not-below m e p)
between (fin false m e) nan n v p q = absurd q
between (fin false m e) (inf t) n v p q = absurd v
between (fin false m e) (fin true k d) n v p q = absurd (true≢false v.0)
between (fin false m e) (fin false k d) n v p q =
    let l : m * up e * down d ≤ k * up d * down e = or-le _ _ _ q in
    (le_of_mul-le-mul_right {k = down d} (le_trans l (le_of_eq (ap (λ (x : ℕ). x * down e) (sym (mul-one (k * up d)) ∙ v.1) ∙ mul_right_comm n (down d) (down e)))) (down_pos d), λ s. absurd (false≢true s))

pub within-upto : (k j : ℕ) (x : Float) → T (within (whole k j) x) → Upto (k * 2 ^ j) x
unfolding within
within-upto k j x h = between x (whole k j) (k * 2 ^ j) (refl, refl) (and_l (le zero_f x) (le x (whole k j)) h) (and_r (le zero_f x) (le x (whole k j)) h)

-- ---- and back to them

below_or_same : (a b : ℕ) → a ≡ 0 → T (ltb 0 (a + b) || (eqb a b && eqb a 0))
below_or_same a b z = go (ltb 0 (a + b)) (lt→ltb 0 (a + b))
  where
    go : (x : Bool) → (0 < a + b → T x) → T (x || (eqb a b && eqb a 0))
    go true p = tt
    go false p =
        let e : a ≡ b = omega arith in and_i (eqb a b) (eqb a 0) (eq→eqb e) (eq→eqb z)

nothing : (m : ℕ) (e : ℤ) → m ≡ 0 → m * up e * 1 ≡ 0
nothing m e z = ap (λ (n : ℕ). n * up e * 1) z ∙ simp zero-mul

-- what has no sign, and a zero that has one, is not below zero
pub plain_not_below : (m : ℕ) (e : ℤ) → T (le zero_f (fin false m e))
plain_not_below m e =
    le_of_values zero_f (fin false m e) 0 1 (m * up e) (down e) (zero-lt-suc 0) (down_pos e) (refl, refl) (refl, refl) (nothing-le (down e) (m * up e * 1))

pub zero_not_below : (m : ℕ) (e : ℤ) → m ≡ 0 → T (le zero_f (fin true m e))
unfolding le
zero_not_below m e z =
    and_i (eqb (0 * down e) (m * up e * 1)) (eqb (0 * down e) 0) (eq→eqb (zero-mul (down e) ∙ sym (nothing m e z))) (eq→eqb (zero-mul (down e)))

pub upto-within : (k j : ℕ) (x : Float) → Upto (k * 2 ^ j) x → T (within (whole k j) x)
unfolding within
upto-within k j nan u = absurd u
upto-within k j (inf s) u = absurd u
upto-within k j (fin true m e) u =
    and_i (le zero_f (fin true m e)) (le (fin true m e) (whole k j)) (zero_not_below m e (u.1 refl))
    (unfold le in below_or_same (m * up e * 1) (k * 2 ^ j * down e) (nothing m e (u.1 refl)))
upto-within k j (fin false m e) u =
    and_i (le zero_f (fin false m e)) (le (fin false m e) (whole k j)) (plain_not_below m e)
    (le_of_values (fin false m e) (whole k j) (m * up e) (down e) (k * 2 ^ j) 1 (down_pos e) (zero-lt-suc 0) (refl, refl) (refl, refl) (le_trans (le_of_eq (mul-one (m * up e))) u.0))

-- ---- from a value

pub value_upto : (y : Float) (s : Bool) (a c n : ℕ) → 0 < c → HasValue y s a c → a ≤ n * c → (s ≡ true → a ≡ 0) → Upto n y
value_upto nan s a c n C v h z = absurd v
value_upto (inf t) s a c n C v h z = absurd v
value_upto (fin t m e) s a c n C v h z = (
  le_of_mul-le-mul_right {k = c}
      (le_trans (le_of_eq v.1) (le_trans (mul-le-mul_right (down e) h) (le_of_eq (mul_right_comm n c (down e))))) C,
  λ r.
      no_product m (up e) (up_pos e)
      (no_product (m * up e) c C (v.1 ∙ ap (λ (k : ℕ). k * down e) (z (sym v.0 ∙ r)) ∙ zero-mul (down e))),
)

pub value_floor : (y : Float) (s : Bool) (a c : ℕ) → 0 < c → HasValue y s a c → floor_of y ≡ a / c
unfolding floor_of
value_floor nan s a c C v = absurd v
value_floor (inf t) s a c C v = absurd v
value_floor (fin t m e) s a c C v = div_same (m * up e) (down e) a c (down_pos e) C v.1

pub upto-more : (n k : ℕ) (x : Float) → n ≤ k → Upto n x → Upto k x
upto-more n k nan h u = u
upto-more n k (inf s) h u = u
upto-more n k (fin s m e) h u = (le_trans u.0 (mul-le-mul_right (down e) h), u.1)

-- ---- rounding

pub zero-round : round binary32 false 0 1 ≡ zero_f
unfolding round
zero-round = refl

minus_zero : (c : ℕ) → 0 < c → HasValue (round binary32 true 0 c) true 0 c
minus_zero c C = round_exact binary32 true 0 c 0 0 C (lit< tt) (lit< tt) (sym (zero-mul c))

pub round-upto : (s : Bool) (a c n : ℕ) → 0 < c → n ≤ 2 ^ 24 → a ≤ n * c → (s ≡ true → a ≡ 0) → Upto n (round binary32 s a c)
round-upto false a c n C N h z =
    between (round binary32 false a c) (round binary32 false n 1) n (round_whole binary32 false n N)
    (subst (λ (x : Float). T (le x (round binary32 false a c))) zero-round
    (round_mono binary32 0 1 a c (zero-lt-suc 0) C (nothing-le c (a * 1))))
    (round_mono binary32 a c n 1 C (zero-lt-suc 0) (le_trans (le_of_eq (mul-one a)) h))
round-upto true a c n C N h z =
    subst (λ (k : ℕ). Upto n (round binary32 true k c)) (sym (z refl))
    (value_upto (round binary32 true 0 c) true 0 c n C (minus_zero c C) (nothing-le 1 (n * c)) (λ _. refl))

-- ---- a quotient by a whole number

pub plain_sign : (s : Bool) → unlike s false ≡ s
plain_sign true = refl
plain_sign false = refl

pub no_size : (s : Bool) (m u k : ℕ) → (s ≡ true → m ≡ 0) → s ≡ true → m * u * k ≡ 0
no_size s m u k z t = ap (λ (n : ℕ). n * u * k) (z t) ∙ simp zero-mul

pub quotient_upto : (k j n : ℕ) (x : Float) → 0 < k * 2 ^ j → eqb k 0 ≡ false → n ≤ 2 ^ 24 → Upto (n * (k * 2 ^ j)) x → Upto n (div binary32 x (whole k j))
unfolding div
quotient_upto k j n nan K b N u = absurd u
quotient_upto k j n (inf s) K b N u = absurd u
quotient_upto k j n (fin s m e) K b N u =
    rw (b, plain_sign s)
    (round-upto s (m * up e * 1) (k * 2 ^ j * down e) n (mul-pos K (down_pos e)) N
    (le_trans (le_of_eq (mul-one (m * up e))) (le_trans u.0 (le_of_eq (mul_assoc n (k * 2 ^ j) (down e)))))
    (no_size s m (up e) 1 u.1))

-- ---- the floor

pub quotient_le : (a d n : ℕ) → a ≤ n * d → a / d ≤ n
quotient_le a d n h = div-le_of_le-mul d (le_trans h (le_of_eq (mul_comm n d)))

pub floor-le : (y : Float) (n : ℕ) → Upto n y → floor_of y ≤ n
unfolding floor_of
floor-le nan n u = absurd u
floor-le (inf s) n u = absurd u
floor-le (fin s m e) n u = quotient_le (m * up e) (down e) n u.0
