-- The table of powers of ten: a test at every row that antt computes. Assumes nothing.
use mathlib.Core.Path.{◌≡◌, refl, subst}
use mathlib.Core.Bool.{Bool, true, false}
use mathlib.Core.List.{List, [], ◌∷◌}
use Prim.Native.Nat.{ℕ, zero, suc, ◌*◌, ◌^◌, ◌<◌, ◌≤◌}
use native.Mathlib.Decide.{dec_lt}
use native.Mathlib.Nat.{not-suc-le-zero}
use native.Mathlib.Omega.{arith}
use lib.Dec.{T, eqb, eqb→eq}
use lib.ListN.{get_or}
use lib.Ieee.{Float, nan, inf, fin, binary32, of_bits, up, down}
use lib.Ieee.Exact.{HasValue}

abbrev both : Bool → Bool → Bool
both true b = b
both false b = false

both_left : (a b : Bool) → T (both a b) → T a
both_left true b t = tt
both_left false b t = t

both_right : (a b : Bool) → T (both a b) → T b
both_right true b t = t
both_right false b t = absurd t

-- a test that passes at each number below n
abbrev pub every : (ℕ → Bool) → ℕ → Bool
every f zero = true
every f (suc n) = both (f n) (every f n)

pub every_at : (f : ℕ → Bool) (n : ℕ) → T (every f n) → (k : ℕ) → k < n → T (f k)
every_at f zero t k h = absurd (not-suc-le-zero h)
every_at f (suc n) t k h = pick (dec_lt k n) (every_at f n (both_right (f n) (every f n) t) k)
  where
    pick : Dec (k < n) → (k < n → T (f k)) → T (f k)
    pick (yes l) earlier = earlier l
    pick (no g) earlier =
        let e : n ≡ k = omega arith in
        subst (λ (j : ℕ). T (f j)) e (both_left (f n) (every f n) t)

-- a float is the whole number n
abbrev pub whole : Float → ℕ → Bool
whole nan n = false
whole (inf s) n = false
whole (fin true m e) n = false
whole (fin false m e) n = eqb (m * up e * 1) (n * down e)

pub whole_value : (x : Float) (n : ℕ) → T (whole x n) → HasValue x false n 1
whole_value nan n t = absurd t
whole_value (inf s) n t = absurd t
whole_value (fin true m e) n t = absurd t
whole_value (fin false m e) n t = (refl, eqb→eq (m * up e * 1) (n * down e) t)

-- the rows of the table `POWERS`: each power as a whole number and as a float, by its bits
unfoldable pub powers : List (ℕ × Float)
powers =
    (1, of_bits binary32 1065353216)
    ∷ (10, of_bits binary32 1092616192)
    ∷ (100, of_bits binary32 1120403456)
    ∷ (1000, of_bits binary32 1148846080)
    ∷ (10000, of_bits binary32 1176256512)
    ∷ (100000, of_bits binary32 1203982336)
    ∷ (1000000, of_bits binary32 1232348160)
    ∷ (10000000, of_bits binary32 1259902592)
    ∷ (100000000, of_bits binary32 1287568416)
    ∷ (1000000000, of_bits binary32 1315859240)
    ∷ (10000000000, of_bits binary32 1343554297)
    ∷ []

right : ℕ → Bool
right k = both (eqb (get_or powers k (0, nan)).0 (10 ^ k)) (whole (get_or powers k (0, nan)).1 (10 ^ k))

pub row_at : (k : ℕ) → k ≤ 10 → ((get_or powers k (0, nan)).0 ≡ 10 ^ k) × HasValue (get_or powers k (0, nan)).1 false (10 ^ k) 1
unfolding powers right of_bits
row_at k h =
    let row = every_at right 11 tt k (omega arith) in
    (eqb→eq _ _ (both_left _ _ row), whole_value _ _ (both_right _ _ row))
