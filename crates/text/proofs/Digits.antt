-- Numbers in decimal: a number's text is that of its tenth, and its last digit; more digits than it needs change nothing. Assumes nothing.
use mathlib.Core.Path.{◌≡◌, refl, ap, ◌∙◌}
use Prim.Native.Nat.{ℕ, zero, suc, ◌+◌, ◌*◌, ◌/◌, ◌%◌, ◌<◌, ◌≤◌}
use native.Mathlib.Decide.{dec_lt}
use native.Mathlib.Omega.{arith}
use mathlib.Core.Bool.{Bool, true, false, cond}
use mathlib.Core.List.{List, [], ◌∷◌, ◌++◌}
use borrow.Author.Tests.{lt-ltb, le-ltb, ltb-false}
use lib.Dec.{ltb}
use lib.ListN.{length, length-append}
use Rattle.text.specs.Written.{digits, number}

-- ten times ten, so many times
abbrev tens : ℕ → ℕ
tens zero = 1
tens (suc d) = 10 * tens d

digits_more : (d n : ℕ) → n < tens (suc d) → digits (suc d) n ≡ digits (suc (suc d)) n
digits_more zero n h = pick (ltb n 10) refl
  where
    pick : (b : Bool) → ltb n 10 ≡ b → cond b ((48 + n) ∷ []) (digits zero (n / 10) ++ ((48 + n % 10) ∷ [])) ≡ cond b ((48 + n) ∷ []) (digits (suc zero) (n / 10) ++ ((48 + n % 10) ∷ []))
    pick true e = refl
    pick false e = absurd (omega (arith, ltb-false n 10 e))
digits_more (suc d) n h = pick (ltb n 10) (digits_more d (n / 10) (omega arith))
  where
    pick : (b : Bool) → digits (suc d) (n / 10) ≡ digits (suc (suc d)) (n / 10)
        → cond b ((48 + n) ∷ []) (digits (suc d) (n / 10) ++ ((48 + n % 10) ∷ [])) ≡ cond b ((48 + n) ∷ []) (digits (suc (suc d)) (n / 10) ++ ((48 + n % 10) ∷ []))
    pick true e = refl
    pick false e = ap (λ (l : List ℕ). l ++ ((48 + n % 10) ∷ [])) e

pub number_digit : (n : ℕ) → n < 10 → number n ≡ (48 + n) ∷ []
unfolding number
number_digit n h = ap (λ (b : Bool). cond b ((48 + n) ∷ []) (digits 9 (n / 10) ++ ((48 + n % 10) ∷ []))) (lt-ltb n 10 h)

pub number_more : (n : ℕ) → 10 ≤ n → n < 4294967296 → number n ≡ number (n / 10) ++ ((48 + n % 10) ∷ [])
unfolding number
number_more n h b =
    ap (λ (t : Bool). cond t ((48 + n) ∷ []) (digits 9 (n / 10) ++ ((48 + n % 10) ∷ []))) (le-ltb n 10 h)
    ∙ ap (λ (l : List ℕ). l ++ ((48 + n % 10) ∷ [])) (digits_more 8 (n / 10) (omega arith))

digits_short : (d n : ℕ) → length (digits d n) ≤ d
digits_short zero n = omega arith
digits_short (suc d) n = pick (ltb n 10) (digits_short d (n / 10))
  where
    pick : (b : Bool) → length (digits d (n / 10)) ≤ d → length (cond b ((48 + n) ∷ []) (digits d (n / 10) ++ ((48 + n % 10) ∷ []))) ≤ suc d
    pick true ih = omega arith
    pick false ih = omega (arith, length-append (digits d (n / 10)) ((48 + n % 10) ∷ []))

-- one digit more than the tenth has
pub number-length : (n : ℕ) → 10 ≤ n → n < 4294967296 → length (number n) ≡ length (number (n / 10)) + 1
number-length n h b = ap length (number_more n h b) ∙ length-append (number (n / 10)) ((48 + n % 10) ∷ [])

-- a 32-bit number has at most 10 digits
pub number_short : (n : ℕ) → length (number n) ≤ 10
unfolding number
number_short n = digits_short 10 n

-- one below 10^9 has at most 9
pub number_below : (n : ℕ) → n < 1000000000 → length (number n) ≤ 9
unfolding number
number_below n h = rw (← digits_more 8 n h) (digits_short 9 n)

-- a number below 100 has at most 2 digits
pub two_digits : (n : ℕ) → n < 100 → length (number n) ≤ 2
two_digits n h = pick (dec_lt n 10)
  where
    pick : Dec (n < 10) → length (number n) ≤ 2
    pick (yes l) = omega (arith, ap length (number_digit n l))
    pick (no g) = omega (arith, ap length (number_digit (n / 10) (omega arith)), number-length n (omega arith) (omega arith))
