-- What it is to write behind a text, and the texts of numbers and lines. Definitions only.
use Rattle.std.specs.Prelude.{◌≡◌, ℕ, zero, suc, ◌+◌, ◌/◌, ◌%◌, ◌≤◌, cond, List, [], ◌∷◌, ◌++◌, length, ltb}

-- a text has been written behind `old`, in at most `most` bytes
pub record Appends (most : ℕ) (old text new : List ℕ) : Type 0 where
  pub wrote : new ≡ old ++ text
  pub short : length new ≤ length old + most

-- a number in decimal, in at most d digits
abbrev pub digits : ℕ → ℕ → List ℕ
digits zero n = []
digits (suc d) n = cond (ltb n 10) ((48 + n) ∷ []) (digits d (n / 10) ++ ((48 + n % 10) ∷ []))

-- a 32-bit number
unfoldable pub number : ℕ → List ℕ
number n = digits 10 n

-- a space, and a number
unfoldable pub spaced : ℕ → List ℕ
spaced n = 32 ∷ number n

-- two numbers, with words before, between and after them
unfoldable pub pair : List ℕ → ℕ → List ℕ → ℕ → List ℕ → List ℕ
pair first a between b last = (((first ++ number a) ++ between) ++ number b) ++ last
