-- Floats in a list of words: a word is read as a 32-bit pattern, and a float is stored as its pattern, the NaN's as 7FC00000.
-- Assumes nothing.
use Rattle.std.specs.Prelude.{Bool, List, [], ◌∷◌, ℕ, ◌+◌, get_or, set, Float}
use Rattle.std.specs.Float.{binary32}
use Rattle.std.specs.Float.Ieee.{of_bits, to_bits}
use Rattle.values.specs.Floors.{finite_f}

abbrev pub float_at : List ℕ → ℕ → Float
float_at ws k = of_bits binary32 (get_or ws k 0)

abbrev pub set_float : List ℕ → ℕ → Float → List ℕ
set_float ws k x = set ws k (to_bits binary32 x)

-- the floats at k and the next three
abbrev pub floats_at : List ℕ → ℕ → List Float
floats_at ws k = float_at ws k ∷ float_at ws (k + 1) ∷ float_at ws (k + 2) ∷ float_at ws (k + 3) ∷ []

-- four words, stored at k and the next three
abbrev pub set_four : List ℕ → ℕ → List ℕ → List ℕ
set_four ws k v = set (set (set (set ws k (get_or v 0 0)) (k + 1) (get_or v 1 0)) (k + 2) (get_or v 2 0)) (k + 3) (get_or v 3 0)

-- the pattern of a finite float
abbrev pub finite_bits : ℕ → Bool
finite_bits w = finite_f (of_bits binary32 w)
