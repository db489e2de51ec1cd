-- Decimals: the floats that they give. Definitions only.
use Rattle.std.specs.Prelude.{◌≡◌, false, ℕ, ◌*◌, ◌^◌, ◌≤◌, Float}
use Rattle.std.specs.Float.{binary32}
use Rattle.std.specs.Float.Ieee.{round, to_bits}

-- the float nearest to d / 10^k
unfoldable pub over : ℕ → ℕ → Float
over d k = round binary32 false d (10 ^ k)

-- the float nearest to d × 10^up / 10^down
unfoldable pub nearest_to : ℕ → ℕ → ℕ → Float
nearest_to d up down = round binary32 false (d * 10 ^ up) (10 ^ down)

-- a decimal that is found for a float has at most 10 places and gives its bits
abbrev pub Prints : ℕ → ℕ → ℕ → Type 0
Prints bits digits places = (places ≤ 10) × (to_bits binary32 (over digits places) ≡ bits)
