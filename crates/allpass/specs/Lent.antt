-- What an all-pass's loops ask of the cell that they are lent. Definitions only.
use Rattle.std.specs.Prelude.{ℕ, ◌+◌, ◌*◌, ◌≤◌, ◌≡◌, List, length, Float}
use Rattle.values.specs.Words.{words}
use Rattle.values.specs.Floats.{float_at}
use Rattle.kinds.specs.Kind.{samples_from, number_index}

-- a whole cell of an all-pass of n, at block size N, whose number is the gain g
pub record Lent (n N : ℕ) (g : Float) (cell : List ℕ) : Type 0 where
  pub small : N ≤ 128
  pub line : n ≤ 132300
  pub whole : length cell ≡ 4 * (samples_from + N + n * 2)
  pub gain : g ≡ float_at (words cell) number_index
