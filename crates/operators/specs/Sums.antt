-- Sums of sources' blocks as the loops hold them. Definitions only.
use Rattle.std.specs.Prelude.{ℕ, ◌+◌, ◌*◌, ◌≤◌, ◌<◌, List, length, get_or, Float}
use Rattle.kinds.specs.Rule.{total}
use Rattle.kinds.specs.Node.{samples_at}

-- the sum, from 0, of place i of the blocks that start at the values `starts` gives for each node of a list
abbrev pub total_at : List ℕ → List ℕ → List ℕ → ℕ → Float
total_at ws starts list i = total (samples_at ws starts list i)

-- each listed node is below 64, and its block of N samples lies within so many bytes
abbrev pub InMemory : List ℕ → List ℕ → ℕ → ℕ → Type 0
InMemory list starts N long = (j : ℕ) → j < length list → (get_or list j 0 < 64) × (4 * (get_or starts (get_or list j 0) 0 + N) ≤ long)
