-- An operator's samples, of its one source and the number or of its two sources. Definitions only.
use Rattle.std.specs.Prelude.{ℕ, ◌+◌, ◌≡◌, ◌<◌, List, Option, Some, None, Float}
use Rattle.values.specs.Floats.{float_at}
use Rattle.effects.specs.Block.{sample, op_number, op_sources}

-- the results that a call may have are those of an operation
abbrev pub Computes : (Float → Float → Float → Type 0) → (Float → Float → Float) → Type 0
Computes post o = (a b r : Float) → post a b r → r ≡ o a b

-- the results that a call may have at each of n places are y's there
abbrev pub Gives : (ℕ → Float → Type 0) → ℕ → (ℕ → Float) → Type 0
Gives post n y = (i : ℕ) (r : Float) → i < n → post i r → r ≡ y i

-- each sample of x with the one that stands from value `at` on
abbrev pub joined : (Float → Float → Float) → List Float → List ℕ → ℕ → ℕ → Float
joined o x ws at i = o (sample x i) (float_at ws (at + i))

-- each sample of x with that of the second source, or where there is none with the number g
abbrev pub op_by : (Float → Float → Float) → List Float → Float → Option (List Float) → ℕ → Float
op_by o x g None = op_number o x g
op_by o x g (Some m) = op_sources o x m
