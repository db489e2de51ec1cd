-- Blocks as the loops hold them: arrays of 128 floats, of which the first N count. Definitions only.
use Rattle.std.specs.Prelude.{ℕ, ◌+◌, ◌≡◌, Bool, cond, List, [], ◌∷◌, get_or, set, Option, Some, None, Float}
use Rattle.std.specs.Float.{nan, binary32}
use Rattle.std.specs.Float.Ieee.{to_bits, add}
use Rattle.values.specs.Floats.{float_at}
use Rattle.values.specs.Floors.{zero_f, floor_of}
use Rattle.leaves.specs.Position.{position_of, rest_of}
use Rattle.kinds.specs.Iter.{iter}
use Rattle.kinds.specs.Rule.{Brought}

-- sample i of a block
abbrev pub sample : List Float → ℕ → Float
sample x i = get_or x i nan

-- an array whose first n places are given anew
unfoldable pub fill : (ℕ → Float) → ℕ → List Float → List Float
fill f n x = iter (λ i y. set y i (f i)) n x

-- what is filled in: the samples from value `at` on, zeros, those samples added to 0, each sample with the one from value `at` on added, and
-- where the samples m say that an all-pass of n reads its lines
abbrev pub fetched : List ℕ → ℕ → ℕ → Float
fetched ws at i = float_at ws (at + i)

abbrev pub quiet : ℕ → Float
quiet i = zero_f

abbrev pub begun : List ℕ → ℕ → ℕ → Float
begun ws at i = add binary32 zero_f (float_at ws (at + i))

abbrev pub added : List ℕ → ℕ → List Float → ℕ → Float
added ws at x i = add binary32 (sample x i) (float_at ws (at + i))

abbrev pub positioned : List Float → ℕ → ℕ → Float
positioned m n i = position_of (sample m i) n

-- a position's floor, and what is above it
abbrev pub Split : Float → ℕ → Float → Type 0
Split pos floor rest = (floor ≡ floor_of pos) × (rest ≡ rest_of pos)

-- an array filled with the samples from value `at` on, where they are asked for
unfoldable pub fetched_if : Bool → List ℕ → ℕ → ℕ → List Float → List Float
fetched_if asked ws at n x = cond asked (fill (fetched ws at) n x) x

-- the values after n floats are stored from `at` on, and after the n samples of a block are
unfoldable pub stored : (ℕ → Float) → ℕ → ℕ → List ℕ → List ℕ
stored y at n ws = iter (λ i vs. set vs (at + i) (to_bits binary32 (y i))) n ws

abbrev pub put_block : List Float → ℕ → ℕ → List ℕ → List ℕ
put_block x at n ws = stored (sample x) at n ws

-- what an operator stores: each sample with a number, or with the other block's sample
abbrev pub op_number : (Float → Float → Float) → List Float → Float → ℕ → Float
op_number op x g i = op (sample x i) g

abbrev pub op_sources : (Float → Float → Float) → List Float → List Float → ℕ → Float
op_sources op x m i = op (sample x i) (sample m i)

-- what wires bring where a type's loop is given the block x of its one source, or x and m of its two
abbrev pub alone : List Float → ℕ → Brought
alone x i = record { left = sample x i ∷ []; right = []; second = nan }

abbrev pub pair : List Float → List Float → ℕ → Brought
pair x m i = record { left = sample x i ∷ sample m i ∷ []; right = []; second = sample m i }

abbrev pub given_by : List Float → Option (List Float) → ℕ → Brought
given_by x None i = alone x i
given_by x (Some m) i = pair x m i

-- no source at all
abbrev pub nothing : ℕ → Brought
nothing i = record { left = []; right = []; second = nan }
