-- The sums over a board's nodes at one node more, and the bounds that keep them small. Assumes nothing.
use Prim.Native.Nat.{ℕ, ◌+◌, ◌*◌, ◌≤◌}
use mathlib.Core.Path.{◌≡◌}
use mathlib.Core.List.{List, [], ◌∷◌, ◌++◌}
use native.Mathlib.Nat.{mul-le-mul}
use native.Mathlib.Omega.{arith}
use Rattle.kinds.specs.Row.{Writes, mono, keeping, stereo, row_of}
use Rattle.kinds.specs.Kind.{line_of, channels_by, channels_of, cell_size}
use Rattle.kinds.specs.declared.kind.NodeKind.{NodeKind}
use Rattle.kinds.specs.declared.kind.NodeRecord.{NodeRecord}
use Rattle.boards.specs.Board.{lines_of, cells_of}

pub lines_snoc : (xs : List NodeRecord) (r : NodeRecord) → lines_of (xs ++ (r ∷ [])) ≡ lines_of xs + line_of r.kind
lines_snoc [] r = omega arith
lines_snoc (x ∷ xs) r = omega (arith, lines_snoc xs r)

pub cells_snoc : (N : ℕ) (xs : List NodeRecord) (r : NodeRecord) → cells_of N (xs ++ (r ∷ [])) ≡ cells_of N xs + cell_size N r.kind
cells_snoc N [] r = omega arith
cells_snoc N (x ∷ xs) r = omega (arith, cells_snoc N xs r)

channels_few : (w : Writes) → channels_by w ≤ 2
channels_few (mono l) = omega arith
channels_few (keeping l) = omega arith
channels_few (stereo l r) = omega arith

-- the samples of a node's block
pub samples_few : (N : ℕ) (k : NodeKind) → N ≤ 128 → N * channels_of k ≤ 256
samples_few N k h = mul-le-mul h (channels_few (row_of k).writes)
