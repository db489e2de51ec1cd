-- Where the cells of a fine board lie: one after the other, within the memory.
--     cell_in, cell_apart    a node's cell lies within the memory, and behind the cells of the nodes before it
--     cells_fit, cells_in    the same of the judged values, in the code's arrays
-- Assumes nothing.
use Prim.Native.Nat.{ℕ, ◌+◌, ◌*◌, ◌≤◌, ◌<◌}
use mathlib.Core.Path.{◌≡◌, ap}
use mathlib.Core.List.{List}
use native.Mathlib.Omega.{arith}
use lib.ListN.{length, take}
use lib.Seq.{get_or-take, take-length}
use Rattle.kinds.specs.Kind.{cell_size}
use Rattle.kinds.specs.declared.kind.NodeRecord.{NodeRecord}
use Rattle.boards.specs.Board.{Parsed, blank, cells_of}
use Rattle.memory.specs.Memory.{node_in, node_at, kind_at}
use Rattle.boards.specs.Read.{parsed_of}
use Rattle.memory.specs.Fine.{Fine}
use Rattle.memory.specs.Stages.{CellsIn}
use Rattle.boards.specs.declared.board.Board.{Board}
use Rattle.graph.proofs.Accepted.{cells_apart}
use Rattle.boards.proofs.Six.{counted}

-- ---- the cells of a fine board

module _ (p : Parsed) (fine : Fine p) where
  pub cell_apart : (j k : ℕ) → j < k → k < length p.nodes → (node_at p j).cell + cell_size p.size (kind_at p j) ≤ (node_at p k).cell
  cell_apart j k before there =
      let here : j < length p.nodes = omega arith in
      omega (arith, (fine.nodes j here).cell, (fine.nodes k there).cell, cells_apart p.size p.nodes blank j k before (omega arith))

  pub cell_in : (k : ℕ) → k < length p.nodes → (node_at p k).cell + cell_size p.size (kind_at p k) ≤ cells_of p.size p.nodes
  cell_in k there =
      let all : cells_of p.size (take (length p.nodes) p.nodes) ≡ cells_of p.size p.nodes = ap (cells_of p.size) (take-length p.nodes) in
      omega (arith, (fine.nodes k there).cell, cells_apart p.size p.nodes blank k (length p.nodes) there (omega arith))

-- ---- in the code's arrays

module _ (b : Board) where
  pub node_in_lem : (k : ℕ) → k < b.count → node_at (parsed_of b) k ≡ node_in b.nodes k
  node_in_lem k h = get_or-take b.count b.nodes k blank h

  pub count_nodes : length (parsed_of b).nodes ≡ b.count
  count_nodes = counted b.nodes b.count (omega (arith, b.long, b.few))

  pub cells_fit : Fine (parsed_of b) → CellsIn b.nodes b.count (4 * b.values)
  cells_fit fine k h =
      let at : (node_at (parsed_of b) k).cell ≡ (node_in b.nodes k).cell = ap (λ (r : NodeRecord). r.cell) (node_in_lem k h) in
      omega (arith, cell_in (parsed_of b) fine k (omega (arith, count_nodes)), b.sum)

  -- of the part that the nodes fill
  pub cells_in : Fine (parsed_of b) → (m : List ℕ) → length m ≡ 4 * b.values → CellsIn (take b.count b.nodes) (length (take b.count b.nodes)) (length m)
  cells_in fine m long k h = omega (arith, cell_in (parsed_of b) fine k h, b.sum, long)
