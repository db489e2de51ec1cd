-- What the stages of a block run ask of the board and of the starts of its nodes' samples, and what they leave. Definitions only.
use Rattle.std.specs.Prelude.{ℕ, ◌≤◌, ◌<◌, ◌≡◌, List, map, length, take}
use Rattle.kinds.specs.declared.kind.NodeRecord.{NodeRecord}
use Rattle.boards.specs.Board.{memory_length}
use Rattle.boards.specs.Read.{parsed_of}
use Rattle.boards.specs.Formed.{TableAt}
use Rattle.boards.specs.declared.board.Board.{Board}
use Rattle.graph.specs.Visit.{Lists}
use Rattle.graph.specs.declared.graph.Order.{Order}
use Rattle.memory.specs.Memory.{node_in, passed, listed}
use Rattle.memory.specs.Calls.{check_values}
use Rattle.memory.specs.Fine.{Fine}
use Rattle.running.specs.Run.{left_start, right_start}
use Rattle.nodes.specs.declared.node.Starts.{Starts}

-- the start of a node's samples fits: it has one channel or two, and its cell starts among the values of the largest memory,
-- 64 × (3 + 2 × 128) + 262,144
pub record StartFits (r : NodeRecord) : Type 0 where
  pub some_channel : 1 ≤ r.channels
  pub few_channels : r.channels ≤ 2
  pub cell_in : r.cell ≤ 278720

abbrev pub StartsFit : List NodeRecord → ℕ → Type 0
StartsFit nodes n = (k : ℕ) → k < n → StartFits (node_in nodes k)

-- an array gives for each of the first n nodes the value that `start` says
pub record Started (start : NodeRecord → ℕ) (nodes : List NodeRecord) (n : ℕ) (at : List ℕ) : Type 0 where
  pub long : length at ≡ 64
  pub same : take n at ≡ map start (take n nodes)

-- the starts of the samples of all these nodes, at block size N
pub record StartsOf (nodes : List NodeRecord) (N : ℕ) (s : Starts) : Type 0 where
  pub lefts : Started left_start nodes (length nodes) s.lefts
  pub rights : Started (right_start N) nodes (length nodes) s.rights

-- what the run of the listed nodes asks: an accepted board, the starts of its nodes' samples, its list, and memory that is judged
pub record Runs (b : Board) (s : Starts) (o : Order) (m : List ℕ) : Type 0 where
  pub fine : Fine (parsed_of b)
  pub table : (v : ℕ) → v < 64 → TableAt b v
  pub starts : StartsOf (take b.count b.nodes) b.size s
  pub lists : Lists (listed (parsed_of b)) o.nodes o.count
  pub long : length m ≡ memory_length (parsed_of b)
  pub judged : check_values (parsed_of b) m ≡ passed
