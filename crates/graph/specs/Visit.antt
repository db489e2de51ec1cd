-- The visiting list of a board (document 01, "Visiting list"). Definitions only.
use Rattle.std.specs.Prelude.{◌≡◌, ℕ, ◌≤◌, List, length, take}
use Rattle.reading.specs.Order.{Wire}
use Rattle.reading.specs.Visit.{visiting}
use Rattle.boards.specs.Wires.{Within}

-- From node 0: mark the node, go to each source not yet marked, oldest wire first, then list the node. No way through a board is longer
-- than its nodes are many, and these are 64 at most.
unfoldable pub visiting_list : List Wire → List ℕ
visiting_list ws = visiting ws 64

-- an array and a count hold the list l of nodes below 64
pub record Lists (l nodes : List ℕ) (count : ℕ) : Type 0 where
  pub size : length nodes ≡ 64
  pub fits : count ≤ 64
  pub below : Within 64 nodes count
  pub same : take count nodes ≡ l
