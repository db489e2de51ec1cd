-- What the functions of src/resize.rt ask and find. Definitions only.
use Rattle.std.specs.Prelude.{ℕ, ◌+◌, ◌*◌, ◌≡◌, ◌≤◌, List, [], ◌∷◌, length, Option, Some, None}
use Rattle.reading.specs.Order.{Wire}
use Rattle.boards.specs.Read.{parsed_of}
use Rattle.graph.specs.Walking.{Table, Gathered}
use Rattle.boards.specs.declared.board.Board.{Board}
use Rattle.memory.specs.Fine.{Fine}
use Rattle.resizing.specs.declared.resize.Resized.{Resized}
use Rattle.resizing.specs.declared.resize.Resized.TheVariants.{Same, Size, Line}

-- so many late wires, and the last one's target, if there is one
abbrev pub last_target : List Wire → Option ℕ
last_target [] = None
last_target (w ∷ []) = Some w.target
last_target (w ∷ v ∷ ws) = last_target (v ∷ ws)

pub record Lates (ws : List Wire) (count : ℕ) (target : Option ℕ) : Type 0 where
  pub counted : count ≡ length ws
  pub last : target ≡ last_target ws

-- a board that was accepted: its table holds the sources of its wires
pub record Whole (b : Board) : Type 0 where
  pub fine : Fine (parsed_of b)
  pub table : Table b.sources.counts b.sources.lists
  pub gathered : Gathered (parsed_of b).wires b.sources.counts b.sources.lists

-- what is to be stored, at blocks of M, lies within n bytes
abbrev pub Room : ℕ → ℕ → Resized → Type 0
Room M n Same = Unit {0}
Room M n Size = (M ≤ 128) × (6 ≤ n)
Room M n (Line k _ _) = (M ≤ 128) × (14 * k + 18 ≤ n)
