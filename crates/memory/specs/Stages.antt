-- What the parts of the calls ask of the code's arrays, and what they leave. Definitions only.
use Rattle.std.specs.Prelude.{ℕ, ◌+◌, ◌*◌, ◌≤◌, ◌<◌, ◌≡◌, List, [], ◌∷◌, length, Result, Ok, Err}
use Rattle.values.specs.Floats.{set_float}
use Rattle.kinds.specs.Kind.{number_index, samples_from}
use Rattle.kinds.specs.Cell.{number_of}
use Rattle.kinds.specs.declared.kind.NodeRecord.{NodeRecord}
use Rattle.boards.specs.Board.{Parsed, Progress, going, refused, whole, memory_length}
use Rattle.boards.specs.Judge.{read_board}
use Rattle.boards.specs.BoardParts.{or_refused, Refuses}
use Rattle.boards.specs.Read.{parsed_of}
use Rattle.boards.specs.Formed.{TableAt}
use Rattle.boards.specs.declared.board.Board.{Board}
use Rattle.memory.specs.Memory.{node_in}
use Rattle.memory.specs.Calls.{check_needed, check_values}
use Rattle.memory.specs.Fine.{Fine}
use Rattle.records.specs.declared.answer.Answer.{Answer}

-- ---- a board that is opened

-- what was read, held to one check more
abbrev pub held_to : (Parsed → Answer) → Progress → Progress
held_to check (going at last p) = going at last p
held_to check (refused n w) = refused n w
held_to check (whole p) = or_refused (check p) (whole p)

-- checks 1 to 7, for so many bytes lent, and 1 to 8
abbrev pub read_open : List ℕ → ℕ → Progress
read_open s lent = held_to (λ p. check_needed (memory_length p) lent) (read_board s)

abbrev pub read_judged : List ℕ → List ℕ → Progress
read_judged s m = held_to (λ p. check_values p m) (read_open s (length m))

-- a board that stands for the reading v: it is fine, and so many bytes are as many as its memory has
pub record OpenBoard (v : Progress) (lent : ℕ) (b : Board) : Type 0 where
  pub reading : v ≡ whole (parsed_of b)
  pub fine : Fine (parsed_of b)
  pub table : (v : ℕ) → v < 64 → TableAt b v
  pub long : lent ≡ 4 * b.values

-- what was opened stands for the reading v: such a board, or v's refusal
abbrev pub Opened : Progress → ℕ → Result Board Answer → Type 0
Opened v lent (Ok b) = OpenBoard v lent b
Opened v lent (Err a) = Refuses v a

-- ---- arrays

-- the judged values of each of the first n nodes lie within so many bytes
abbrev pub CellsIn : List NodeRecord → ℕ → ℕ → Type 0
CellsIn nodes n long = (k : ℕ) → k < n → 4 * ((node_in nodes k).cell + samples_from) ≤ long

-- the values with each node's number stored in its cell
unfoldable pub put_numbers : List NodeRecord → List ℕ → List ℕ
put_numbers [] ws = ws
put_numbers (r ∷ rs) ws = put_numbers rs (set_float ws (r.cell + number_index) (number_of r.kind))
