-- Calls and changes on a board that is rewired while it plays (document 02, [8]), and the reading by samples of them: document 01's with the board
-- taken, at each time, as the changes before left it (`IsReadingOn` of samples/specs/Reading.antt). A request has what it does and what it
-- answers (`effects_of`, `said_to`); all else speaks of what requests do. Part of what the statements say. Definitions only.
use Rattle.std.specs.Prelude.{ℕ, ◌+◌, ◌-◌, ◌/◌, Bool, cond, List, [], ◌∷◌, length, take, eqb}
use Rattle.values.specs.Words.{unwords}
use Rattle.kinds.specs.Rule.{Frame}
use Rattle.kinds.specs.Cell.{values_of}
use Rattle.kinds.specs.History.{Heard}
use Rattle.reading.specs.Table.{joined}
use Rattle.reading.specs.Order.{Wire}
use Rattle.reading.specs.Effect.{Effect, rewire, blocks, wiring_after, wiring_in, heard}
use Rattle.reading.specs.Time.{Timed, last_block}
use Rattle.boards.specs.Board as graph
use Rattle.boards.specs.Board.{Parsed}
use Rattle.boards.specs.Judge.{read_board}
use Rattle.boards.specs.BoardParts.{wired as with_wires}
use Rattle.wiring.specs.Rewire.{add_of, pull_of}
use Rattle.wiring.specs.declared.rewire.Wiring.{Wiring}
use Rattle.samples.specs.Reading.{Call, effects, silence, IsReadingOn, reached_cell, Reply, reply_to}

-- ---- the board

-- bytes as they are lent, of which the first `used` are the board; spare bytes may stand behind it
pub record Lent : Type 0 where
  pub bytes : List ℕ
  pub used : ℕ

abbrev pub board_in : Lent → List ℕ
board_in l = take l.used l.bytes

-- the wires of the board as it is read; the board that plays is never refused (`in_force` of proofs/Claim.antt)
abbrev pub wires_read : graph.Progress → List Wire
wires_read (graph.going at last p) = []
wires_read (graph.refused n w) = []
wires_read (graph.whole p) = p.wires

abbrev pub wires_on : Lent → List Wire
wires_on l = wires_read (read_board (board_in l))

-- ---- requests: a line for each in what it does and what it answers

-- a call as it comes: a block run or a number message, a wire to add, a wire to pull, each by its source and its target
pub data Request : Type 0 where
  call : Call → Request
  add : ℕ → ℕ → Request
  pull : ℕ → ℕ → Request

-- a change, if it is accepted
abbrev pub change_to : Bool → Lent → List (Effect Lent ℕ ℕ)
change_to accepts l = cond accepts (rewire l ∷ []) []

-- with its answer and the bytes that it leaves, of which n are then the board
abbrev pub change_by : Wiring × List ℕ → ℕ → List (Effect Lent ℕ ℕ)
change_by d n = change_to (eqb d.0.number 0) (record { bytes = d.1; used = n })

-- what a request does where l is lent, nothing if it is refused: a wire record has 8 bytes
abbrev pub effects_of : Parsed → Lent → Request → List (Effect Lent ℕ ℕ)
effects_of p l (call c) = effects p c
effects_of p l (add s t) = change_by (add_of l.bytes l.used s t) (l.used + 8)
effects_of p l (pull s t) = change_by (pull_of l.bytes l.used s t) (l.used - 8)

pub data Said : Type 0 where
  replied : Reply → Said
  wired : Wiring → Said

-- a call answers as without changes, from node 0's last block after it, a change as document 02 says of the bytes lent
abbrev pub said_to : Parsed → Lent → Request → List Frame → Said
said_to p l (call c) fs = replied (reply_to p c fs)
said_to p l (add s t) fs = wired (add_of l.bytes l.used s t).0
said_to p l (pull s t) fs = wired (pull_of l.bytes l.used s t).0

-- ---- the reading

-- what a list of requests does, from l on: each on the board as the changes before left it, a refused one nothing
abbrev pub requested : Parsed → Lent → List Request → List (Effect Lent ℕ ℕ)
requested p l cs = heard (effects_of p) l cs

-- the board at a time: its nodes are p's, and its wires those that the changes before left
abbrev pub board_at : Parsed → Lent → List (Effect Lent ℕ ℕ) → ℕ → Parsed
board_at p l es t = with_wires p (wires_on (wiring_in l es (t / p.size)))

abbrev pub IsRewired : Parsed → Lent → List (Effect Lent ℕ ℕ) → Timed Frame → Timed Heard → Type 0
IsRewired p l es s u = IsReadingOn p (board_at p l es) es s u

-- every byte of the memory afterwards: cells in node order, each with its number, its phase or y1, its place and line, and its last block, zeros
-- if none
abbrev pub memory_then : Parsed → List (Effect Lent ℕ ℕ) → Timed Frame → Timed Heard → List ℕ
memory_then p es s u = unwords (joined (length p.nodes) (λ k. values_of (reached_cell p es s u k)))

-- the answers to a list of requests, where l is lent and b blocks have been run before
unfoldable pub said_by : Parsed → Timed Frame → Lent → ℕ → List Request → List Said
said_by p s l b [] = []
said_by p s l b (c ∷ cs) =
    let n = b + blocks (effects_of p l c) in
    said_to p l c (last_block p.size silence s n 0) ∷ said_by p s (wiring_after l (effects_of p l c)) n cs
