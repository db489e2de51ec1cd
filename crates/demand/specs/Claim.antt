-- Demand 3 with changes in its lists, as one claim: what the calls on the lent bytes answer, write and leave, over every list of requests, is
-- what the reading by samples says, in the visiting lists' order and in every other, chosen for each board, that puts the source first on
-- exactly the same wires. Part of what the statements say. Definitions only; that `RewiredDemand` holds of every board that the judge accepts is
-- proved in proofs/Claim.antt.
use Rattle.std.specs.Prelude.{ℕ, ◌+◌, ◌-◌, ◌≡◌, cond, List, eqb, length}
use Rattle.values.specs.Words.{Bytes}
use Rattle.kinds.specs.Rule.{Frame}
use Rattle.kinds.specs.History.{Heard}
use Rattle.reading.specs.Order.{Wire, Reorders}
use Rattle.reading.specs.Effect.{wiring_after}
use Rattle.reading.specs.Time.{Timed}
use Rattle.reading.specs.Calls as calls
use Rattle.records.specs.Answer.{answer}
use Rattle.boards.specs.Board.{Parsed, whole, memory_length}
use Rattle.boards.specs.Judge.{read_board}
use Rattle.boards.specs.BoardParts.{wired as with_wires}
use Rattle.graph.specs.Visit.{visiting_list}
use Rattle.wiring.specs.Rewire.{add_of, pull_of}
use Rattle.wiring.specs.declared.rewire.Wiring.{Wiring}
use Rattle.memory.specs.Calls.{fresh_of}
use Rattle.memory.specs.Memory.{listed}
use Rattle.samples.specs.Claim.{call_in, fresh_memory}
use Rattle.demand.specs.Requests.{Lent, board_in, Request, call, add, pull, requested, IsRewired, memory_then, Said, replied, wired, said_by}

-- ---- a request on what is lent, board and memory

-- the bytes as the change left them, of which n are the board where it answered 0
abbrev pub lent_by : Lent → Wiring × List ℕ → ℕ → Lent
lent_by l d n = record { bytes = d.1; used = cond (eqb d.0.number 0) n l.used }

-- a call is given the board, and a change the bytes; a change leaves the memory untouched
abbrev pub request_in : (Parsed → List ℕ) → Request → Lent × List ℕ → (Lent × List ℕ) × Said
request_in order (call c) (l, m) = ((l, (call_in order (board_in l) c m).0), replied (call_in order (board_in l) c m).1)
request_in order (add s t) (l, m) = ((lent_by l (add_of l.bytes l.used s t) (l.used + 8), m), wired (add_of l.bytes l.used s t).0)
request_in order (pull s t) (l, m) = ((lent_by l (pull_of l.bytes l.used s t) (l.used - 8), m), wired (pull_of l.bytes l.used s t).0)

-- ---- the claim about lent bytes whose board reads as p, and a list of requests

-- From fresh memory, each request on what the one before left, they do as the reading s, u says: every answer, visiting list and output block,
-- and every byte of the memory and of what is lent.
pub record AsRewired (p : Parsed) (l : Lent) (cs : List Request) (s : Timed Frame) (u : Timed Heard) (order : Parsed → List ℕ) : Type 0 where
  pub replies : calls.replies (request_in order) cs (l, fresh_memory p) ≡ said_by p s l 0 cs
  pub left : calls.after_calls (request_in order) cs (l, fresh_memory p) ≡ (wiring_after l (requested p l cs), memory_then p (requested p l cs) s u)

-- an order for each accepted board with p's nodes
abbrev pub Orders : Parsed → (Parsed → List ℕ) → Type 0
Orders p order = (board : List ℕ) → Bytes board → (ws : List Wire) → read_board board ≡ whole (with_wires p ws)
    → Reorders ws (visiting_list ws) (order (with_wires p ws))

pub record RewiredClaim (p : Parsed) (l : Lent) (cs : List Request) : Type 0 where
  -- there is a reading
  pub samples : Timed Frame
  pub known : Timed Heard
  pub reads : IsRewired p l (requested p l cs) samples known
  -- and the calls do as any reading says, in whatever orders the block runs take the nodes
  pub as_read : (s : Timed Frame) (u : Timed Heard) → IsRewired p l (requested p l cs) s u
      → (order : Parsed → List ℕ) → Orders p order → AsRewired p l cs s u order

-- ---- demand 3 of what is lent

pub record RewiredDemand (l : Lent) : Type 0 where
  -- the board is read
  pub parsed : Parsed
  pub reads : read_board (board_in l) ≡ whole parsed
  -- the fresh call makes fresh memory
  pub fresh : (m : List ℕ) → length m ≡ memory_length parsed → fresh_of (board_in l) m ≡ (answer 0 0, fresh_memory parsed)
  -- the visiting lists are one choice of orders
  pub own : Orders parsed listed
  -- the claim holds of every list of requests
  pub claim : (cs : List Request) → RewiredClaim parsed l cs
