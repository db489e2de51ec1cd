-- Demand 3 as one claim: what the calls answer, write and leave, over every list of calls, is what the reading by samples says, in the
-- visiting list's order and in every other order that puts the source first on exactly the same wires. Part of what the statements
-- say. Definitions only; that `Demand` holds of every board that the judge accepts is proved in proofs/Demand.antt.
use Rattle.std.specs.Prelude.{ℕ, ◌≡◌, List, [], length}
use Rattle.values.specs.Words.{unwords}
use Rattle.kinds.specs.Rule.{Frame}
use Rattle.kinds.specs.History.{Heard}
use Rattle.reading.specs.Order.{Reorders}
use Rattle.reading.specs.Time.{Timed}
use Rattle.reading.specs.Calls as calls
use Rattle.records.specs.Answer.{answer}
use Rattle.boards.specs.Board.{Parsed, whole, memory_length}
use Rattle.boards.specs.Judge.{read_board}
use Rattle.memory.specs.Memory.{fresh_values, listed}
use Rattle.context.specs.Block.{Outcome, block_in}
use Rattle.memory.specs.Calls.{fresh_of, message_of}
use Rattle.packed.specs.Packed.{packed_in}
use Rattle.samples.specs.Reading.{Call, block, block24, message, value_of, Reply, IsReading, accepted, replies_to, memory_after}

-- ---- a call on a board's bytes and its memory

-- a block run's reply
abbrev pub replied : Outcome → Reply
replied d = record { answer = d.answer; left = d.left; right = d.right }

-- the memory as the call leaves it, and its reply; a block run takes the nodes in the order that `order` gives for the board, which is
-- `listed` for the block run of the contracts
abbrev pub call_in : (Parsed → List ℕ) → List ℕ → Call → List ℕ → List ℕ × Reply
call_in order board (block x l r) m = ((block_in order board m x l r).memory, replied (block_in order board m x l r))
call_in order board (block24 x l r) m = ((packed_in order board m x l r).memory, replied (packed_in order board m x l r))
call_in order board (message k w) m =
    ((message_of board m k (value_of w)).1, record { answer = (message_of board m k (value_of w)).0; left = []; right = [] })

-- ---- the claim about a board that reads as p, and a list of calls

abbrev pub fresh_memory : Parsed → List ℕ
fresh_memory p = unwords (fresh_values p)

-- From fresh memory, each call on the memory that the one before left, the calls do as the reading s, u says: every answer and output block,
-- and every byte of the memory.
pub record AsRead (board : List ℕ) (p : Parsed) (cs : List Call) (s : Timed Frame) (u : Timed Heard) (order : Parsed → List ℕ) : Type 0 where
  pub replies : calls.replies (call_in order board) cs (fresh_memory p) ≡ replies_to p s 0 cs
  pub memory : calls.after_calls (call_in order board) cs (fresh_memory p) ≡ memory_after p (accepted p cs) s u

pub record Claim (board : List ℕ) (p : Parsed) (cs : List Call) : Type 0 where
  -- there is a reading
  pub samples : Timed Frame
  pub known : Timed Heard
  pub reads : IsReading p (accepted p cs) samples known
  -- and the calls do as any reading says, in whatever order the block runs take the nodes
  pub as_read : (s : Timed Frame) (u : Timed Heard) → IsReading p (accepted p cs) s u
      → (order : Parsed → List ℕ) → Reorders p.wires (listed p) (order p) → AsRead board p cs s u order

-- ---- demand 3 of a board's bytes

pub record Demand (board : List ℕ) : Type 0 where
  -- they are read as a board
  pub parsed : Parsed
  pub reads : read_board board ≡ whole parsed
  -- the fresh call makes fresh memory
  pub fresh : (m : List ℕ) → length m ≡ memory_length parsed → fresh_of board m ≡ (answer 0 0, fresh_memory parsed)
  -- the visiting list is one of the orders
  pub own : Reorders parsed.wires (listed parsed) (listed parsed)
  -- the claim holds of every list of calls
  pub claim : (cs : List Call) → Claim board parsed cs
