-- A block run whose blocks hold converter words (document 02, [1]): 24 bits each, in three bytes, the least significant first. It is its input
-- converted, a float block's run, and its outputs converted: the answer, and every byte afterwards. A refused call leaves every byte as found.
-- Definitions only.
use Rattle.std.specs.Prelude.{ℕ, ◌*◌, cond, List, eqb, length}
use Rattle.values.specs.Words.{words}
use Rattle.leaves.specs.Converter.{floats_of, words_of}
use Rattle.records.specs.Answer.{answer}
use Rattle.boards.specs.Board.{Parsed}
use Rattle.boards.specs.Judge.{read_board}
use Rattle.memory.specs.Memory.{passed, listed}
use Rattle.memory.specs.Calls.{and_then, check_memory, call_by}
use Rattle.context.specs.Block.{Outcome, as_left, ran_block}
use Rattle.records.specs.declared.answer.Answer.{Answer}

-- the outputs of a float block, packed
abbrev pub packed : Outcome → Outcome
packed d = record { answer = d.answer; memory = d.memory; left = words_of (words d.left); right = words_of (words d.right) }

-- ---- check 13: where 9 stands for float blocks

abbrev pub check_packed : ℕ → ℕ → Answer
check_packed N lent = cond (eqb lent (3 * N)) passed (answer 13 N)

abbrev pub check_packed_blocks : Parsed → List ℕ → List ℕ → List ℕ → Answer
check_packed_blocks p x l r =
    and_then (check_packed p.size (length x)) (and_then (check_packed p.size (length l)) (check_packed p.size (length r)))

-- ---- the call

-- in the order that `order` gives for a board
unfoldable pub packed_in : (Parsed → List ℕ) → List ℕ → List ℕ → List ℕ → List ℕ → List ℕ → Outcome
packed_in order board m x l r =
    call_by (λ a. as_left a m l r) (λ p. check_memory p m (check_packed_blocks p x l r)) (λ p. packed (ran_block p (order p) (floats_of x) m)) (read_board board)

-- the packed block takes the visiting list
abbrev pub packed_of : List ℕ → List ℕ → List ℕ → List ℕ → List ℕ → Outcome
packed_of board m x l r = packed_in listed board m x l r
