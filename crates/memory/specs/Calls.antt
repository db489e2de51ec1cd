-- What the calls on a board's bytes and its memory share (document 01, "Answers by number"), the fresh call and the number message: the answer,
-- and every byte afterwards. A refused call leaves every byte as found. Definitions only.
use Rattle.std.specs.Prelude.{ℕ, ◌+◌, cond, ◌&&◌, List, length, set, eqb, ltb, Float}
use Rattle.std.specs.Float.{binary32}
use Rattle.std.specs.Float.Ieee.{to_bits}
use Rattle.values.specs.Words.{words, unwords}
use Rattle.records.specs.Answer.{answer}
use Rattle.boards.specs.Board.{Parsed, Progress, going, refused, whole, memory_length}
use Rattle.boards.specs.Judge.{read_board}
use Rattle.kinds.specs.Kind.{number_index}
use Rattle.kinds.specs.Cell.{takes_number, value_fits}
use Rattle.memory.specs.Memory.{passed, node_at, kind_at, fresh_values, check_cells}
use Rattle.records.specs.declared.answer.Answer.{Answer}

-- ---- checks, one after the other: the first that refuses answers

abbrev pub and_then : Answer → Answer → Answer
and_then a b = cond (eqb a.number 0) b a

-- 7: so many bytes are lent, and so many needed
abbrev pub check_needed : ℕ → ℕ → Answer
check_needed needed lent = cond (eqb lent needed) passed (answer 7 needed)

abbrev pub check_length : Parsed → List ℕ → Answer
check_length p m = check_needed (memory_length p) (length m)

-- 8: the judged values
abbrev pub check_values : Parsed → List ℕ → Answer
check_values p m = check_cells (words m) 0 p.nodes

-- 7, 8, and then a call's own check
abbrev pub check_memory : Parsed → List ℕ → Answer → Answer
check_memory p m a = and_then (check_length p m) (and_then (check_values p m) a)

-- ---- the calls

-- a call on a board as it was read, which is never left going. The board's refusal is the answer, or that of the first check behind 6 that
-- refuses, and every byte is as found (`found` of the answer); where all pass, the call has done its work
abbrev pub call_by : {A : Type 0} → (Answer → A) → (Parsed → Answer) → (Parsed → A) → Progress → A
call_by found check done (going at last p) = found (answer 1 at)
call_by found check done (refused n w) = found (answer n w)
call_by found check done (whole p) = cond (eqb (check p).number 0) (done p) (found (check p))

-- a call that changes the memory m only: where its checks pass, the memory has the values that `change` gives
abbrev pub change_by : List ℕ → (Parsed → Answer) → (Parsed → List ℕ) → Progress → Answer × List ℕ
change_by m check change = call_by (λ a. (a, m)) check (λ p. (passed, unwords (change p)))

-- the fresh call writes the whole memory
unfoldable pub fresh_of : List ℕ → List ℕ → Answer × List ℕ
fresh_of board m = change_by m (λ p. check_length p m) fresh_values (read_board board)

-- ---- the number message

-- 11: the node is there and takes a number; 12: the value is in its range
abbrev pub check_number : Parsed → ℕ → Float → Answer
check_number p k x =
    cond (ltb k (length p.nodes) && takes_number (kind_at p k))
    (cond (value_fits (kind_at p k) x) passed (answer 12 k))
    (answer 11 k)

-- the checks of a message behind 6
abbrev pub check_message : Parsed → List ℕ → ℕ → Float → Answer
check_message p m k x = check_memory p m (check_number p k x)

-- the number, in the node's cell
abbrev pub put_number : Parsed → ℕ → Float → List ℕ → List ℕ
put_number p k x ws = set ws ((node_at p k).cell + number_index) (to_bits binary32 x)

unfoldable pub message_of : List ℕ → List ℕ → ℕ → Float → Answer × List ℕ
message_of board m k x = change_by m (λ p. check_message p m k x) (λ p. put_number p k x (words m)) (read_board board)
