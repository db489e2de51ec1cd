-- The block run on a board's bytes and its memory (document 01, "Memory" and "Answers by number"): the answer, and every byte afterwards.
-- A refused call leaves every byte as found. Definitions only.
use Rattle.std.specs.Prelude.{ℕ, suc, ◌+◌, ◌*◌, cond, List, [], ◌∷◌, length, eqb}
use Rattle.values.specs.Words.{words, unwords}
use Rattle.values.specs.Floats.{finite_bits}
use Rattle.values.specs.Parts.{part}
use Rattle.records.specs.Answer.{answer}
use Rattle.boards.specs.Board.{Parsed}
use Rattle.boards.specs.Judge.{read_board}
use Rattle.kinds.specs.Kind.{samples_from}
use Rattle.memory.specs.Memory.{passed, listed}
use Rattle.memory.specs.Calls.{and_then, check_memory, call_by}
use Rattle.running.specs.Run.{run_block}
use Rattle.records.specs.declared.answer.Answer.{Answer}

-- the answer, and the bytes of the memory and of the two output blocks as a block run left them
pub record Outcome : Type 0 where
  pub answer : Answer
  pub memory : List ℕ
  pub left : List ℕ
  pub right : List ℕ

abbrev pub as_left : Answer → List ℕ → List ℕ → List ℕ → Outcome
as_left a m l r = record { answer = a; memory = m; left = l; right = r }

-- ---- checks

-- 9: a block's length, and that of the input block and of the two output blocks
abbrev pub check_size : ℕ → ℕ → Answer
check_size N lent = cond (eqb lent (4 * N)) passed (answer 9 N)

abbrev pub check_sizes : ℕ → ℕ → ℕ → ℕ → Answer
check_sizes N x l r = and_then (check_size N x) (and_then (check_size N l) (check_size N r))

abbrev pub check_blocks : Parsed → List ℕ → List ℕ → List ℕ → Answer
check_blocks p x l r = check_sizes p.size (length x) (length l) (length r)

-- 10: the first infinite or NaN sample
unfoldable pub check_samples : ℕ → List ℕ → Answer
check_samples i [] = passed
check_samples i (w ∷ ws) = cond (finite_bits w) (check_samples (suc i) ws) (answer 10 i)

-- ---- the block run

-- the checks of a block run behind 6
abbrev pub check_block : Parsed → List ℕ → List ℕ → List ℕ → List ℕ → Answer
check_block p m x l r = check_memory p m (and_then (check_blocks p x l r) (check_samples 0 (words x)))

-- an accepted block run with the nodes taken in the order o: the outputs are node 0's two channels
abbrev pub ran_block : Parsed → List ℕ → List ℕ → List ℕ → Outcome
ran_block p o x m =
    let ws = run_block p o (words x) (words m) in
    record {
      answer = passed;
      memory = unwords ws;
      left = unwords (part ws samples_from p.size);
      right = unwords (part ws (samples_from + p.size) p.size);
    }

-- a block run in the order that `order` gives for a board
unfoldable pub block_in : (Parsed → List ℕ) → List ℕ → List ℕ → List ℕ → List ℕ → List ℕ → Outcome
block_in order board m x l r =
    call_by (λ a. as_left a m l r) (λ p. check_block p m x l r) (λ p. ran_block p (order p) x m) (read_board board)

-- the block run takes the visiting list
abbrev pub block_of : List ℕ → List ℕ → List ℕ → List ℕ → List ℕ → Outcome
block_of board m x l r = block_in listed board m x l r
