-- A change made on a board, and what is told of it. The board is the first n of the bytes. Definitions only.
use Rattle.std.specs.Prelude.{ℕ, ◌+◌, ◌-◌, ◌<◌, ◌≤◌, ◌≡◌, cond, List, eqb, length, take}
use Rattle.boards.specs.Board.{Parsed, whole}
use Rattle.boards.specs.Judge.{read_board}
use Rattle.wiring.specs.Rewire.{add_of, pull_of}
use Rattle.wiring.specs.declared.rewire.Wiring.{Wiring}
use Rattle.listing.specs.Text.{line, refused_word, text_of}
use Rattle.rewire.specs.declared.change.Request.{Request}
use Rattle.rewire.specs.declared.change.Request.TheVariants.{Add, Pull}

-- the answer to a change, and every byte afterwards
unfoldable pub made_of : Request → List ℕ → ℕ → Wiring × List ℕ
made_of (Add s t) bytes n = add_of bytes n s t
made_of (Pull s t) bytes n = pull_of bytes n s t

-- the board's length then: 8 bytes more or less, unless the change is refused
abbrev pub changed_length : Request → ℕ → ℕ
changed_length (Add s t) n = n + 8
changed_length (Pull s t) n = n - 8

unfoldable pub length_after : Request → ℕ → Wiring → ℕ
length_after c n w = cond (eqb w.number 0) (changed_length c n) n

-- there are so many bytes
abbrev pub Room : Request → ℕ → Type 0
Room (Add s t) n = n + 8 < 18446744073709551616
Room (Pull s t) n = 8 ≤ n

-- what is told of an answer: the refusal, or the changed board's lines, as `order` writes them
unfoldable pub step_text : Wiring → List ℕ → List ℕ
step_text w board = cond (eqb w.number 0) (text_of (read_board board)) (line refused_word w.number w.place)

-- the first n bytes are a board that the judge accepts
pub record Plays (bytes : List ℕ) (n : ℕ) : Type 0 where
  pub within : n ≤ length bytes
  pub parsed : Parsed
  pub reads : read_board (take n bytes) ≡ whole parsed
