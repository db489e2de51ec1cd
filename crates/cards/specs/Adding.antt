-- A record added to a board that is being made: the room that it needs, and the bytes that it takes. Definitions only.
use Rattle.std.specs.Prelude.{Result, Ok, Err, ◌≡◌, List, [], ℕ, ◌+◌, ◌*◌, ◌≤◌, length}
use Rattle.std.proofs.lemmas.List.Edits.{sets}
use Rattle.cards.specs.Board.{by_step}
use Rattle.cards.specs.declared.board.Written.{Written}
use Rattle.cards.specs.declared.board.Wrong.{Wrong}
use Rattle.card_lines.specs.declared.reason.Reason.{Reason}

-- at most so many nodes and wires are written, after the head: so the whole board will have at most 1,932 bytes
pub record Room (w : Written) : Type 0 where
  pub few_nodes : w.nodes ≤ 64
  pub few_wires : w.wires ≤ 128
  pub sum : w.at ≤ 8 + 14 * w.nodes + 8 * w.wires

abbrev pub Stepped : Result Written Reason → Type 0
Stepped (Ok w) = Room w
Stepped (Err r) = Unit {0}

-- the bytes that a step stores: those of the record, if the line is taken
abbrev pub stored : Result Written Reason → List ℕ → List ℕ
stored s bytes = by_step s (λ w. bytes) (λ r. [])

-- the bytes written grow by those of the record
abbrev pub Grown : Written → List ℕ → Result Written Reason → Type 0
Grown w bytes (Ok next) = next.at ≡ w.at + length bytes
Grown w bytes (Err r) = Unit {0}

-- a record is added after what is written, by the step s: the result, and every byte afterwards
pub record Adds (w : Written) (s : Result Written Reason) (bytes o o' : List ℕ) (r : Result Written Reason) : Type 0 where
  pub steps : r ≡ s
  pub room : Stepped r
  pub grown : Grown w bytes r
  pub puts : o' ≡ sets o w.at (stored s bytes)

-- a board that is handed out lies within its bytes
abbrev pub Within : List ℕ → Result ℕ Wrong → Type 0
Within o (Ok n) = n ≤ length o
Within o (Err w) = Unit {0}
