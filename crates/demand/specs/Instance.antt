-- What is known of what is lent while a board that reads as p plays. Scaffolding, of which the statements say nothing. Definitions only.
use Rattle.std.specs.Prelude.{◌≡◌}
use Rattle.values.specs.Words.{Bytes}
use Rattle.boards.specs.Board.{Parsed, whole}
use Rattle.boards.specs.Judge.{read_board}
use Rattle.boards.specs.BoardParts.{wired as with_wires}
use Rattle.demand.specs.Requests.{Lent, board_in, wires_on}

-- its board is p's nodes with some wires
pub record Plays (p : Parsed) (l : Lent) : Type 0 where
  pub are_bytes : Bytes l.bytes
  pub reads : read_board (board_in l) ≡ whole (with_wires p (wires_on l))
