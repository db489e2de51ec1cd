-- What drawing a board asks of it. Definitions only.
use Rattle.graph.specs.Walking.{Table, Gathered}
use Rattle.boards.specs.Wires.{wires_of}
use Rattle.boards.specs.declared.board.Board.{Board}

-- the board was accepted, so its table holds the sources of its wires
pub record Accepted (b : Board) : Type 0 where
  pub table : Table b.sources.counts b.sources.lists
  pub gathered : Gathered (wires_of b.wires.list b.wires.count) b.sources.counts b.sources.lists
