-- What the calls use of every accepted board, whatever list it is read from; proofs/Formed.antt proves it of `read_board`. All that
-- document 01 asks of a board is `Obeys`. Definitions only.
use Rattle.std.specs.Prelude.{ℕ, ◌+◌, ◌*◌, ◌≤◌, ◌<◌, ◌≡◌, true, length, get_or}
use Rattle.kinds.specs.Kind.{sources_fit}
use Rattle.kinds.specs.declared.kind.NodeRecord.{NodeRecord}
use Rattle.reading.specs.Order.{Each}
use Rattle.sources.specs.Sources.{distinct_sources}
use Rattle.boards.specs.Wires.{wires_of}
use Rattle.boards.specs.Board.{Parsed, lines_of}
use Rattle.boards.specs.Obeys.{WireObeys}
use Rattle.boards.specs.declared.board.Board.{Board}

-- d stands past the last node
pub record Formed (p : Parsed) : Type 0 where
  pub some_nodes : 0 < length p.nodes
  pub few_lines : lines_of p.nodes ≤ 262144
  pub joins : Each (WireObeys (length p.nodes)) p.wires
  pub sources_fit_lem : (d : NodeRecord) (i : ℕ) → i < length p.nodes → sources_fit (get_or p.nodes i d).kind (length (distinct_sources p.wires i)) ≡ true

-- node v of an accepted board's table: at most eight sources, all of them listed, and nodes
pub record TableAt (b : Board) (v : ℕ) : Type 0 where
  pub few : get_or b.sources.counts v 0 ≤ 8
  pub count_is : get_or b.sources.counts v 0 ≡ length (distinct_sources (wires_of b.wires.list b.wires.count) v)
  pub source_is : (j : ℕ) → j < get_or b.sources.counts v 0 → get_or b.sources.lists (8 * v + j) 0 ≡ get_or (distinct_sources (wires_of b.wires.list b.wires.count) v) j 0
  pub source_in : (j : ℕ) → j < get_or b.sources.counts v 0 → get_or b.sources.lists (8 * v + j) 0 < b.count
