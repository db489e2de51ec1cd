-- The board as the code holds it, in arrays, and the reading that it stands for. Definitions only.
use Rattle.std.specs.Prelude.{◌≤◌, ◌<◌, ◌≡◌, take, Result, Ok, Err}
use Rattle.records.specs.declared.answer.Answer.{Answer}
use Rattle.boards.specs.Board.{Parsed, Progress, whole, cells_of}
use Rattle.sources.specs.Sources.{Tabled}
use Rattle.boards.specs.Wires.{Joined, wires_of}
use Rattle.boards.specs.BoardParts.{Refuses, made_of}
use Rattle.boards.specs.declared.board.Board.{Board}
use Rattle.boards.specs.declared.board.Head.{Head}
use Rattle.boards.specs.declared.board.Wires.{Wires}
use Rattle.boards.specs.declared.nodes.Nodes.{Nodes}
use Rattle.sources.specs.declared.sources.Sources.{Sources}

-- what the arrays say, as far as they are filled
abbrev pub parsed_of : Board → Parsed
parsed_of b = record {
  size = b.size;
  input = b.input;
  nodes = take b.count b.nodes;
  wires = wires_of b.wires.list b.wires.count;
}

-- what was read stands for the reading v: v is whole and the board's arrays say what v says, or v is refused with that answer
abbrev pub Read : Progress → Result Board Answer → Type 0
Read v (Ok b) = v ≡ whole (parsed_of b)
Read v (Err a) = Refuses v a

-- the parts that were read: they say what v says, and hold what every board holds
pub record Together (v : Progress) (h : Head) (n : Nodes) (w : Wires) (t : Sources) : Type 0 where
  pub reads : v ≡ whole (made_of h n (wires_of w.list w.count))
  pub small : h.size ≤ 128
  pub near : h.input < 65536
  pub sum : n.values ≡ cells_of h.size (take n.count n.nodes)
  pub held : n.values ≤ 278720
  pub joined : Joined n.count w.list w.count
  pub table : Tabled (wires_of w.list w.count) t.counts t.lists t.seconds

abbrev pub PartsRead : Progress → Nodes → Wires → Sources → Result Head Answer → Type 0
PartsRead v n w t (Ok h) = Together v h n w t
PartsRead v n w t (Err a) = Refuses v a
