-- `card_lines::line::record_line` meets its contract, by the name. Assumes nothing.
use Rattle.card_lines.specs.Line.{record_line}
use Rattle.card_lines.proofs.line.record_line.Goals as goal

pub returns-in-Head : goal.returns-in-Head
unfolding record_line
returns-in-Head c = rw c.in-Head.is c.head_line.ensures

pub returns-in-Node : goal.returns-in-Node
unfolding record_line
returns-in-Node c = rw c.in-Node.is c.node_line.ensures

pub returns-in-Wire : goal.returns-in-Wire
unfolding record_line
returns-in-Wire c = rw c.in-Wire.is c.wire_line.ensures
