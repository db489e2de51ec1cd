-- `rewire::change::change_text` meets its contract: the sign is the first byte. Assumes nothing.
use Rattle.rewire.specs.Change.{change_line}
use Rattle.rewire.proofs.change.change_text.Goals as goal

pub returns-in-Add : goal.returns-in-Add
unfolding change_line
returns-in-Add c = rw c.in-Add.is c.line.ensures

pub returns-in-Pull : goal.returns-in-Pull
unfolding change_line
returns-in-Pull c = rw c.in-Pull.is c.line-in-Pull.ensures
