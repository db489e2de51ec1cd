-- `boards::read::node_body` meets its contract: the fields are those of the definition, and each arm knows the rule. Assumes nothing.
use Rattle.boards.specs.BoardParts.{node_read}
use Rattle.boards.proofs.read.node_body.Goals as goal

pub returns-then-node_fits : goal.returns-then-node_fits
unfolding node_read
returns-then-node_fits c =
    simp (← c.u16_at-t.ensures, ← c.u32_at-n.ensures, ← c.u32_at-f.ensures, ← c.in-Some.ensures, ← c.node_fits.ensures, c.if-node_fits.true)

pub returns-else-node_fits : goal.returns-else-node_fits
unfolding node_read
returns-else-node_fits c =
    simp (← c.u16_at-t.ensures, ← c.u32_at-n.ensures, ← c.u32_at-f.ensures, ← c.in-Some.ensures, ← c.node_fits.ensures, c.if-node_fits.false, c.new.ensures)

pub returns-in-None : goal.returns-in-None
unfolding node_read
returns-in-None c = simp (← c.u16_at-t.ensures, ← c.u32_at-n.ensures, ← c.u32_at-f.ensures, ← c.in-None.ensures, c.new-in-None.ensures)
