-- `records::record::sized` meets its contract: each arm knows whether the length is the one wanted. Assumes nothing.
use borrow.Author.Tests.{eq-eqb, ne_eqb}
use Rattle.records.proofs.record.sized.Goals as goal

pub returns-then-z-n : goal.returns-then-z-n
returns-then-z-n c = simp (eq-eqb _ _ c.if-z-n.true)

pub returns-else-z-n : goal.returns-else-z-n
returns-else-z-n c = simp (ne_eqb _ _ c.if-z-n.false)
