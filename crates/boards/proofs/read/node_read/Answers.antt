-- `boards::read::node_read` meets its contract: a node that is known by its first four bytes is the one found. Assumes nothing.
use mathlib.Core.Path.{sym, ap, ◌∙◌}
use Rattle.boards.specs.BoardParts.{node_read}
use Rattle.boards.proofs.RecordSteps.{starts_node, starts_no_node}
use Rattle.boards.proofs.read.node_read.Goals as goal

pub returns-then-starts_with : goal.returns-then-starts_with
returns-then-starts_with c =
    let a = c.args in
    c.node_body.ensures ∙ sym (ap (node_read a.s.now a.at a.i a.lines) (starts_node a.s.now a.at (sym c.starts_with.ensures ∙ c.if-starts_with.true)))

pub returns-else-starts_with : goal.returns-else-starts_with
returns-else-starts_with c =
    let a = c.args in
    c.nodes_end.ensures ∙ (sym (starts_no_node a.s.now a.at a.i a.lines (sym c.starts_with.ensures ∙ c.if-starts_with.false)))
