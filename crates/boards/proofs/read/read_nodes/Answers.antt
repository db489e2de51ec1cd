-- `boards::read::read_nodes` meets its contract. The loop's invariant is `NodesSoFar`, and its measure what is left of the bytes.
-- Assumes nothing.
use Rattle.std.specs.Prelude.{Ok}
use mathlib.Core.Path.{ap, ◌∙◌}
use native.Mathlib.Omega.{arith}
use Rattle.boards.proofs.Loops.{nodes_start, node_here, nodes_more, nodes_ended, nodes_refused}
use Rattle.boards.proofs.read.read_nodes.Goals as goal
use Rattle.boards.proofs.read.read_nodes.Goals.{in-Ok-None, in-Err}

pub loop-kind-init : goal.loop-kind-init
loop-kind-init c = nodes_start _ _ _ _ c.args.nodes.now.long c.args.nodes.now.wide c.requires.1

pub node_read-requires : goal.node_read-requires
node_read-requires c =
    let at = c.loop-kind.invariant in
    (at.few_lines, at.inside, omega (arith, at.next_is, at.few))

pub bounds-nodes-count-in-Ok-Some : goal.bounds-nodes-count-in-Ok-Some
bounds-nodes-count-in-Ok-Some c = (node_here _ _ _ _ _ _ _ _ c.loop-kind.invariant c.node_read.ensures (c.in-Ok-Some.is ∙ ap Ok c.in-Ok-Some.field-0-is)).1.room

pub bounds-nodes-count : goal.bounds-nodes-count
bounds-nodes-count c = (node_here _ _ _ _ _ _ _ _ c.loop-kind.invariant c.node_read.ensures (c.in-Ok-Some.is ∙ ap Ok c.in-Ok-Some.field-0-is)).1.room

pub loop-kind-smaller : goal.loop-kind-smaller
loop-kind-smaller c = omega (arith, (node_here _ _ _ _ _ _ _ _ c.loop-kind.invariant c.node_read.ensures (c.in-Ok-Some.is ∙ ap Ok c.in-Ok-Some.field-0-is)).2)

pub loop-kind-preserved : goal.loop-kind-preserved
loop-kind-preserved c =
    let here = node_here _ _ _ _ _ _ _ _ c.loop-kind.invariant c.node_read.ensures (c.in-Ok-Some.is ∙ ap Ok c.in-Ok-Some.field-0-is) in
    rw (c.from.ensures, c.channels_of-channels.ensures, c.line_of-line.ensures.0)
    (nodes_more _ _ _ _ _ _ _ _ c.loop-kind.invariant c.in-Ok-Some.kind here c.requires.0 _ c.bounds_of.ensures)

pub returns : goal.returns
returns c =
    let at = c.loop-kind.invariant in
    elim c.match-node_read.branch [
      | in-Ok-None w ↦ rw w.read-is (nodes_ended _ _ _ _ _ _ _ _ at _ _ _ (node_here _ _ _ _ _ _ _ _ at c.node_read.ensures (w.in-Ok-None.is ∙ ap Ok w.in-Ok-None.field-0-is)))
      | in-Err w ↦ rw w.read-is (nodes_refused _ _ _ _ _ _ _ _ at _ _ _ _ (node_here _ _ _ _ _ _ _ _ at c.node_read.ensures w.in-Err.is))
    ]
