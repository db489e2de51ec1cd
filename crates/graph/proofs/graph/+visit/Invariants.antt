-- The measure of `graph::graph::visit` is the number of unmarked nodes.
use Rattle.graph.specs.Walking.{unmarked}
use Rattle.graph.proofs.Going.{Going}
use Rattle.graph.proofs.graph.+visit.Given as goal

abbrev pub decreases-visit : goal.decreases-visit
decreases-visit l = unmarked l.marks.now

abbrev pub invariant-loop-source : goal.invariant-loop-source
invariant-loop-source l =
    Going l.sources.counts l.sources.lists l.node l.initial.marks l.initial.order.nodes l.initial.order.count l.marks l.order.nodes l.order.count l.source-index
