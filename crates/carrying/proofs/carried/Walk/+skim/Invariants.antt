-- The measure of `carrying::carried::Walk::skim` is the number of unmarked nodes.
use Rattle.graph.specs.Walking.{unmarked}
use Rattle.carrying.proofs.Going.{Going}
use Rattle.carrying.proofs.carried.Walk.+skim.Given as goal

abbrev pub decreases-skim : goal.decreases-skim
decreases-skim l = unmarked l.self.now.marks

abbrev pub invariant-loop-source : goal.invariant-loop-source
invariant-loop-source l =
    Going l.ground.sources.now.counts l.ground.sources.now.lists l.ground.old.now.nodes l.ground.old.now.count l.ground.change.adding l.ground.change.source l.ground.change.target l.node
    l.initial.self.marks l.initial.self.order.nodes l.initial.self.order.count l.initial.self.at l.self.marks l.self.order.nodes l.self.order.count l.self.at l.source-index
