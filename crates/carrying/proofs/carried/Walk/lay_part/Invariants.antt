use Prim.Native.Nat.{◌+◌}
use Rattle.carrying.specs.Skimming.{LaidPart}
use Rattle.carrying.proofs.carried.Walk.lay_part.Given as goal

abbrev pub invariant-loop-node : goal.invariant-loop-node
invariant-loop-node l =
    LaidPart l.old.nodes l.initial.self.at (l.initial.self.at + l.node-index) l.initial.self.marks l.initial.self.order.nodes l.initial.self.order.count
    l.self.marks l.self.order.nodes l.self.order.count
