use Prim.Native.Nat.{◌*◌, ◌≤◌}
use lib.ListN.{take}
use Rattle.graph.proofs.Lines.{Summed}
use Rattle.graph.proofs.tail.listed_lines.Given as goal

abbrev pub invariant-loop-node : goal.invariant-loop-node
invariant-loop-node l = (l.sum ≤ 262144 * l.node-index) × Summed l.nodes (take l.order.count l.order.nodes) l.sum l.node-index
