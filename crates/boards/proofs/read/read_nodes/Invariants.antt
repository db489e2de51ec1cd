use Prim.Native.Nat.{◌-◌}
use lib.ListN.{length}
use Rattle.boards.proofs.Loops.{NodesSoFar}
use Rattle.boards.proofs.read.read_nodes.Given as goal

abbrev pub invariant-loop-kind : goal.invariant-loop-kind
invariant-loop-kind l = NodesSoFar l.s l.size l.nodes.nodes l.nodes.bounds l.count l.lines l.values l.next

abbrev pub decreases-loop-kind : goal.decreases-loop-kind
decreases-loop-kind l = length l.s - l.next
