use Prim.Native.Nat.{◌-◌}
use lib.ListN.{length}
use Rattle.boards.specs.Wires.{wires_of}
use Rattle.sources.proofs.Tabling.{Tabling}
use Rattle.boards.proofs.Loops.{WiresSoFar}
use Rattle.boards.proofs.read.read_wires.Given as goal

abbrev pub invariant-loop-ins : goal.invariant-loop-ins
invariant-loop-ins l =
    WiresSoFar l.s l.start l.i l.wires.list l.count l.next × Tabling (wires_of l.wires.list l.count) l.sources.counts l.sources.lists l.sources.seconds l.ins

abbrev pub decreases-loop-ins : goal.decreases-loop-ins
decreases-loop-ins l = length l.s - l.next
