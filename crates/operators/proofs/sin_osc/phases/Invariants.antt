use Prim.Native.Nat.{◌-◌}
use lib.ListN.{length}
use Rattle.operators.proofs.Phases.{Climbing}
use Rattle.operators.proofs.sin_osc.phases.Given as goal

abbrev pub invariant-loop-done : goal.invariant-loop-done
invariant-loop-done l = Climbing l.by l.start (length l.initial.units) l.done l.units l.phase

abbrev pub decreases-loop-done : goal.decreases-loop-done
decreases-loop-done l = length l.units - l.done
