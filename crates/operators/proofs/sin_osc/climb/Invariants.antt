use lib.ListN.{length}
use Rattle.operators.proofs.Phases.{Climbing}
use Rattle.operators.proofs.sin_osc.climb.Given as goal

abbrev pub invariant-loop-i : goal.invariant-loop-i
invariant-loop-i l = Climbing l.by l.start (length l.initial.units) l.i l.units l.phase
