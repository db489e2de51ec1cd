use Rattle.allpass.proofs.Splits.{Splitting}
use Rattle.allpass.proofs.apfmsgain.splits.Given as goal

abbrev pub invariant-loop-i : goal.invariant-loop-i
invariant-loop-i l = Splitting l.initial.p l.i l.p l.floors
