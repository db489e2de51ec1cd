use Prim.Native.Nat.{◌≤◌}
use lib.ListN.{length}
use Rattle.answers.proofs.fault.after_records.Given as goal

abbrev pub invariant-loop-record : goal.invariant-loop-record
invariant-loop-record g l = length l.rest ≤ length l.s

abbrev pub decreases-loop-record : goal.decreases-loop-record
decreases-loop-record g l = length l.rest
