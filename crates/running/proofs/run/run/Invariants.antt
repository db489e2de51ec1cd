use mathlib.Core.Path.{◌≡◌}
use lib.ListN.{length}
use Rattle.running.proofs.CallRun.{Running}
use Rattle.running.proofs.run.run.Given as goal

abbrev pub invariant-loop-node : goal.invariant-loop-node
invariant-loop-node l = Running l.board l.initial.memory l.memory l.node-index × (length l.x ≡ l.board.size) × (length l.m ≡ l.board.size)
