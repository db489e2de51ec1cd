use Prim.Native.Nat.{◌+◌, ◌*◌, ◌/◌}
use lib.ListN.{length}
use lib.Ieee.{Float}
use Rattle.values.specs.Words.{words}
use Rattle.effects.proofs.Filled.{Filling}
use Rattle.operators.specs.Operators.{Computes, joined}
use Rattle.operators.proofs.block.join.Given as goal

abbrev pub invariant-loop-group : goal.invariant-loop-group
invariant-loop-group g l =
    (o : Float → Float → Float) → Computes (goal.F-post g l.op) o → Filling (joined o l.fn.x (words l.memory) l.at) (length l.fn.x) l.fn.x (4 * l.group) l.x

abbrev pub invariant-loop-j : goal.invariant-loop-j
invariant-loop-j g l =
    (o : Float → Float → Float) → Computes (goal.F-post g l.op) o → Filling (joined o l.fn.x (words l.memory) l.at) (length l.fn.x) l.fn.x (length l.fn.x / 4 * 4 + l.j) l.x
