use Prim.Native.Nat.{ℕ, ◌+◌, ◌*◌, ◌/◌}
use lib.Ieee.{Float}
use Rattle.effects.proofs.Filled.{Storing}
use Rattle.operators.specs.Operators.{Gives}
use Rattle.operators.proofs.block.put_each.Given as goal

abbrev pub invariant-loop-group : goal.invariant-loop-group
invariant-loop-group g l = (y : ℕ → Float) → Gives (goal.F-post g l.sample) l.count y → Storing y l.at l.count l.fn.cell (4 * l.group) l.cell

abbrev pub invariant-loop-j : goal.invariant-loop-j
invariant-loop-j g l = (y : ℕ → Float) → Gives (goal.F-post g l.sample) l.count y → Storing y l.at l.count l.fn.cell (l.count / 4 * 4 + l.j) l.cell
