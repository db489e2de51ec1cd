use mathlib.Core.Path.{◌≡◌}
use lib.ListN.{drop}
use Rattle.values.specs.Words.{words}
use Rattle.memory.specs.Memory.{check_cells}
use Rattle.memory.proofs.open.cells_judged.Given as goal

abbrev pub invariant-loop-i : goal.invariant-loop-i
invariant-loop-i l = check_cells (words l.memory) l.i (drop l.i l.nodes) ≡ check_cells (words l.memory) 0 l.nodes
