use mathlib.Core.Path.{◌≡◌}
use lib.ListN.{drop}
use Rattle.values.specs.Words.{words}
use Rattle.running.specs.Run.{left_start, right_start}
use Rattle.memory.specs.Memory.{check_cells}
use Rattle.running.specs.Lent.{Started}
use Rattle.running.proofs.run.starts_judged.Given as goal

abbrev pub invariant-loop-i : goal.invariant-loop-i
invariant-loop-i l =
    Started left_start l.nodes l.i l.starts.lefts × Started (right_start l.size) l.nodes l.i l.starts.rights
    × (check_cells (words l.memory) l.i (drop l.i l.nodes) ≡ check_cells (words l.memory) 0 l.nodes)
