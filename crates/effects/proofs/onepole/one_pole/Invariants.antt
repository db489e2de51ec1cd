use mathlib.Core.Path.{◌≡◌}
use lib.ListN.{length}
use Rattle.values.specs.Words.{words}
use Rattle.effects.proofs.Poles.{Runs}
use Rattle.effects.proofs.onepole.one_pole.Given as goal

abbrev pub invariant-loop-i : goal.invariant-loop-i
invariant-loop-i l =
    (length l.cell ≡ length l.initial.cell) × Runs l.b (length l.x) l.x (words l.initial.cell) l.i (words l.cell) l.pole
