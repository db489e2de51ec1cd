use mathlib.Core.Path.{◌≡◌}
use lib.ListN.{length}
use Rattle.rewire.specs.Step.{Plays}
use Rattle.rewire.proofs.show_changes.Given as goal

abbrev pub invariant-loop-i : goal.invariant-loop-i
invariant-loop-i g l =
    (goal.iterator-loop-i g).can_next l.i-iterator
    × (goal.iterator-loop-i g).is_finite l.i-iterator
    × (length l.bytes ≡ length l.initial.bytes)
    × Plays l.bytes l.n
