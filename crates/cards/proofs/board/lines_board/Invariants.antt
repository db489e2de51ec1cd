use mathlib.Core.Path.{◌≡◌}
use Prim.Native.Nat.{◌+◌, ◌≤◌}
use lib.ListN.{length}
use Rattle.text.specs.Words.{lines_of}
use Rattle.cards.specs.Adding.{Room}
use Rattle.cards.proofs.Making.{Partly}
use Rattle.cards.proofs.board.lines_board.Given as goal

abbrev pub invariant-loop-i : goal.invariant-loop-i
invariant-loop-i l =
    goal.iterator-loop-i.can_next l.i-iterator
    × goal.iterator-loop-i.is_finite l.i-iterator
    × (l.i-iterator.count + length (lines_of l.i-iterator.iter.rest.now) ≤ length (lines_of l.text))
    × (length l.out ≡ length l.initial.out)
    × Room l.done
    × Partly l.text l.initial.out l.out l.done l.i-iterator.count (lines_of l.i-iterator.iter.rest.now)
