use Prim.Native.Nat.{◌≤◌, ◌+◌}
use lib.ListN.{length}
use Rattle.answers.proofs.answer.push_words.Given as goal

abbrev pub invariant-loop-word : goal.invariant-loop-word
invariant-loop-word l =
    goal.iterator-loop-word.can_next l.word-iterator
    × goal.iterator-loop-word.is_finite l.word-iterator
    × (l.room ≤ 60)
    × (length l.out + l.room ≤ length l.initial.out + 60)
