use mathlib.Core.Path.{◌≡◌}
use Prim.Native.Nat.{◌≤◌, ◌-◌}
use lib.ListN.{length, drop}
use Rattle.text.specs.Words.{nth_word}
use Rattle.text.proofs.words.nth_word.Given as goal

abbrev pub invariant-loop : goal.invariant-loop
invariant-loop l = (l.at ≤ length l.line) × (l.counter ≤ l.k) × (nth_word l.k l.line ≡ nth_word (l.k - l.counter) (drop l.at l.line))
