use mathlib.Core.Path.{◌≡◌}
use Prim.Native.Nat.{◌≤◌, ◌+◌}
use lib.ListN.{length, drop}
use Rattle.text.specs.Words.{count_from, word_count}
use Rattle.text.proofs.words.word_count.Given as goal

abbrev pub invariant-loop-byte : goal.invariant-loop-byte
invariant-loop-byte l = (l.byte-index ≤ length l.line) × (l.count ≤ l.byte-index) × (l.count + count_from l.inside (drop l.byte-index l.line) ≡ word_count l.line)
