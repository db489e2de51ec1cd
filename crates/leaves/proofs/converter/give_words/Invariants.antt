use Prim.Native.Nat.{◌*◌}
use mathlib.Core.Path.{◌≡◌}
use lib.ListN.{length, take}
use Rattle.values.specs.Words.{words}
use Rattle.leaves.specs.Converter.{words_of}
use Rattle.leaves.proofs.converter.give_words.Given as goal

abbrev pub invariant-loop-i : goal.invariant-loop-i
invariant-loop-i l = (length l.out ≡ length l.initial.out) × (take (3 * l.i) l.out ≡ words_of (take l.i (words l.floats)))
