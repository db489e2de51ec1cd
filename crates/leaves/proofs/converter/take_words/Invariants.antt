use mathlib.Core.Path.{◌≡◌}
use mathlib.Core.List.{map}
use lib.Ieee.{binary32, to_bits}
use lib.ListN.{length, take}
use Rattle.leaves.specs.Converter.{of_word, triples}
use Rattle.values.specs.Words.{Bytes, words}
use Rattle.leaves.proofs.converter.take_words.Given as goal

abbrev pub invariant-loop-i : goal.invariant-loop-i
invariant-loop-i l = (length l.floats ≡ length l.initial.floats) × Bytes l.floats × (take l.i (words l.floats) ≡ take l.i (map (λ u. to_bits binary32 (of_word u)) (triples l.input)))
