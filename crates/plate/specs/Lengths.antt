-- The answer of the two calls that give a line's length (document 01, "Leaves"): 0 and the length, or 12 with a place of 0. Definitions only.
use Rattle.std.specs.Prelude.{Option, ℕ}
use Rattle.leaves.specs.Lengths.{number_of, place_of}
use Rattle.records.specs.Answer.{answer}
use Rattle.records.specs.declared.answer.Answer.{Answer}

abbrev pub length_answer : Option ℕ → Answer
length_answer l = answer (number_of l) (place_of l)
