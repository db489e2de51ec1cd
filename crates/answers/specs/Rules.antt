-- How long the words of a rule are. Definitions only.
use Rattle.std.specs.Prelude.{ℕ}
use Rattle.answers.specs.declared.fault.Fault.{Fault}
use Rattle.answers.specs.declared.fault.Fault.TheVariants.{Sources}

-- the most bytes of a rule's words; few where three numbers follow them
abbrev pub most_words : Fault → ℕ
most_words (Sources has few many) = 9
most_words _ = 90
