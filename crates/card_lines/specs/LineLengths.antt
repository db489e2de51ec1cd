-- The length of a line, in samples or in milliseconds (`300ms`). Definitions only.
use Rattle.std.specs.Prelude.{Option, Some, None, Result, Ok, Err, Bool, cond, List, [], ◌∷◌, ℕ, ◌-◌, length, take, drop}
use Rattle.std.specs.Float.{binary32}
use Rattle.std.specs.Float.Ieee.{of_bits}
use Rattle.leaves.specs.Lengths.{delay_of, all_pass_of}
use Rattle.decimals.specs.Number.{whole_of, float_of}
use Rattle.decimals.specs.declared.number.FloatError.{FloatError}
use Rattle.kinds.specs.declared.types.Kind.{Kind}
use Rattle.kinds.specs.declared.types.Kind.TheVariants as kind
use Rattle.card_lines.specs.Names.{alike}
use Rattle.card_lines.specs.Reason.{float_reason}
use Rattle.card_lines.specs.declared.reason.Reason.{Reason}
use Rattle.card_lines.specs.declared.reason.Reason.TheVariants as reason

-- `ms` at the end of a word, and what stands before it
abbrev pub ms_name : List ℕ
ms_name = 109 ∷ 115 ∷ []

abbrev pub in_ms : List ℕ → Bool
in_ms word = alike (drop (length word - 2) word) ms_name

-- document 01's lengths: of a delay, and of an all-pass, for milliseconds by their bits
abbrev pub length_for : Kind → ℕ → Option ℕ
length_for kind.Delay ms = delay_of (of_bits binary32 ms)
length_for _ ms = all_pass_of (of_bits binary32 ms)

abbrev pub length_by : Option ℕ → Result ℕ Reason
length_by (Some n) = Ok n
length_by None = Err reason.Range

abbrev pub ms_length : Kind → Result ℕ FloatError → Result ℕ Reason
ms_length k (Ok ms) = length_by (length_for k ms)
ms_length k (Err e) = Err (float_reason e)

abbrev pub whole_length : Option ℕ → Result ℕ Reason
whole_length (Some n) = Ok n
whole_length None = Err reason.Whole

-- the length that a word says for a type
unfoldable pub length_of : Kind → List ℕ → Result ℕ Reason
length_of k word = cond (in_ms word) (ms_length k (float_of (take (length word - 2) word))) (whole_length (whole_of word 4294967295))
