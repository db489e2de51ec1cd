-- A change of wires as a line of text. Definitions only.
use Rattle.std.specs.Prelude.{ℕ, cond, Option, Some, None, Result, Ok, Err, List, [], ◌∷◌, eqb}
use Rattle.decimals.specs.Number.{whole_of}
use Rattle.text.specs.Words.{nth_word}
use Rattle.text.specs.Written.{pair}
use Rattle.rewire.specs.declared.change.NoChange.{NoChange}
use Rattle.rewire.specs.declared.change.Request.{Request}
use Rattle.rewire.specs.declared.change.Request.TheVariants.{Add, Pull}

abbrev pub no_change : Result (Option Request) NoChange
no_change = Err (record {})

-- "+" adds a wire, "-" pulls one
abbrev pub signed : ℕ → ℕ → ℕ → Result (Option Request) NoChange
signed sign s t = cond (eqb sign 43) (Ok (Some (Add s t))) (cond (eqb sign 45) (Ok (Some (Pull s t))) no_change)

-- a sign and two numbers, where there are two
abbrev pub by_numbers : ℕ → Option ℕ → Option ℕ → Result (Option Request) NoChange
by_numbers sign (Some s) (Some t) = signed sign s t
by_numbers sign (Some s) None = no_change
by_numbers sign None t = no_change

-- what the first word, the two numbers and the word behind them say
abbrev pub by_words : List ℕ → Option ℕ → Option ℕ → List ℕ → Result (Option Request) NoChange
by_words [] s t more = Ok None
by_words (c ∷ d ∷ sign) s t more = no_change
by_words (c ∷ []) s t (d ∷ more) = no_change
by_words (c ∷ []) s t [] = by_numbers c s t

-- a line: nothing but spaces; or a sign, source and target; or no change
unfoldable pub change_of : List ℕ → Result (Option Request) NoChange
change_of line = by_words (nth_word 0 line) (whole_of (nth_word 1 line) 65535) (whole_of (nth_word 2 line) 65535) (nth_word 3 line)

-- the change written again: sign, source and target, one space between
unfoldable pub change_line : Request → List ℕ
change_line (Add s t) = pair (43 ∷ 32 ∷ []) s (32 ∷ []) t (10 ∷ [])
change_line (Pull s t) = pair (45 ∷ 32 ∷ []) s (32 ∷ []) t (10 ∷ [])
