-- Cards that antt reads by computing the definitions, under one statement: document 01's printed board, names and
-- milliseconds, and bad lines of each kind.
-- Assumes nothing.
use mathlib.Core.Path.{◌≡◌, refl, ap, ◌∙◌}
use mathlib.Core.List.{List, [], ◌∷◌}
use Prim.Native.Nat.{ℕ}
use lib.Ieee.{round, mul, div, eq, lt, le, of_bits, to_bits}
use lib.ListN.{length}
use Rattle.values.specs.Floors.{within, floor_of}
use Rattle.leaves.specs.Lengths.{samples_of, delay_of}
use Rattle.std.specs.Prelude.{Ok, Err}
use Rattle.boards.specs.Board.{take_found, step_of as record_step, run, read_records}
use Rattle.boards.specs.Judge.{read_board, judge_of}
use Rattle.records.specs.Record.{found_at}
use Rattle.boards.specs.JudgeCases.{printed, printed_judged}
use Rattle.records.specs.Answer.{answer}
use Rattle.records.specs.declared.answer.Answer.{Answer}
use Rattle.decimals.specs.Decimal.{nearest_to}
use Rattle.decimals.specs.Number.{digit_of, digits_from, read_from, whole_of, digits_of, number_from, all_of, power_of, scaled, decimal, float_of}
use Rattle.text.specs.Words.{ahead, next_word, nth_word, count_from, lines_of}
use Rattle.card_lines.specs.Names.{named}
use Rattle.card_lines.specs.Line.{record_line, plain_line, labelled_line, line_of, said_of}
use Rattle.card_lines.specs.Labels.{all_inner, label_of, body_of, nodes_in, node_named, end_of}
use Rattle.card_lines.specs.LineLengths.{length_of}
use Rattle.cards.specs.Board.{step_of, made_by, judged_of, card_from, card_of}
use Rattle.card_lines.specs.declared.reason.Reason.TheVariants as reason
use Rattle.cards.specs.declared.board.Wrong.TheVariants.{Refused, Bad}

-- document 01's printed board: block 2 input 1  # a loop; destination; pass; add 0; delay 1; mul 0.5; ; wire 1 2; wire 2 3; wire 3 4; wire 4 2; wire 3 0
abbrev loop : List ℕ
loop =
    98 ∷ 108 ∷ 111 ∷ 99 ∷ 107 ∷ 32 ∷ 50 ∷ 32 ∷ 105 ∷ 110 ∷ 112 ∷ 117 ∷ 116 ∷ 32 ∷ 49 ∷ 32 ∷ 32 ∷ 35 ∷ 32 ∷ 97 ∷ 32 ∷ 108 ∷ 111 ∷ 111
    ∷ 112 ∷ 10 ∷ 100 ∷ 101 ∷ 115 ∷ 116 ∷ 105 ∷ 110 ∷ 97 ∷ 116 ∷ 105 ∷ 111 ∷ 110 ∷ 10 ∷ 112 ∷ 97 ∷ 115 ∷ 115 ∷ 10 ∷ 97 ∷ 100 ∷ 100 ∷ 32 ∷ 48
    ∷ 10 ∷ 100 ∷ 101 ∷ 108 ∷ 97 ∷ 121 ∷ 32 ∷ 49 ∷ 10 ∷ 109 ∷ 117 ∷ 108 ∷ 32 ∷ 48 ∷ 46 ∷ 53 ∷ 10 ∷ 10 ∷ 119 ∷ 105 ∷ 114 ∷ 101 ∷ 32 ∷ 49
    ∷ 32 ∷ 50 ∷ 10 ∷ 119 ∷ 105 ∷ 114 ∷ 101 ∷ 32 ∷ 50 ∷ 32 ∷ 51 ∷ 10 ∷ 119 ∷ 105 ∷ 114 ∷ 101 ∷ 32 ∷ 51 ∷ 32 ∷ 52 ∷ 10 ∷ 119 ∷ 105 ∷ 114
    ∷ 101 ∷ 32 ∷ 52 ∷ 32 ∷ 50 ∷ 10 ∷ 119 ∷ 105 ∷ 114 ∷ 101 ∷ 32 ∷ 51 ∷ 32 ∷ 48 ∷ 10 ∷ []

-- a card whose first line is `block 2 input 1`
abbrev headed : List ℕ → List ℕ
headed s = 98 ∷ 108 ∷ 111 ∷ 99 ∷ 107 ∷ 32 ∷ 50 ∷ 32 ∷ 105 ∷ 110 ∷ 112 ∷ 117 ∷ 116 ∷ 32 ∷ 49 ∷ 10 ∷ s

-- pas
abbrev unknown : List ℕ
unknown = headed (112 ∷ 97 ∷ 115 ∷ 10 ∷ [])

-- sum 1
abbrev too_many : List ℕ
too_many = headed (115 ∷ 117 ∷ 109 ∷ 32 ∷ 49 ∷ 10 ∷ [])

-- pass
abbrev early : List ℕ
early = 112 ∷ 97 ∷ 115 ∷ 115 ∷ []

-- wire 1 -2
abbrev no_number : List ℕ
no_number = headed (10 ∷ 119 ∷ 105 ∷ 114 ∷ 101 ∷ 32 ∷ 49 ∷ 32 ∷ 45 ∷ 50 ∷ [])

-- mul 0.x
abbrev no_float : List ℕ
no_float = headed (109 ∷ 117 ∷ 108 ∷ 32 ∷ 48 ∷ 46 ∷ 120 ∷ [])

-- mul 1e61
abbrev too_long : List ℕ
too_long = headed (109 ∷ 117 ∷ 108 ∷ 32 ∷ 49 ∷ 101 ∷ 54 ∷ 49 ∷ [])

-- # nothing
abbrev nothing : List ℕ
nothing = 35 ∷ 32 ∷ 110 ∷ 111 ∷ 116 ∷ 104 ∷ 105 ∷ 110 ∷ 103 ∷ 10 ∷ []

-- in: pass; delay 10ms; wire in 0; and `block 2 input in` before them, behind a byte-order mark
abbrev by_name : List ℕ
by_name = 239 ∷ 187 ∷ 191 ∷ 98 ∷ 108 ∷ 111 ∷ 99 ∷ 107 ∷ 32 ∷ 50 ∷ 32 ∷ 105 ∷ 110 ∷ 112 ∷ 117 ∷ 116 ∷ 32 ∷ 105 ∷ 110 ∷ 10 ∷ 100 ∷ 101 ∷ 115 ∷ 116 ∷ 105 ∷ 110 ∷ 97 ∷ 116 ∷ 105 ∷ 111 ∷ 110 ∷ 10 ∷ 105 ∷ 110 ∷ 58 ∷ 32 ∷ 112 ∷ 97 ∷ 115 ∷ 115 ∷ 10 ∷ 100 ∷ 101 ∷ 108 ∷ 97 ∷ 121 ∷ 32 ∷ 49 ∷ 48 ∷ 109 ∷ 115 ∷ 10 ∷ 119 ∷ 105 ∷ 114 ∷ 101 ∷ 32 ∷ 105 ∷ 110 ∷ 32 ∷ 50 ∷ 10 ∷ []

-- the same by numbers, and by samples
abbrev by_number : List ℕ
by_number = 98 ∷ 108 ∷ 111 ∷ 99 ∷ 107 ∷ 32 ∷ 50 ∷ 32 ∷ 105 ∷ 110 ∷ 112 ∷ 117 ∷ 116 ∷ 32 ∷ 49 ∷ 10 ∷ 100 ∷ 101 ∷ 115 ∷ 116 ∷ 105 ∷ 110 ∷ 97 ∷ 116 ∷ 105 ∷ 111 ∷ 110 ∷ 10 ∷ 112 ∷ 97 ∷ 115 ∷ 115 ∷ 10 ∷ 100 ∷ 101 ∷ 108 ∷ 97 ∷ 121 ∷ 32 ∷ 52 ∷ 52 ∷ 49 ∷ 10 ∷ 119 ∷ 105 ∷ 114 ∷ 101 ∷ 32 ∷ 49 ∷ 32 ∷ 50 ∷ 10 ∷ []

-- in: pass, twice
abbrev twice : List ℕ
twice = headed (100 ∷ 101 ∷ 115 ∷ 116 ∷ 105 ∷ 110 ∷ 97 ∷ 116 ∷ 105 ∷ 111 ∷ 110 ∷ 10 ∷ 105 ∷ 110 ∷ 58 ∷ 32 ∷ 112 ∷ 97 ∷ 115 ∷ 115 ∷ 10 ∷ 105 ∷ 110 ∷ 58 ∷ 32 ∷ 112 ∷ 97 ∷ 115 ∷ 115 ∷ 10 ∷ [])

-- wire in 0
abbrev missing : List ℕ
missing = headed (119 ∷ 105 ∷ 114 ∷ 101 ∷ 32 ∷ 105 ∷ 110 ∷ 32 ∷ 48 ∷ 10 ∷ [])

-- in: wire 1 2
abbrev no_node : List ℕ
no_node = headed (105 ∷ 110 ∷ 58 ∷ 32 ∷ 119 ∷ 105 ∷ 114 ∷ 101 ∷ 32 ∷ 49 ∷ 32 ∷ 50 ∷ 10 ∷ [])

-- 9in: pass
abbrev malformed : List ℕ
malformed = headed (57 ∷ 105 ∷ 110 ∷ 58 ∷ 32 ∷ 112 ∷ 97 ∷ 115 ∷ 115 ∷ 10 ∷ [])

-- delay 3001ms
abbrev out_of_range : List ℕ
out_of_range = headed (100 ∷ 101 ∷ 108 ∷ 97 ∷ 121 ∷ 32 ∷ 51 ∷ 48 ∷ 48 ∷ 49 ∷ 109 ∷ 115 ∷ 10 ∷ [])

pub record Worked : Type 0 where
  pub loop_made : card_of loop ≡ record { made = Ok 122; bytes = printed }
  pub unknown_name : (card_of unknown).made ≡ Err (Bad 2 reason.Name)
  pub field_too_many : (card_of too_many).made ≡ Err (Bad 2 reason.Fields)
  pub before_the_head : (card_of early).made ≡ Err (Bad 1 reason.Early)
  pub no_whole_number : (card_of no_number).made ≡ Err (Bad 3 reason.Whole)
  pub no_float_lem : (card_of no_float).made ≡ Err (Bad 2 reason.Float)
  pub decimal_too_long : (card_of too_long).made ≡ Err (Bad 2 reason.Long)
  pub named_alike : card_of by_name ≡ card_of by_number
  pub name_twice : (card_of twice).made ≡ Err (Bad 4 reason.Twice)
  pub name_missing : (card_of missing).made ≡ Err (Bad 2 reason.Missing)
  pub name_of_no_node : (card_of no_node).made ≡ Err (Bad 2 reason.NoNode)
  pub name_malformed : (card_of malformed).made ≡ Err (Bad 2 reason.Label)
  pub out_of_range_lem : (card_of out_of_range).made ≡ Err (Bad 2 reason.Range)
  -- no head: refusal 2 at offset 0
  pub nothing_refused : (card_of nothing).made ≡ Err (Refused (answer 2 0))

loop-read : card_of loop ≡ judged_of printed
unfolding card_from step_of said_of line_of plain_line end_of length_of record_line named lines_of ahead nth_word count_from whole_of read_from digit_of float_of decimal digits_of digits_from power_of scaled all_of number_from nearest_to round to_bits
loop-read = refl

pub worked : Worked
unfolding card_from step_of said_of line_of plain_line labelled_line label_of body_of nodes_in node_named all_inner end_of length_of delay_of within samples_of floor_of mul div eq lt le of_bits record_line named lines_of ahead next_word nth_word count_from whole_of read_from digit_of float_of decimal digits_of digits_from power_of scaled all_of number_from nearest_to round to_bits judge_of read_board read_records run record_step take_found found_at
worked = record {
  loop_made = loop-read ∙ ap (λ (a : Answer). record { made = made_by (length printed) a; bytes = printed }) printed_judged;
  unknown_name = refl;
  field_too_many = refl;
  before_the_head = refl;
  no_whole_number = refl;
  no_float_lem = refl;
  decimal_too_long = refl;
  named_alike = refl;
  name_twice = refl;
  name_missing = refl;
  name_of_no_node = refl;
  name_malformed = refl;
  out_of_range_lem = refl;
  nothing_refused = refl;
}
