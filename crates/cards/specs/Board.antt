-- What a card says: the records of its lines, one after the other, and the judge's answer to them; or its first bad line. Definitions only.
use Rattle.std.specs.Prelude.{Result, Ok, Err, ◌≡◌, cond, List, [], ◌∷◌, ◌++◌, ℕ, ◌+◌, eqb, length}
use Rattle.reading.specs.Order.{wire}
use Rattle.boards.specs.Judge.{judge_of}
use Rattle.records.specs.Write.{head_bytes, node_bytes, wire_bytes, end_bytes}
use Rattle.records.specs.declared.answer.Answer.{Answer}
use Rattle.kinds.specs.Types.{type_number}
use Rattle.text.specs.Words.{lines_of}
use Rattle.card_lines.specs.Labels.{unmarked}
use Rattle.card_lines.specs.Line.{said_of}
use Rattle.card_lines.specs.declared.reason.Reason.{Reason}
use Rattle.card_lines.specs.declared.reason.Reason.TheVariants as reason
use Rattle.card_lines.specs.declared.line.Line.{Line}
use Rattle.card_lines.specs.declared.line.Line.TheVariants as line
use Rattle.cards.specs.declared.board.Written.{Written}
use Rattle.cards.specs.declared.board.Wrong.{Wrong}
use Rattle.cards.specs.declared.board.Wrong.TheVariants.{Refused, Bad}

-- ---- the records

-- the bytes that a line adds to the board: its record, or none
abbrev pub record_bytes : Result Line Reason → List ℕ
record_bytes (Ok line.Blank) = []
record_bytes (Ok (line.Head size input)) = head_bytes size input
record_bytes (Ok (line.Node k n f)) = node_bytes (record { type = type_number k; n = n; f = f })
record_bytes (Ok (line.Wire source target)) = wire_bytes (wire source target)
record_bytes (Err r) = []

-- ---- their order: the head first, then at most 64 nodes, then at most 128 wires

abbrev pub written : ℕ → ℕ → ℕ → Written
written at nodes wires = record { at = at; nodes = nodes; wires = wires }

abbrev pub head_step : Written → Result Written Reason
head_step w = cond (eqb w.at 0) (Ok (written 8 0 0)) (Err reason.Late)

abbrev pub node_step : Written → Result Written Reason
node_step w =
    cond (eqb w.at 0) (Err reason.Early)
    (cond (eqb w.wires 0)
    (cond (eqb w.nodes 64) (Err reason.Many) (Ok (written (w.at + 14) (w.nodes + 1) w.wires)))
    (Err reason.Late))

abbrev pub wire_step : Written → Result Written Reason
wire_step w =
    cond (eqb w.at 0) (Err reason.Early)
    (cond (eqb w.wires 128) (Err reason.Many) (Ok (written (w.at + 8) w.nodes (w.wires + 1))))

unfoldable pub step_of : Written → Result Line Reason → Result Written Reason
step_of w (Ok line.Blank) = Ok w
step_of w (Ok (line.Head size input)) = head_step w
step_of w (Ok (line.Node k n f)) = node_step w
step_of w (Ok (line.Wire source target)) = wire_step w
step_of w (Err r) = Err r

-- by whether a line is taken
abbrev pub by_step : {A : Type 0} → Result Written Reason → (Written → A) → (Reason → A) → A
by_step (Ok w) on bad = on w
by_step (Err r) on bad = bad r

-- ---- the whole card

-- what becomes of a card, and the bytes that are written for it
pub record Said : Type 0 where
  pub made : Result ℕ Wrong
  pub bytes : List ℕ

-- the judge's answer to a board's bytes
abbrev pub made_by : ℕ → Answer → Result ℕ Wrong
made_by size a = cond (eqb a.number 0) (Ok size) (Err (Refused a))

abbrev pub judged_of : List ℕ → Said
judged_of board = record { made = made_by (length board) (judge_of board); bytes = board }

-- the lines behind line n of a card, whose lines are `all`, after these bytes: each line's record, and the end record; or the first bad
-- line, with its reason
unfoldable pub card_from : List (List ℕ) → ℕ → Written → List ℕ → List (List ℕ) → Said
card_from all n w bytes [] = judged_of (bytes ++ end_bytes)
card_from all n w bytes (l ∷ ls) =
    by_step (step_of w (said_of all w.nodes l)) (λ next. card_from all (n + 1) next (bytes ++ record_bytes (said_of all w.nodes l)) ls)
    (λ r. record { made = Err (Bad (n + 1) r); bytes = bytes })

-- what lines say, all of a card's
abbrev pub lines_say : List (List ℕ) → Said
lines_say ls = card_from ls 0 (written 0 0 0) [] ls

-- what a card says
abbrev pub card_of : List ℕ → Said
card_of text = lines_say (lines_of (unmarked text))

-- what an answer says of the bytes that are written: they are a board that the judge accepts, or one that it refuses so
abbrev pub Judged : List ℕ → Result ℕ Wrong → Type 0
Judged bytes (Ok n) = (n ≡ length bytes) × ((judge_of bytes).number ≡ 0)
Judged bytes (Err (Refused a)) = (judge_of bytes ≡ a) × (a.number ≡ 0 → ⊥)
Judged bytes (Err (Bad l r)) = Unit {0}
