-- The tail of a board (document 01, "Leaves"): with no late wire and listed types 1 to 5 and 7 only, the sum of listed lines; else endless.
-- Definitions only.
use Rattle.std.specs.Prelude.{ℕ, ◌+◌, ◌<◌, ◌≤◌, Bool, true, cond, ◌&&◌, ◌||◌, List, [], ◌∷◌, length, get_or, eqb, leb, Option, Some, None, Result, Ok, Err}
use Rattle.kinds.specs.Kind.{type_of, line_of}
use Rattle.kinds.specs.declared.kind.NodeKind.{NodeKind}
use Rattle.kinds.specs.declared.kind.NodeRecord.{NodeRecord}
use Rattle.reading.specs.Order.{Wire}
use Rattle.boards.specs.Board.{Parsed, Progress, going, refused, whole, blank}
use Rattle.boards.specs.Judge.{read_board, answer_by}
use Rattle.graph.specs.Visit.{visiting_list}
use Rattle.graph.specs.Late.{late_wires}
use Rattle.records.specs.Answer.{answer}
use Rattle.records.specs.declared.answer.Answer.{Answer}

-- types 1 to 5 and 7: silence in is silence out, at the latest after the line's length. An add writes its number, an all-pass and a one-pole
-- ring on, and a sine sounds by itself
abbrev pub delays : NodeKind → Bool
delays k = leb (type_of k) 5 || eqb (type_of k) 7

-- the type of node k; a listed node is never missing
abbrev pub kind_in : List NodeRecord → ℕ → NodeKind
kind_in ns k = (get_or ns k blank).kind

-- of listed nodes: whether their types are 1 to 5 and 7 only, and the sum of their lines
abbrev pub only_delays : List NodeRecord → List ℕ → Bool
only_delays ns [] = true
only_delays ns (k ∷ ks) = delays (kind_in ns k) && only_delays ns ks

abbrev pub listed_lines : List NodeRecord → List ℕ → ℕ
listed_lines ns [] = 0
listed_lines ns (k ∷ ks) = line_of (kind_in ns k) + listed_lines ns ks

abbrev pub endless : ℕ
endless = 4294967295

unfoldable pub tail_by : List NodeRecord → List Wire → List ℕ → ℕ
tail_by ns ws l = cond (eqb (length (late_wires l ws)) 0 && only_delays ns l) (listed_lines ns l) endless

unfoldable pub tail_of : Parsed → ℕ
tail_of p = tail_by p.nodes p.wires (visiting_list p.wires)

-- the tail call's answer
unfoldable pub tail_answer : List ℕ → Answer
tail_answer s = answer_by tail_of (read_board s)

-- ---- what the code asks: the lines of the first n listed nodes are no longer than a board's together

abbrev pub LinesFit : List NodeRecord → List ℕ → ℕ → Type 0
LinesFit ns l n = (i : ℕ) → i < n → line_of (kind_in ns (get_or l i 0)) ≤ 262144

-- ---- the tail without a number where it is endless

abbrev pub lines_by : List NodeRecord → List ℕ → Option ℕ
lines_by ns l = cond (only_delays ns l) (Some (listed_lines ns l)) None

abbrev pub tail_if : List NodeRecord → List Wire → List ℕ → Option ℕ
tail_if ns ws l = cond (eqb (length (late_wires l ws)) 0) (lines_by ns l) None

-- the tail of a reading, or its refusal; `tail_told_is` of proofs/Lines: with endless for none it is the tail call's answer
abbrev pub tail_read : Progress → Result (Option ℕ) Answer
tail_read (going at last p) = Err (answer 1 at)
tail_read (refused n w) = Err (answer n w)
tail_read (whole p) = Ok (tail_if p.nodes p.wires (visiting_list p.wires))
