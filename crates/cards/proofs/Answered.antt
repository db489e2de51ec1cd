-- The answer to a card is the judge's on exactly the bytes that are written, unless a line is bad. Assumes nothing.
use mathlib.Core.Path.{◌≡◌, refl}
use mathlib.Core.Bool.{Bool, true, false, cond}
use mathlib.Core.List.{List, [], ◌∷◌, ◌++◌}
use Prim.Native.Nat.{ℕ, ◌+◌}
use borrow.Author.Tests.{eqb-true, eqb-false}
use lib.Dec.{eqb}
use Rattle.std.specs.Prelude.{Result, Ok, Err}
use lib.ListN.{length}
use Rattle.boards.specs.Judge.{judge_of}
use Rattle.records.specs.Write.{end_bytes}
use Rattle.text.specs.Words.{lines_of}
use Rattle.card_lines.specs.Labels.{unmarked}
use Rattle.card_lines.specs.Line.{said_of}
use Rattle.cards.specs.Board.{record_bytes, written, step_of, by_step, Said, judged_of, card_from, card_of, Judged}
use Rattle.card_lines.specs.declared.reason.Reason.{Reason}
use Rattle.cards.specs.declared.board.Written.{Written}
use Rattle.cards.specs.declared.board.Wrong.TheVariants.{Refused, Bad}

made_judged : (board : List ℕ) → Judged board (judged_of board).made
made_judged board = pick (eqb (judge_of board).number 0) refl
  where
    pick : (b : Bool) → eqb (judge_of board).number 0 ≡ b
        → Judged board (cond b (Ok (length board)) (Err (Refused (judge_of board))))
    pick true e = (refl, eqb-true (judge_of board).number 0 e)
    pick false e = (refl, eqb-false (judge_of board).number 0 e)

-- what holds whether a line is taken or not
pub by_step_lem : (P : Said → Type 0) (s : Result Written Reason) (on : Written → Said) (bad : Reason → Said) → ((w : Written) → P (on w)) → ((r : Reason) → P (bad r)) → P (by_step s on bad)
by_step_lem P (Ok w) on bad f g = f w
by_step_lem P (Err r) on bad f g = g r

from_judged : (all : List (List ℕ)) (n : ℕ) (w : Written) (bytes : List ℕ) (ls : List (List ℕ)) → Judged (card_from all n w bytes ls).bytes (card_from all n w bytes ls).made
unfolding card_from
from_judged all n w bytes [] = made_judged (bytes ++ end_bytes)
from_judged all n w bytes (l ∷ ls) =
    by_step_lem (λ said. Judged said.bytes said.made) (step_of w (said_of all w.nodes l)) (λ next. card_from all (n + 1) next (bytes ++ record_bytes (said_of all w.nodes l)) ls) (λ r. record { made = Err (Bad (n + 1) r); bytes = bytes })
    (λ next. from_judged all (n + 1) next (bytes ++ record_bytes (said_of all w.nodes l)) ls) (λ r. tt)

pub card_judged : (text : List ℕ) → Judged (card_of text).bytes (card_of text).made
card_judged text = from_judged (lines_of (unmarked text)) 0 (written 0 0 0) [] (lines_of (unmarked text))
