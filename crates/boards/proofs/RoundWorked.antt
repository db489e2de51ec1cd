-- The card of document 01's printed board: the bytes written for it are those of JudgeCases, and it obeys the rules. Assumes nothing.
use mathlib.Core.Path.{◌≡◌, refl, ap, ◌∙◌}
use Rattle.records.specs.Answer.{answer}
use Rattle.boards.specs.Judge.{judge_of}
pub use Rattle.boards.specs.Walks.{feedback}
use Rattle.records.specs.Write.{Card, write_board}
use Rattle.boards.specs.Obeys.{Obeys}
use Rattle.records.specs.declared.answer.Answer.{Answer}
use Rattle.records.proofs.RoundBytes.{board_bytes}
use Rattle.boards.proofs.Round.{judge_exact}
use Rattle.boards.specs.JudgeCases.{printed, printed_judged}

pub feedback-written : write_board feedback ≡ printed
unfolding write_board
feedback-written = refl

pub feedback_judged : judge_of (write_board feedback) ≡ answer 0 112
feedback_judged = ap judge_of feedback-written ∙ printed_judged

-- so the rules can be obeyed
pub some_obeys : (c : Card) × Obeys c × (write_board feedback ≡ write_board c)
some_obeys = (judge_exact (write_board feedback) (board_bytes feedback)).0 (ap (λ (a : Answer). a.number) feedback_judged)
