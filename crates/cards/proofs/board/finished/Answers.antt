-- `cards::board::finished` meets its contract: the end record, and the judge's answer to all. Assumes nothing.
use mathlib.Core.Path.{sym, ap, ◌∙◌}
use mathlib.Core.List.{List}
use Prim.Native.Nat.{ℕ, ◌+◌}
use lib.ListN.{take}
use borrow.Author.Rules.{rules}
use Rattle.cards.specs.declared.board.Wrong.TheVariants.{Refused}
use Rattle.decimals.proofs.Question.{mapped_on, mapped_back}
use Rattle.boards.specs.Judge.{judge_of}
use Rattle.cards.proofs.Making.{board_made, board_refused}
use Rattle.cards.proofs.board.finished.Goals as goal

pub returns-clause-answered : goal.returns-clause-answered
returns-clause-answered c =
    let judge = c.judge.ensures ∙ ap (λ (o : List ℕ). judge_of (take (c.args.at + 4) o)) c.put_end.ensures in
    let ok = mapped_on _ Refused (λ e d k. search rules) c.checked.result c.map_err.result c.map_err.ensures.cases c.in_ok-map_err.was in
    board_made c.args.out.now c.args.at c.requires _ judge _ (sym ok ∙ c.checked.ensures)

pub returns-in_err-map_err-clause-answered : goal.returns-in_err-map_err-clause-answered
returns-in_err-map_err-clause-answered c =
    let judge = c.judge.ensures ∙ ap (λ (o : List ℕ). judge_of (take (c.args.at + 4) o)) c.put_end.ensures in
    let err = mapped_back _ Refused (λ e d k. search rules) c.checked.result c.map_err.result c.map_err.ensures.cases c.from_residual.result c.in_err-map_err.was c.from_residual.ensures in
    err.2 ∙ board_refused c.args.out.now c.args.at c.requires _ judge _ (sym err.1 ∙ c.checked.ensures)
