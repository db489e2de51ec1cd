-- `graph::tail::tail_of` meets its contract: the answer is what the tail of the board, or its refusal, is told as. Assumes nothing.
use mathlib.Core.Path.{sym, ap, ◌∙◌}
use Rattle.records.specs.Answer.{answer}
use Rattle.graph.proofs.Lines.{tail_told, tail_told_is}
use Rattle.graph.proofs.tail.tail_of.Goals as goal

pub returns-in-Ok : goal.returns-in-Ok
returns-in-Ok c =
    c.new.ensures ∙ ap (answer 0) c.unwrap_or.ensures ∙ ap tail_told (sym c.in-Ok.is ∙ c.board_tail.ensures.read) ∙ tail_told_is c.args.s.now

pub returns-in-Err : goal.returns-in-Err
returns-in-Err c = ap tail_told (sym c.in-Err.is ∙ c.board_tail.ensures.read) ∙ tail_told_is c.args.s.now
