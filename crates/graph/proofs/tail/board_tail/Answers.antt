-- `graph::tail::board_tail` meets its contract: a refused board is answered so, and the arrays of an accepted one are as the tail asks.
-- Assumes nothing.
use mathlib.Core.Path.{sym, ap, ◌∙◌}
use Rattle.std.specs.Prelude.{Ok}
use Rattle.boards.specs.Read.{parsed_of}
use Rattle.boards.proofs.Answers.{residual_is}
use Rattle.graph.specs.Tail.{tail_if, tail_read}
use Rattle.graph.proofs.Wired.{table, gathered, lines_listed, board_tail}
use Rattle.graph.proofs.tail.board_tail.Goals as goal

pub returns-in_err-board-clause-read : goal.returns-in_err-board-clause-read
returns-in_err-board-clause-read c = residual_is _ _ c.from_residual.ensures.1 ∙ sym (ap tail_read c.in_err-board.ensures.1)

pub visiting_list-order-requires : goal.visiting_list-order-requires
visiting_list-order-requires c = table _ c.in_ok-board.board c.in_ok-board.ensures

pub tail-requires : goal.tail-requires
tail-requires c =
    let read = c.in_ok-board.ensures in
    let b = c.in_ok-board.board in
    lines_listed _ b read _ _ (c.visiting_list-order.ensures _ (gathered _ b read))

pub returns-clause-read : goal.returns-clause-read
returns-clause-read c =
    let b = c.in_ok-board.board in
    let read = c.in_ok-board.ensures in
    let l = c.visiting_list-order.ensures _ (gathered _ b read) in
    ap Ok (c.tail.ensures.sum ∙ ap (tail_if b.nodes (parsed_of b).wires) l.same ∙ board_tail _ b read) ∙ sym (ap tail_read read)
