-- `listing::lines::board_text` meets its contract: a refused board's line, or the text of an accepted one's wires. Assumes nothing.
use mathlib.Core.Path.{sym, ap, subst, ◌∙◌}
use mathlib.Core.List.{List}
use Prim.Native.Nat.{ℕ}
use Rattle.boards.specs.Judge.{read_board}
use Rattle.boards.specs.Read.{Read}
use Rattle.boards.specs.Wires.{wires_of}
use Rattle.graph.proofs.Wired.{table, gathered}
use Rattle.listing.specs.Text.{order_text, text_of}
use Rattle.listing.proofs.lines.board_text.Goals as goal

pub visiting_list-requires : goal.visiting_list-requires
visiting_list-requires c =
    let s = c.args.s.now in
    table s c.in-Ok.board (subst (Read (read_board s)) c.in-Ok.is c.read_board.ensures)

pub returns-in-Ok : goal.returns-in-Ok
unfolding text_of
returns-in-Ok c =
    let s = c.args.s.now in
    let board = c.in-Ok.board in
    let read = subst (Read (read_board s)) c.in-Ok.is c.read_board.ensures in
    let ws = wires_of board.wires.list board.wires.count in
    let list = (c.visiting_list.ensures ws (gathered s board read)).same in
    c.listed_text.ensures ∙ ap (λ (l : List ℕ). order_text l ws) list ∙ sym (ap text_of read)

pub returns-in-Err : goal.returns-in-Err
unfolding text_of
returns-in-Err c =
    let read = subst (Read (read_board c.args.s.now)) c.in-Err.is c.read_board.ensures in
    c.refused_text.ensures ∙ sym (ap text_of read.1)
