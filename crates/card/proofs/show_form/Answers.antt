-- `card::show_form` is safe: the board was accepted. Assumes nothing.
use mathlib.Core.Path.{subst}
use Rattle.boards.specs.Judge.{read_board}
use Rattle.boards.specs.Read.{Read}
use Rattle.graph.proofs.Wired.{table, gathered}
use Rattle.card.proofs.show_form.Goals as goal

pub text_of-requires : goal.text_of-requires
text_of-requires c =
    let s = c.args.s.now in
    let read = subst (Read (read_board s)) c.in-Ok.is c.read_board.ensures in
    record { table = table s c.in-Ok.board read; gathered = gathered s c.in-Ok.board read }
