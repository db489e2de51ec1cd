-- `memory::message::number_judged` meets its contract, test by test. Assumes nothing.
use mathlib.Core.Path.{refl, sym, ap, ◌∙◌}
use Rattle.std.specs.Prelude.{Err}
use Rattle.records.specs.Answer.{checked}
use Rattle.memory.proofs.CallMessage.{number_missing, number_there}
use Rattle.memory.proofs.message.number_judged.Goals as goal

pub returns-then-board-k : goal.returns-then-board-k
returns-then-board-k c =
    ap Err c.new.ensures ∙ ap checked (sym (number_missing c.args.board.now c.args.node c.args.value c.if-board-k.true))

pub returns-then-not-takes_number : goal.returns-then-not-takes_number
returns-then-not-takes_number c =
    let takes = sym c.takes_number.ensures ∙ c.if-not-takes_number.true in
    ap Err c.new-then-not-takes_number.ensures
    ∙ ap checked (sym (number_there c.args.board.now c.args.node c.args.value c.if-board-k.false takes refl))

-- from here on the node takes a number
pub returns-then-not-value_fits : goal.returns-then-not-value_fits
returns-then-not-value_fits c =
    let takes = sym c.takes_number.ensures ∙ c.if-not-takes_number.false in
    let fits = sym c.value_fits.ensures ∙ c.if-not-value_fits.true in
    ap Err c.new-then-not-value_fits.ensures
    ∙ ap checked (sym (number_there c.args.board.now c.args.node c.args.value c.if-board-k.false takes fits))

pub returns : goal.returns
returns c =
    let takes = sym c.takes_number.ensures ∙ c.if-not-takes_number.false in
    let fits = sym c.value_fits.ensures ∙ c.if-not-value_fits.false in
    ap checked (sym (number_there c.args.board.now c.args.node c.args.value c.if-board-k.false takes fits))
