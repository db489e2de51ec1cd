-- `operators::operator::add::add` meets its contract. Assumes nothing.
use Rattle.std.specs.Option.{option_copied}
use Rattle.std.proofs.Common.{rules}
use lib.Ieee.{binary32, add}
use Rattle.operators.proofs.Plain.{add_operator, operator_run}
use Rattle.operators.proofs.operator.add.add.Goals as goal

pub returns : goal.returns
returns c f =
    let a = c.args in
    operator_run (add_operator f) _ a.x.now a.cell.now _ c.requires.lent (option_copied a.m) (c.apply_op.ensures (add binary32) (λ a b r p. search rules))
