-- `operators::operator::mul::mul` meets its contract. Assumes nothing.
use Rattle.std.specs.Option.{option_copied}
use Rattle.std.proofs.Common.{rules}
use lib.Ieee.{binary32, mul}
use Rattle.operators.proofs.Plain.{mul_operator, operator_run}
use Rattle.operators.proofs.operator.mul.mul.Goals as goal

pub returns : goal.returns
returns c f =
    let a = c.args in
    operator_run (mul_operator f) _ a.x.now a.cell.now _ c.requires.lent (option_copied a.m) (c.apply_op.ensures (mul binary32) (λ a b r p. search rules))
