-- `decimals::number::decimal` meets its contract: digits, a power of ten, and one rounding. Assumes nothing.
use mathlib.Core.Path.{◌∙◌}
use Rattle.decimals.proofs.Reading.{decimal_none, decimal_some}
use Rattle.decimals.proofs.Question.{went_on, returned}
use Rattle.decimals.proofs.number.decimal.Goals as goal

pub returns-then-d-eq0 : goal.returns-then-d-eq0
returns-then-d-eq0 c =
    let d = c.digits_of-d in
    decimal_none c.args.minus _ _ _ _ d.ensures c.if-d-eq0.true

pub returns-in_err-power : goal.returns-in_err-power
returns-in_err-power c =
    let d = c.digits_of-d in
    let none = returned c.power_of.result c.from_residual.result _ c.in_err-power.ensures.value c.from_residual.ensures in
    none.1 ∙ (rw (← c.power_of.ensures, none.0) at (decimal_some c.args.minus _ _ _ _ d.ensures c.if-d-eq0.false))

pub returns : goal.returns
returns c =
    let d = c.digits_of-d in
    let some = went_on c.power_of.result _ c.in_ok-power.ensures.value in
    c.scaled.ensures ∙ (rw (← c.power_of.ensures, ← some) at (decimal_some c.args.minus _ _ _ _ d.ensures c.if-d-eq0.false))
