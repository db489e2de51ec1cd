-- `decimals::decimal::quotient` meets its contract: both operands are exact, so the operation rounds once. Assumes nothing.
use Rattle.decimals.proofs.Scaling.{quotient_at}
use Rattle.decimals.proofs.decimal.quotient.Goals as goal

pub returns : goal.returns
returns c = quotient_at _ _ _ c.args.decimal.few c.ten.ensures
