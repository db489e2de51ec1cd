-- `decimals::decimal::ten` meets its contract, by the table's row. Assumes nothing.
use Rattle.decimals.proofs.Tens.{powers, row_at}
use Rattle.decimals.proofs.decimal.ten.Goals as goal

pub returns : goal.returns
unfolding powers
returns c = (row_at c.args.k c.requires).1
