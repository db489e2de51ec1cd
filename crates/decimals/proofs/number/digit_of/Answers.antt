-- `decimals::number::digit_of` meets its contract: the library's digit, of a base up to 16. Assumes nothing.
use Rattle.decimals.proofs.Reading.{digit_found}
use Rattle.decimals.proofs.number.digit_of.Goals as goal

pub returns : goal.returns
returns c = rw (← c.from.ensures) (digit_found c.to_digit.result _ c.args.base c.requires.1 c.to_digit.ensures.value)
