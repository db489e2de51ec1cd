-- `values::float::of_bits` meets its contract: the test finds the NaN's patterns. Assumes nothing.
use borrow.Author.Rules.{rules}
use mathlib.Core.Path.{sym}
use lib.Ieee.{of_bits, div}
use Rattle.values.proofs.Patterns.{above_inf, up_to_inf}
use Rattle.values.proofs.float.of_bits.Goals as goal

pub float_from_bits-result : goal.float_from_bits-result
float_from_bits-result c = up_to_inf c.args.bits (search rules)

pub returns-then-bits-gt2139095040 : goal.returns-then-bits-gt2139095040
unfolding div of_bits
returns-then-bits-gt2139095040 c = sym (above_inf c.args.bits (search rules))
