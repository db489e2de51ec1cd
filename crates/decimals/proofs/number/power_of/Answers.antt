-- `decimals::number::power_of` meets its contract: none at the end, or an `e` and an exponent. Assumes nothing.
use native.Mathlib.Omega.{arith}
use Rattle.std.proofs.lemmas.Bool.Decides.{nat_tests}
use Rattle.std.proofs.lemmas.List.{take_rest}
use Rattle.decimals.specs.Number.{power_of}
use Rattle.decimals.proofs.number.power_of.Goals as goal

pub returns-in-empty : goal.returns-in-empty
unfolding power_of
returns-in-empty c = grind (arith, nat_tests)

pub returns-in-101 : goal.returns-in-101
unfolding power_of
returns-in-101 c = let rest = take_rest c.args.s.now 1 in grind (arith, nat_tests)

pub returns-in_default : goal.returns-in_default
unfolding power_of
returns-in_default c = grind (arith, nat_tests)
