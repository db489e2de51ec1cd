-- `decimals::number::float_of` meets its contract, by the first byte. Assumes nothing.
use native.Mathlib.Omega.{arith}
use Rattle.std.proofs.lemmas.Bool.Decides.{nat_tests}
use Rattle.std.proofs.lemmas.List.{take_rest}
use Rattle.decimals.specs.Number.{float_of}
use Rattle.decimals.proofs.Reading.{float_empty}
use Rattle.decimals.proofs.number.float_of.Goals as goal

pub returns-in-empty : goal.returns-in-empty
returns-in-empty c = float_empty _ (omega arith)

pub returns-in-120 : goal.returns-in-120
unfolding float_of
returns-in-120 c = let rest = take_rest c.args.word.now 1 in grind (arith, nat_tests)

pub returns-in-45 : goal.returns-in-45
unfolding float_of
returns-in-45 c = let rest = take_rest c.args.word.now 1 in grind (arith, nat_tests)

pub returns-in-43 : goal.returns-in-43
unfolding float_of
returns-in-43 c = let rest = take_rest c.args.word.now 1 in grind (arith, nat_tests)

pub returns-in_default : goal.returns-in_default
unfolding float_of
returns-in_default c = grind (arith, nat_tests)
