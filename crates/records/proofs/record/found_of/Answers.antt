-- `records::record::found_of` meets its contract: in each arm the kind is a number, at which `found_of` computes. Assumes nothing.
use Rattle.std.proofs.Common.{arith}
use Rattle.std.proofs.lemmas.Grind.{common_steps}
use Rattle.records.specs.Record.{found_of}
use Rattle.records.proofs.record.found_of.Goals as goal

pub returns-in-1 : goal.returns-in-1
unfolding found_of
returns-in-1 c = grind (arith, common_steps)

pub returns-in-2 : goal.returns-in-2
unfolding found_of
returns-in-2 c = grind (arith, common_steps)

pub returns-in-3 : goal.returns-in-3
unfolding found_of
returns-in-3 c = grind (arith, common_steps)

pub returns-in_default : goal.returns-in_default
unfolding found_of
returns-in_default c = grind (arith, common_steps)
