-- `rewire::step::make` meets its contract: the one call or the other. Assumes nothing.
use Rattle.rewire.specs.Step.{made_of}
use Rattle.rewire.proofs.step.make.Goals as goal

pub returns-in-Add-clause-answered : goal.returns-in-Add-clause-answered
unfolding made_of
returns-in-Add-clause-answered c = rw c.in-Add.is c.add_wire.ensures.answered

pub returns-in-Add-clause-bytes : goal.returns-in-Add-clause-bytes
unfolding made_of
returns-in-Add-clause-bytes c = rw c.in-Add.is c.add_wire.ensures.bytes

pub returns-in-Pull-clause-answered : goal.returns-in-Pull-clause-answered
unfolding made_of
returns-in-Pull-clause-answered c = rw c.in-Pull.is c.pull_wire.ensures.answered

pub returns-in-Pull-clause-bytes : goal.returns-in-Pull-clause-bytes
unfolding made_of
returns-in-Pull-clause-bytes c = rw c.in-Pull.is c.pull_wire.ensures.bytes
