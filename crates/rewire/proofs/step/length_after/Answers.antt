-- `rewire::step::length_after` meets its contract. Assumes nothing.
use mathlib.Core.Path.{subst}
use borrow.Author.Tests.{eq-eqb, ne_eqb}
use Rattle.wiring.specs.Rewiring.{Checked}
use Rattle.rewire.specs.Step.{length_after}
use Rattle.rewire.proofs.step.length_after.Goals as goal

pub returns-in-Err-default : goal.returns-in-Err-default
unfolding length_after
returns-in-Err-default c w k = rw (ne_eqb w.number 0 (subst (Checked w) c.in-Err-default.is-0 k).0)

pub returns-in-Ok-Add : goal.returns-in-Ok-Add
unfolding length_after
returns-in-Ok-Add c w k = rw (eq-eqb w.number 0 (subst (Checked w) c.in-Ok-Add.is-0 k).0, c.in-Ok-Add.is-1)

pub returns-in-Ok-Pull : goal.returns-in-Ok-Pull
unfolding length_after
returns-in-Ok-Pull c w k = rw (eq-eqb w.number 0 (subst (Checked w) c.in-Ok-Pull.is-0 k).0, c.in-Ok-Pull.is-1)
