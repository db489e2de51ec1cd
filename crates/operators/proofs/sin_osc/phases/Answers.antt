-- `operators::sin_osc::phases` meets its contract: each climb goes on where the one before it turned back. Assumes nothing.
use mathlib.Core.Path.{refl}
use native.Mathlib.Omega.{arith}
use Rattle.operators.proofs.Phases.{climbing_none, climbing_on, climbed_all}
use Rattle.operators.proofs.sin_osc.phases.Goals as goal

pub loop-done-init : goal.loop-done-init
loop-done-init c = climbing_none refl c.requires.0

pub loop-done-preserved : goal.loop-done-preserved
loop-done-preserved c =
    climbing_on c.loop-done.invariant c.climb-climbed.new.units c.climb-climbed.auto.units refl (omega arith) c.climb-climbed.ensures.passed.2 c.climb-climbed.ensures.by_index

pub returns : goal.returns
returns c = climbed_all c.loop-done.invariant (omega arith)
