-- `operators::sin_osc::climb` meets its contract: each turn is one phase more. Assumes nothing.
use mathlib.Core.Path.{◌≡◌, refl, sym, subst}
use Prim.Native.Nat.{ℕ}
use native.Mathlib.Omega.{arith}
use Rattle.operators.specs.Phases.{Units}
use Rattle.operators.proofs.Phases.{climbing_none, climbing_then, climbed_all}
use Rattle.operators.proofs.sin_osc.climb.Goals as goal

pub loop-i-init : goal.loop-i-init
loop-i-init c = climbing_none refl c.requires.1

pub phase_units-requires : goal.phase_units-requires
phase_units-requires c = c.loop-i.invariant.inside

pub returns-then-phase-by : goal.returns-then-phase-by
returns-then-phase-by c =
    let r = climbing_then c.loop-i.invariant c.requires.2 c.loop-i-test.true c.phase_units.ensures c.advance.ensures in
    record { passed = (omega arith, r.turns, r.inside); by_index = r.reached }

pub loop-i-preserved : goal.loop-i-preserved
loop-i-preserved c = climbing_then c.loop-i.invariant c.requires.2 c.loop-i-test.true c.phase_units.ensures c.advance-phase.ensures

pub returns : goal.returns
returns c =
    let r = c.loop-i.invariant in
    record {
      passed = (omega arith, omega (arith, r.long), r.inside);
      by_index = λ p moves e. subst (λ (k : ℕ). (c.loop-i.phase ≡ p k) × Units p k c.loop-i.units) (sym r.long) (climbed_all r (omega arith) p moves e);
    }
