-- `allpass::apfmsgain::splits` meets its contract: each turn splits one position more. Assumes nothing.
use Prim.Native.Nat.{◌^◌}
use mathlib.Core.Path.{sym, subst}
use native.Mathlib.Omega.{arith}
use Rattle.values.specs.Floors.{Upto}
use Rattle.allpass.proofs.Splits.{splitting_none, splitting_then}
use Rattle.allpass.proofs.apfmsgain.splits.Goals as goal

pub loop-i-init : goal.loop-i-init
loop-i-init c = splitting_none c.requires.0

pub split-at-requires : goal.split-at-requires
split-at-requires c =
    subst (Upto (2 ^ 24)) (sym (c.loop-i.invariant.ahead c.loop-i.i (omega arith))) (c.requires.1 c.loop-i.i c.loop-i-test.true)

pub loop-i-preserved : goal.loop-i-preserved
loop-i-preserved c = splitting_then c.loop-i.invariant c.loop-i-test.true c.split-at.ensures
