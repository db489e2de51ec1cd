use Prim.Native.Nat.{◌-◌}
use lib.ListN.{length}
use Rattle.effects.specs.Block.{alone}
use Rattle.kinds.specs.declared.kind.NodeKind.TheVariants.{AllPass}
use Rattle.effects.proofs.Rings.{Going}
use Rattle.allpass.proofs.apfmsgain.Filter.run.Given as goal

abbrev pub invariant-loop-done : goal.invariant-loop-done
invariant-loop-done l = Going (AllPass l.self.n) l.self.n (length l.x) (alone l.x) l.initial.cell l.done l.place l.cell

abbrev pub decreases-loop-done : goal.decreases-loop-done
decreases-loop-done l = (length l.x) - l.done
