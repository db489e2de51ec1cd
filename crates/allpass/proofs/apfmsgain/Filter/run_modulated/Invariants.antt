use mathlib.Core.Path.{◌≡◌}
use mathlib.Core.List.{List}
use Prim.Native.Nat.{◌≤◌, ◌<◌}
use lib.ListN.{length}
use lib.Ieee.{Float}
use Rattle.effects.specs.Block.{pair}
use Rattle.kinds.specs.declared.kind.NodeKind.TheVariants.{AllPass}
use Rattle.effects.proofs.Rings.{Going}
use Rattle.allpass.proofs.Positions.{Of}
use Rattle.allpass.proofs.apfmsgain.Filter.run_modulated.Given as goal

abbrev pub invariant-loop-i : goal.invariant-loop-i
invariant-loop-i l =
    (l.i ≤ (length l.x)) × (l.place < l.self.n) × (length l.cell ≡ length l.initial.cell)
    × ((second : List Float) → Of l.self.n (length l.x) l.floors l.m second → Going (AllPass l.self.n) l.self.n (length l.x) (pair l.x second) l.initial.cell l.i l.place l.cell)
