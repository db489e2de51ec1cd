use mathlib.Core.Path.{◌≡◌}
use Prim.Native.Nat.{◌+◌, ◌*◌, ◌/◌}
use lib.ListN.{length}
use lib.Ieee.{Float}
use Rattle.values.specs.Words.{words}
use Rattle.effects.specs.Block.{alone}
use Rattle.effects.specs.Ring.{stretch_values}
use Rattle.kinds.specs.declared.kind.NodeKind.TheVariants.{AllPass}
use Rattle.allpass.proofs.apfmsgain.Filter.filter.Given as goal

abbrev pub invariant-loop-group : goal.invariant-loop-group
invariant-loop-group l =
    (length l.cell ≡ length l.fn.cell) × ((f : Float) → words l.cell ≡ stretch_values (AllPass l.self.n f) (length l.x) (alone l.x) l.place l.done (4 * l.group) (words l.fn.cell))

abbrev pub invariant-loop-j : goal.invariant-loop-j
invariant-loop-j l =
    (length l.cell ≡ length l.fn.cell) × ((f : Float) → words l.cell ≡ stretch_values (AllPass l.self.n f) (length l.x) (alone l.x) l.place l.done (l.count / 4 * 4 + l.j) (words l.fn.cell))
