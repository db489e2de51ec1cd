use mathlib.Core.Path.{◌≡◌}
use Prim.Native.Nat.{ℕ, ◌+◌, ◌*◌, ◌/◌}
use lib.ListN.{length}
use Rattle.values.specs.Words.{words}
use Rattle.kinds.specs.Kind.{samples_from}
use Rattle.effects.specs.Block.{alone}
use Rattle.effects.specs.Ring.{stretch_values}
use Rattle.kinds.specs.declared.kind.NodeKind.TheVariants.{Delay}
use Rattle.effects.proofs.delayn.push.Given as goal

abbrev pub invariant-loop-group : goal.invariant-loop-group
invariant-loop-group l =
    (length l.cell ≡ length l.fn.cell) × ((n : ℕ) → length l.fn.cell ≡ 4 * (samples_from + length l.x + n) → words l.cell ≡ stretch_values (Delay n) (length l.x) (alone l.x) l.place l.done (4 * l.group) (words l.fn.cell))

abbrev pub invariant-loop-j : goal.invariant-loop-j
invariant-loop-j l =
    (length l.cell ≡ length l.fn.cell) × ((n : ℕ) → length l.fn.cell ≡ 4 * (samples_from + length l.x + n) → words l.cell ≡ stretch_values (Delay n) (length l.x) (alone l.x) l.place l.done (l.count / 4 * 4 + l.j) (words l.fn.cell))
