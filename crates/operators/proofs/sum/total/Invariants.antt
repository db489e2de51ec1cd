use mathlib.Core.Path.{◌≡◌}
use Prim.Native.Nat.{◌+◌}
use lib.ListN.{length, take}
use Rattle.values.specs.Words.{words}
use Rattle.effects.specs.Block.{fill}
use Rattle.operators.specs.Sums.{total_at}
use Rattle.operators.proofs.sum.total.Given as goal

abbrev pub invariant-loop-source : goal.invariant-loop-source
invariant-loop-source l =
    (length l.x ≡ length l.fn.x)
    × (l.x ≡ fill (total_at (words l.memory) l.starts (take (l.source-index + 1) l.fn.list)) (length l.fn.x) l.initial.x)
