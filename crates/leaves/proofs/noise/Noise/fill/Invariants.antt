use mathlib.Core.Path.{◌≡◌}
use lib.ListN.{length, take}
use Rattle.values.specs.Words.{Bytes, words}
use Rattle.leaves.specs.Noise.{samples, state_after}
use Rattle.leaves.proofs.noise.Noise.fill.Given as goal

abbrev pub invariant-loop-i : goal.invariant-loop-i
invariant-loop-i l =
    (length l.block ≡ length l.initial.block)
    × Bytes l.block
    × (take l.i (words l.block) ≡ samples l.i l.initial.self)
    × (l.self ≡ state_after l.i l.initial.self)
