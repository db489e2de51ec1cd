use Prim.Native.Nat.{◌-◌, ◌*◌}
use mathlib.Core.Path.{◌≡◌}
use mathlib.Core.List.{map, ◌++◌}
use lib.ListN.{length, take, replicate}
use Rattle.memory.specs.Memory.{passed}
use Rattle.samples.specs.Burst.{output_bytes}
use Rattle.rig.specs.Rig.{rig_replies, rig_bytes}
use Rattle.rig.proofs.burst.rig_bytes.Given as goal

-- what is written, and what the blocks to come will write, are all; and each of these answers 0
abbrev pub invariant-loop-i : goal.invariant-loop-i
invariant-loop-i l =
    (length l.bytes ≡ 64)
    × (take (16 * l.i) l.bytes ++ output_bytes (rig_replies (4 - l.i) l.noise l.memory) ≡ rig_bytes)
    × (map (λ d. d.answer) (rig_replies (4 - l.i) l.noise l.memory) ≡ replicate (4 - l.i) passed)
