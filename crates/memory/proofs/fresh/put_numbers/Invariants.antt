use mathlib.Core.Path.{◌≡◌}
use lib.ListN.{length, drop}
use Rattle.values.specs.Words.{words}
use Rattle.memory.specs.Stages.{put_numbers}
use Rattle.memory.proofs.fresh.put_numbers.Given as goal

abbrev pub invariant-loop-node : goal.invariant-loop-node
invariant-loop-node l =
    (length l.memory ≡ length l.initial.memory) × (put_numbers (drop l.node-index l.nodes) (words l.memory) ≡ put_numbers l.nodes (words l.initial.memory))
