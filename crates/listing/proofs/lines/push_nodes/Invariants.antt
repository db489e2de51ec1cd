use Prim.Native.Nat.{◌≤◌, ◌*◌}
use lib.ListN.{length, take}
use Rattle.text.specs.Written.{Appends}
use Rattle.listing.specs.Text.{spaced_all}
use Rattle.listing.proofs.lines.push_nodes.Given as goal

abbrev pub invariant-loop-node : goal.invariant-loop-node
invariant-loop-node l = (l.node-index ≤ length l.nodes) × Appends (3 * l.node-index) l.initial.out (spaced_all (take l.node-index l.nodes)) l.out
