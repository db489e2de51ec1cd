use Prim.Native.Nat.{◌≤◌, ◌*◌}
use lib.ListN.{take}
use Rattle.boards.specs.Wires.{wires_of}
use Rattle.graph.specs.Late.{late_wires}
use Rattle.text.specs.Written.{Appends}
use Rattle.listing.specs.Text.{late_lines}
use Rattle.listing.proofs.lines.push_lates.Given as goal

abbrev pub invariant-loop-source : goal.invariant-loop-source
invariant-loop-source l =
    (l.source-index ≤ l.wires.count)
    × Appends (11 * l.source-index) l.initial.out (late_lines (late_wires (take l.order.count l.order.nodes) (wires_of l.wires.list l.source-index))) l.out
