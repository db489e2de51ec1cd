use Prim.Native.Nat.{ℕ, ◌≤◌}
use mathlib.Core.Path.{◌≡◌}
use mathlib.Core.List.{List}
use lib.ListN.{length}
use Rattle.boards.specs.Wires.{wires_of}
use Rattle.graph.specs.Late.{late_wires, Placed}
use Rattle.resizing.specs.Planning.{Lates}
use Rattle.resizing.proofs.resize.late_among.Given as goal

abbrev pub invariant-loop-source : goal.invariant-loop-source
invariant-loop-source l = (l.late.count ≤ l.source-index) × ((list : List ℕ) → length list ≡ l.places.count → Placed list l.places.at → Lates (late_wires list (wires_of l.wires.list l.source-index)) l.late.count l.late.target)
