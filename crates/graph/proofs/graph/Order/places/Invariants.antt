use mathlib.Core.Path.{◌≡◌}
use lib.ListN.{length, take}
use Rattle.graph.proofs.Placing.{Placing}
use Rattle.graph.proofs.graph.Order.places.Given as goal

abbrev pub invariant-loop-i : goal.invariant-loop-i
invariant-loop-i l = (length l.at ≡ 64) × Placing (take l.self.count l.self.nodes) l.at l.i
