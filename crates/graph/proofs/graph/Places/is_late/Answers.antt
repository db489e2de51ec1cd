-- `graph::graph::is_late` meets its contract: the tests of a late wire, on the places that the array holds. Assumes nothing.
use Rattle.std.proofs.Common.{arith}
use Rattle.std.proofs.lemmas.Bool.Decides.{nat_tests}
use Rattle.graph.proofs.Late.{late_found}
use Rattle.graph.proofs.graph.Places.is_late.Goals as goal
use Rattle.graph.proofs.graph.Places.is_late.Goals.{then-s-self, else-s-self}

pub returns-then-t-self : goal.returns-then-t-self
returns-then-t-self c l size placed =
    let found = late_found l c.args.self.now.at _ _ _ c.from-s.result c.from-t.result size placed c.requires.0 c.requires.1 c.from-s.ensures c.from-t.ensures in
    elim c.if-s-self.branch [
      | then-s-self w ↦ grind (arith, nat_tests, found)
      | else-s-self w ↦ grind (arith, nat_tests, found)
    ]

pub returns-else-t-self : goal.returns-else-t-self
returns-else-t-self c l size placed =
    let found = late_found l c.args.self.now.at _ _ _ c.from-s.result c.from-t.result size placed c.requires.0 c.requires.1 c.from-s.ensures c.from-t.ensures in
    elim c.if-s-self.branch [
      | then-s-self w ↦ grind (arith, nat_tests, found)
      | else-s-self w ↦ grind (arith, nat_tests, found)
    ]
