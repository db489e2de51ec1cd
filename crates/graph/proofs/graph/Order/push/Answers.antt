-- `graph::graph::Order::push` keeps the list's facts. Assumes nothing.
use mathlib.Core.Path.{◌∙◌}
use native.Mathlib.Omega.{arith}
use lib.ListN.{length-set}
use Rattle.boards.proofs.Wiring.{within_more}
use Rattle.graph.proofs.graph.Order.push.Goals as goal

pub invariant_of-self : goal.invariant_of-self
invariant_of-self c =
    let o = c.args.self.now in
    record {
      long = length-set o.nodes o.count c.args.node ∙ o.long;
      fits = omega arith;
      below = within_more 64 o.nodes o.count c.args.node (omega (arith, o.long)) c.requires.1 o.below;
    }
