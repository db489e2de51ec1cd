-- `graph::graph::places` meets its contract. The loop's invariant: the nodes from the place i on have been written. Assumes nothing.
use mathlib.Core.Path.{refl, sym, subst, ◌∙◌}
use Prim.Native.Nat.{ℕ, ◌-◌, ◌<◌}
use native.Mathlib.Omega.{arith}
use lib.ListN.{length-set, take}
use lib.Seq.{length-take-le, get_or-take}
use Rattle.graph.proofs.Placing.{placing_none, placing_more}
use Rattle.graph.proofs.graph.Order.places.Goals as goal

pub loop-i-init : goal.loop-i-init
loop-i-init c =
    let o = c.args.self.now in
    let long = length-take-le o.count o.nodes (omega (arith, o.long, o.fits)) in
    (refl, placing_none (take o.count o.nodes) o.count long)

pub loop-i-preserved : goal.loop-i-preserved
loop-i-preserved c =
    let at = c.loop-i in
    let o = c.args.self.now in
    let long = length-take-le o.count o.nodes (omega (arith, o.long, o.fits)) in
    let node : c.from.result < 64 = subst (λ (v : ℕ). v < 64) (sym c.from.ensures) (o.below (at.i - 1) (omega arith)) in (
      length-set at.at c.from.result _ ∙ at.invariant.0,
      placing_more (take o.count o.nodes) at.at at.i (at.i - 1) c.from.result (omega arith) at.invariant.0 node (omega (arith, long))
          (c.from.ensures ∙ sym (get_or-take o.count o.nodes (at.i - 1) 0 (omega arith))) at.invariant.1,
    )
