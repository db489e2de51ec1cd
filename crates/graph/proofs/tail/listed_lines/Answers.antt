-- `graph::tail::listed_lines` meets its contract. The loop's invariant: so many of the listed nodes only delay, and the sum is of their lines.
-- Assumes nothing.
use mathlib.Core.Path.{◌≡◌, sym, ap, subst⁻¹, ◌∙◌}
use mathlib.Core.Bool.{Bool, cond}
use Prim.Native.Nat.{ℕ, ◌+◌, ◌<◌, ◌≤◌}
use native.Mathlib.Omega.{arith}
use lib.ListN.{length, get_or, take}
use lib.Seq.{length-take-le, get_or-take}
use Rattle.std.specs.Prelude.{Some, None}
use Rattle.std.proofs.lemmas.Grind.{common_steps}
use Rattle.kinds.specs.Kind.{line_of}
use Rattle.graph.specs.Tail.{kind_in, listed_lines}
use Rattle.graph.proofs.Lines.{Summed, summed_more, summed_never}
use Rattle.graph.proofs.tail.listed_lines.Goals as goal

pub returns-then-not-delays-clause-sum : goal.returns-then-not-delays-clause-sum
returns-then-not-delays-clause-sum c =
    let at = c.loop-node in
    let o = c.args.order.now in
    let ns = c.args.nodes.now in
    let l = take o.count o.nodes in
    let inside : at.node-index < length l = grind (arith, common_steps) in
    let is_next : c.from.result ≡ get_or l at.node-index 0 = grind (arith, common_steps) in
    ap (λ (b : Bool). cond b (Some (listed_lines ns l)) None)
    (sym (summed_never ns l at.sum at.node-index c.from.result inside is_next at.invariant.1 (sym c.delays.ensures ∙ c.if-not-delays.true)))

pub loop-node-preserved : goal.loop-node-preserved
loop-node-preserved c =
    let at = c.loop-node in
    let o = c.args.order.now in
    let ns = c.args.nodes.now in
    let l = take o.count o.nodes in
    let inside : at.node-index < length l = grind (arith, common_steps) in
    let in_count : at.node-index < o.count = omega (arith, length-take-le o.count o.nodes (omega (arith, o.long, o.fits))) in
    let is_next : c.from.result ≡ get_or l at.node-index 0 = grind (arith, common_steps) in
    let is : c.from.result ≡ get_or o.nodes at.node-index 0 = is_next ∙ get_or-take o.count o.nodes at.node-index 0 in_count in
    let line : c.line_of-sum.result ≡ line_of (kind_in ns (get_or o.nodes at.node-index 0)) =
    c.line_of-sum.ensures.0 ∙ ap (λ (v : ℕ). line_of (kind_in ns v)) is in
    let few : c.line_of-sum.result ≤ 262144 = subst⁻¹ (λ (n : ℕ). n ≤ 262144) line (c.requires at.node-index in_count) in (
      omega (arith, few),
      subst⁻¹ (λ (n : ℕ). Summed ns l (at.sum + n) (at.node-index + 1)) c.line_of-sum.ensures.0
          (summed_more ns l at.sum at.node-index c.from.result inside is_next at.invariant.1 (sym c.delays.ensures ∙ c.if-not-delays.false)),
    )
