-- `carrying::carried::Walk::lay_part` meets its contract. The loop's invariant: the part of the old list up to there is copied. Assumes nothing.
use mathlib.Core.Path.{◌≡◌, sym, subst, subst₂}
use mathlib.Core.Bool.{true}
use mathlib.Core.List.{List}
use Prim.Native.Nat.{ℕ, ◌+◌, ◌<◌}
use native.Mathlib.Omega.{arith}
use Rattle.std.proofs.lemmas.Grind.{common_steps}
use lib.ListN.{length, get_or, set}
use Rattle.graph.proofs.Going.{unmarked-set}
use Rattle.carrying.specs.Skimming.{LaidPart}
use Rattle.carrying.specs.declared.carried.Walk.{Walk}
use Rattle.carrying.proofs.Laying.{laid_past, laid_more}
use Rattle.carrying.proofs.carried.Walk.lay_part.Goals as goal
use Rattle.carrying.proofs.carried.Walk.lay_part.Goals.{then-not-self-node, else-not-self-node}

-- the old list's number is a node, and there is room for it
pub push-requires : goal.push-requires
push-requires c =
    let at = c.loop-node in
    let i = c.args.self.now.at + at.node-index in
    let g = at.invariant.grown in
    let room = c.requires.2 in
    let old = c.args.old.now in
    let before : i < c.args.end = grind (arith, common_steps) in
    let is : c.from-node.result ≡ get_or old.nodes i 0 = grind (arith, common_steps) in
    let node : c.from-node.result < 64 = subst (λ (v : ℕ). v < 64) (sym is) (old.below i (omega arith)) in
    (omega (arith, g.total, room.room, unmarked-set at.self.marks c.from-node.result (omega (arith, g.marks_kept, room.marks_size, node)) c.if-not-self-node.true), node)

pub loop-node-preserved : goal.loop-node-preserved
loop-node-preserved c =
    let at = c.loop-node in
    let w₀ = c.args.self.now in
    let i = w₀.at + at.node-index in
    let g = at.invariant.grown in
    let room = c.requires.2 in
    let old = c.args.old.now in
    let next : (i + 1) ≡ w₀.at + (at.node-index + 1) = omega arith in
    let P : Walk → Type 0 = λ x. LaidPart old.nodes w₀.at (w₀.at + (at.node-index + 1)) w₀.marks w₀.order.nodes w₀.order.count x.marks x.order.nodes x.order.count in
    let before : i < c.args.end = grind (arith, common_steps) in
    let is : c.from-node.result ≡ get_or old.nodes i 0 = grind (arith, common_steps) in
    let node : c.from-node.result < 64 = subst (λ (v : ℕ). v < 64) (sym is) (old.below i (omega arith)) in
    let inside : i < length old.nodes = omega (arith, old.long, old.fits) in
    let in_marks : c.from-node.result < length at.self.marks = omega (arith, g.marks_kept, room.marks_size, node) in
    elim c.if-not-self-node.branch [
      | then-not-self-node w ↦
          let new = w.if-not-self-node.true in
          let list_room : at.self.order.count < length at.self.order.nodes =
          omega (arith, g.total, room.room, unmarked-set at.self.marks c.from-node.result in_marks new, at.self.order.long) in
          subst P (sym w.self-is)
          (subst₂ (λ (l : List ℕ) (n : ℕ). LaidPart old.nodes w₀.at (w₀.at + (at.node-index + 1)) w₀.marks w₀.order.nodes w₀.order.count (set at.self.marks c.from-node.result true) l n)
          (sym w.push.ensures.nodes) (sym w.push.ensures.count)
          (subst (λ (e : ℕ). LaidPart old.nodes w₀.at e w₀.marks w₀.order.nodes w₀.order.count (set at.self.marks c.from-node.result true) (set at.self.order.nodes at.self.order.count c.from-node.result) (at.self.order.count + 1)) next
          (laid_more old.nodes w₀.at i c.from-node.result (omega arith) inside node is
          w₀.marks w₀.order.nodes w₀.order.count at.self.marks at.self.order.nodes at.self.order.count at.invariant in_marks new list_room)))
      | else-not-self-node w ↦ subst P (sym w.self-is)
          (subst (λ (e : ℕ). LaidPart old.nodes w₀.at e w₀.marks w₀.order.nodes w₀.order.count at.self.marks at.self.order.nodes at.self.order.count) next
          (laid_past old.nodes w₀.at i c.from-node.result (omega arith) inside node is
          w₀.marks w₀.order.nodes w₀.order.count at.self.marks at.self.order.nodes at.self.order.count at.invariant w.if-not-self-node.false))
    ]
