-- `carrying::carried::Walk::skim` meets its contract. One node less is unmarked than where the function was called, and the loop goes on as
-- `Going` says. Assumes nothing.
use mathlib.Core.Path.{◌≡◌, sym, subst, subst₂, subst⁻¹, ◌∙◌}
use mathlib.Core.Bool.{true, ◌&&◌}
use mathlib.Core.List.{List}
use Prim.Native.Nat.{ℕ, ◌+◌, ◌*◌, ◌<◌, ◌≤◌}
use native.Mathlib.Nat.{le_refl}
use native.Mathlib.Omega.{arith}
use lib.Dec.{eqb}
use borrow.Author.Tests.{eqb-true}
use lib.ListN.{length, get_or, set}
use Rattle.reading.proofs.Choice.{both}
use Rattle.graph.proofs.Going.{unmarked-set}
use Rattle.carrying.specs.Skimming.{Skimmed}
use Rattle.carrying.specs.declared.carried.Walk.{Walk}
use Rattle.carrying.proofs.Placed.{test_yes, test_no}
use Rattle.carrying.proofs.Going.{Going, going_past, going_into, going_add, going_pull, skimmed_copied, skimmed_walked, lent_at, source_node, fewer, asks_on}
use Rattle.carrying.proofs.carried.Walk.+skim.Goals as goal
use Rattle.carrying.proofs.carried.Walk.+skim.Goals.{then-not-self-source+then-not-is, then-not-self-source+else-not-is+then-change, then-not-self-source+else-not-is+else-change, else-not-self-source}

pub returns-then-self-place : goal.returns-then-self-place
returns-then-self-place t c =
    let pre = c.requires in
    let g = c.args.ground.now in
    let s = g.sources.now in
    let o = g.old.now in
    let w = c.args.self.now in
    let d = g.change in
    -- what the test of the copying says
    let f = test_yes _ _ _ _ _ c.if-self-place.true in
    -- the two places that are looked up
    let place_is = c.from-place.ensures ∙ pre.was.placed.at c.args.node pre.node_in in
    let goal_is = c.from-goal.ensures ∙ pre.was.placed.at d.target pre.target_in in
    let laid = c.lay_part.ensures in
    subst⁻¹ (Skimmed s.counts s.lists o.nodes o.count d.adding d.source d.target c.args.node w.marks w.order.nodes w.order.count w.at
    c.lay_part.new.self.marks c.lay_part.new.self.order.nodes c.lay_part.new.self.order.count) laid.1
    (skimmed_copied s.counts s.lists o.nodes g.places.now.at o.count d.adding d.source d.target c.args.node pre.was pre.node_in pre.target_in
    w.marks w.order.nodes w.order.count w.at pre.room pre.unseen _ place_is f.0 f.1
    (λ un x y. f.2 un (subst⁻¹ (λ (j : ℕ). w.at ≤ j) goal_is x) (subst⁻¹ (λ (j : ℕ). j ≤ c.from-place.result) goal_is y))
    _ _ _ laid.0)

-- ---- the sources, and the one to come

pub of-source-items-requires : goal.of-source-items-requires
of-source-items-requires t c = (c.requires.node_in, c.requires.table.few _ c.requires.node_in)

pub bounds-self-source : goal.bounds-self-source
bounds-self-source t c =
    let lent = c.of-source-items.ensures in
    let in_size : c.loop-source.source-index < get_or c.args.ground.now.sources.now.counts c.args.node 0 = omega (arith, lent.count, c.loop-source-test.true) in
    source_node c.requires.table c.requires.node_in in_size (lent_at _ _ lent.items in_size c.from-source.ensures)

pub skim-requires : goal.skim-requires
skim-requires t c =
    let g = c.loop-source.invariant in
    let lent = c.of-source-items.ensures in
    let in_size : c.loop-source.source-index < get_or c.args.ground.now.sources.now.counts c.args.node 0 = omega (arith, lent.count, c.loop-source-test.true) in
    (omega (arith, c.decreases, fewer c.requires g), asks_on c.requires g in_size (lent_at _ _ lent.items in_size c.from-source.ensures) c.if-not-self-source.true _ g.rest_in)

pub skim-requires-then-change : goal.skim-requires-then-change
skim-requires-then-change t c =
    let g = c.loop-source.invariant in
    let lent = c.of-source-items.ensures in
    let in_size : c.loop-source.source-index < get_or c.args.ground.now.sources.now.counts c.args.node 0 = omega (arith, lent.count, c.loop-source-test.true) in
    (omega (arith, c.decreases, fewer c.requires g), asks_on c.requires g in_size (lent_at _ _ lent.items in_size c.from-source.ensures) c.if-not-self-source.true _ (le_refl _))

second : (v t u s : ℕ) → (eqb v t && eqb u s) ≡ true → u ≡ s
second v t u s e = eqb-true u s (both (eqb v t) (eqb u s) e).1

pub loop-source-preserved : goal.loop-source-preserved
loop-source-preserved t c =
    let pre = c.requires in
    let a = c.args in
    let s = a.ground.now.sources.now in
    let at = c.loop-source in
    let lent = c.of-source-items.ensures in
    let in_size : at.source-index < get_or s.counts a.node 0 = omega (arith, lent.count, c.loop-source-test.true) in
    let is : c.from-source.result ≡ get_or s.lists (8 * a.node + at.source-index) 0 = lent_at _ _ lent.items in_size c.from-source.ensures in
    let source_node = source_node pre.table pre.node_in in_size is in
    let o = a.ground.now.old.now in
    let d = a.ground.now.change in
    let was = pre.was in
    let w₀ = a.self.now in
    let m₀ = set w₀.marks a.node true in
    let u = c.from-source.result in
    let P : Walk → Type 0 = λ x. Going s.counts s.lists o.nodes o.count d.adding d.source d.target a.node m₀ w₀.order.nodes w₀.order.count w₀.at
    x.marks x.order.nodes x.order.count x.at (at.source-index + 1) in
    elim c.if-not-self-source.branch [
      | then-not-self-source+then-not-is w ↦ subst P (sym w.self-is)
          (going_into s.counts s.lists o.nodes o.count d.adding d.source d.target a.node pre.node_in m₀ w₀.order.nodes w₀.order.count w₀.at
          at.self.marks at.self.order.nodes at.self.order.count at.self.at at.source-index u at.invariant in_size is source_node
          (sym w.is.ensures ∙ w.if-not-is.true) _ _ _ _ w.skim.ensures)
      | then-not-self-source+else-not-is+then-change w ↦ subst P (sym w.self-is)
          (let here = sym w.is.ensures ∙ w.if-not-is.false in
          going_add s.counts s.lists o.nodes o.count d.adding d.source d.target a.node pre.node_in m₀ w₀.order.nodes w₀.order.count w₀.at
          at.self.marks at.self.order.nodes at.self.order.count at.self.at at.source-index u at.invariant in_size is source_node
          was.long was.fits w.if-change.true here (second a.node d.target u d.source here) _ _ _ _ w.skim-then-change.ensures)
      | then-not-self-source+else-not-is+else-change w ↦ subst P (sym w.self-is)
          (let here = sym w.is.ensures ∙ w.if-not-is.false in
          going_pull s.counts s.lists o.nodes o.count d.adding d.source d.target a.node pre.node_in m₀ w₀.order.nodes w₀.order.count w₀.at
          at.self.marks at.self.order.nodes at.self.order.count at.self.at at.source-index u at.invariant in_size is source_node
          was.long was.fits w.if-change.false here (second a.node d.target u d.source here) w.if-not-self-source.true)
      | else-not-self-source w ↦ subst P (sym w.self-is)
          (going_past s.counts s.lists o.nodes o.count d.adding d.source d.target a.node pre.node_in m₀ w₀.order.nodes w₀.order.count w₀.at
          at.self.marks at.self.order.nodes at.self.order.count at.self.at at.source-index u at.invariant in_size is source_node w.if-not-self-source.false)
    ]

pub push-requires : goal.push-requires
push-requires t c =
    let a = c.args in
    let pre = c.requires in
    let one = unmarked-set a.self.now.marks a.node (omega (arith, pre.room.marks_size, pre.node_in)) pre.unseen in
    (omega (arith, one, c.loop-source.invariant.grown.total, pre.room.room), pre.node_in)

pub returns : goal.returns
returns t c =
    let at = c.loop-source in
    let a = c.args in
    let pre = c.requires in
    let g = a.ground.now in
    let s = g.sources.now in
    let o = g.old.now in
    let d = g.change in
    let w = a.self.now in
    let goal_is = c.from-goal.ensures ∙ pre.was.placed.at d.target pre.target_in in
    let one = unmarked-set w.marks a.node (omega (arith, pre.room.marks_size, pre.node_in)) pre.unseen in
    let all : get_or s.counts a.node 0 ≤ at.source-index = omega (arith, c.of-source-items.ensures.count, c.loop-source-test.false) in
    let room : at.self.order.count < length at.self.order.nodes = omega (arith, one, at.invariant.grown.total, pre.room.room, at.self.order.long) in
    subst₂ (λ (l : List ℕ) (n : ℕ). Skimmed s.counts s.lists o.nodes o.count d.adding d.source d.target a.node w.marks w.order.nodes w.order.count w.at
    at.self.marks l n at.self.at) (sym c.push.ensures.nodes) (sym c.push.ensures.count)
    (skimmed_walked s.counts s.lists o.nodes g.places.now.at o.count d.adding d.source d.target a.node pre.was pre.node_in pre.target_in
    w.marks w.order.nodes w.order.count w.at pre.room pre.unseen _ (c.from-place.ensures ∙ pre.was.placed.at a.node pre.node_in)
    (λ x y f. test_no _ _ _ _ _ c.if-self-place.false x y
    (λ un j h. f un (subst (λ (k : ℕ). w.at ≤ k) goal_is j) (subst (λ (k : ℕ). k ≤ c.from-place.result) goal_is h)))
    at.self.marks at.self.order.nodes at.self.order.count at.self.at at.source-index at.invariant all room)
