-- `graph::graph::visit` meets its contract. One node less is unmarked than where the function was called, and the loop goes on as `Going`
-- says. Assumes nothing.
use mathlib.Core.Path.{◌≡◌, sym, ap, subst, subst₂, ◌∙◌}
use mathlib.Core.List.{List}
use mathlib.Core.Bool.{Bool, true}
use Prim.Native.Nat.{ℕ, ◌+◌, ◌*◌, ◌<◌, ◌≤◌}
use native.Mathlib.Omega.{arith}
use lib.ListN.{length, get_or, set, length-set}
use Rattle.sources.proofs.Part.{part_at}
use Rattle.graph.specs.Walking.{Visited}
use Rattle.graph.specs.declared.graph.Order.{Order}
use Rattle.graph.proofs.Going.{unmarked-set, Going, going_past, going_into, going_done}
use Rattle.graph.proofs.graph.+visit.Goals as goal
use Rattle.graph.proofs.graph.+visit.Goals.{then-not-marks-source, else-not-marks-source}

pub returns : goal.returns
returns t c =
    let at = c.loop-source in
    let pre = c.requires in
    let a = c.args in
    let s = a.sources.now in
    let in_marks : a.node < length a.marks.now = omega (arith, pre.marks_size, pre.node) in
    let all : get_or s.counts a.node 0 ≤ at.source-index = omega (arith, c.of-source-items.ensures.count) in
    let room : at.order.count < length at.order.nodes =
    omega (arith, unmarked-set a.marks.now a.node in_marks pre.unseen, at.invariant.total, pre.room, at.order.long) in
    subst₂ (Visited s.counts s.lists a.node a.marks.now a.order.now.nodes a.order.now.count at.marks) (sym c.push.ensures.nodes) (sym c.push.ensures.count)
    (going_done s.counts s.lists a.node pre.node a.marks.now a.order.now.nodes a.order.now.count in_marks pre.unseen at.marks at.order.nodes at.order.count
    at.source-index at.invariant all room)

pub visit-requires : goal.visit-requires
visit-requires t c =
    let pre = c.requires in
    let a = c.args in
    let at = c.loop-source in
    let g = at.invariant in
    let s = a.sources.now in
    let in_size : at.source-index < get_or s.counts a.node 0 = omega (arith, c.of-source-items.ensures.count) in
    let is : c.from-source.result ≡ get_or s.lists (8 * a.node + at.source-index) 0 =
    c.from-source.ensures ∙ ap (λ (l : List ℕ). get_or l at.source-index 0) c.of-source-items.ensures.items ∙ part_at s.lists (8 * a.node) _ _ in_size in
    let one = unmarked-set a.marks.now a.node (omega (arith, pre.marks_size, pre.node)) pre.unseen in (
      omega (arith, c.decreases, one, g.fewer),
      record {
        table = pre.table;
        marks_size = omega (arith, g.marks_kept, pre.marks_size, length-set a.marks.now a.node true);
        node = subst (λ (u : ℕ). u < 64) (sym is) (pre.table.nodes a.node at.source-index pre.node in_size);
        unseen = c.if-not-marks-source.true;
        room = omega (arith, one, g.total, pre.room);
      },
    )

pub loop-source-preserved : goal.loop-source-preserved
loop-source-preserved t c =
    let at = c.loop-source in
    let a = c.args in
    let s = a.sources.now in
    let m₀ = set a.marks.now a.node true in
    let i = at.source-index in
    let P : List Bool → Order → Type 0 = λ m o. Going s.counts s.lists a.node m₀ a.order.now.nodes a.order.now.count m o.nodes o.count (i + 1) in
    let in_size : i < get_or s.counts a.node 0 = omega (arith, c.of-source-items.ensures.count) in
    let is : c.from-source.result ≡ get_or s.lists (8 * a.node + i) 0 =
    c.from-source.ensures ∙ ap (λ (l : List ℕ). get_or l i 0) c.of-source-items.ensures.items ∙ part_at s.lists (8 * a.node) _ _ in_size in
    let source_node : c.from-source.result < 64 =
    subst (λ (u : ℕ). u < 64) (sym is) (c.requires.table.nodes a.node i c.requires.node in_size) in
    elim c.if-not-marks-source.branch [
      | then-not-marks-source w ↦ subst₂ P (sym w.marks-is) (sym w.order-is)
          (going_into s.counts s.lists a.node c.requires.node m₀ a.order.now.nodes a.order.now.count at.marks at.order.nodes at.order.count i c.from-source.result
          at.invariant in_size is _ _ _ w.visit.ensures)
      | else-not-marks-source w ↦ subst₂ P (sym w.marks-is) (sym w.order-is)
          (going_past s.counts s.lists a.node c.requires.node m₀ a.order.now.nodes a.order.now.count at.marks at.order.nodes at.order.count i c.from-source.result
          at.invariant in_size is source_node w.if-not-marks-source.false)
    ]

pub push-requires : goal.push-requires
push-requires t c =
    let pre = c.requires in
    let a = c.args in
    (omega (arith, unmarked-set a.marks.now a.node (omega (arith, pre.marks_size, pre.node)) pre.unseen, c.loop-source.invariant.total, pre.room), pre.node)

pub of-source-items-requires : goal.of-source-items-requires
of-source-items-requires t c =
    let a = c.args in
    (c.requires.node, c.requires.table.few a.node c.requires.node)
