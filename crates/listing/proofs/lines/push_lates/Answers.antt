-- `listing::lines::push_lates` meets its contract. The loop's invariant: the late ones of the first i wires are written, in at most 11 bytes each. Assumes nothing.
use mathlib.Core.Path.{◌≡◌, sym, ap, subst, ◌∙◌}
use mathlib.Core.List.{List, ◌++◌}
use Prim.Native.Nat.{ℕ, ◌+◌, ◌*◌, ◌<◌, ◌≤◌}
use native.Mathlib.Omega.{arith}
use borrow.Author.Rules.{rules}
use lib.ListN.{length, take, get_or}
use lib.Seq.{get_or-take, length-take-le}
use Rattle.boards.specs.Wires.{wires_of}
use Rattle.boards.specs.declared.board.Wires.{Wires}
use Rattle.graph.specs.Late.{is_late, late_wires}
use Rattle.reading.specs.Order.{wire}
use Rattle.text.proofs.Writing.{appends_none, appends_both}
use Rattle.listing.specs.Text.{late_lines}
use Rattle.listing.proofs.Writing.{lates_hit, lates_miss}
use Rattle.listing.proofs.lines.push_lates.Goals as goal
use Rattle.listing.proofs.lines.push_lates.Goals.{then-is_late, else-is_late}

pub loop-source-init : goal.loop-source-init
unfolding late_wires late_lines
loop-source-init c = (omega arith, appends_none _)

-- wire i of those that are listed, and its ends
module _ (w : Wires) (i : ℕ) {r : List (ℕ × ℕ)} (listed : r ≡ take w.count w.list) (h : i < length r) where
  size : length r ≡ w.count
  size = ap length listed ∙ length-take-le w.count w.list (omega (arith, w.few, w.long))

  wire_at : (i < w.count) × (i < length w.list) × (get_or r i (0, 0) ≡ get_or w.list i (0, 0))
  wire_at =
      let inside : i < w.count = omega (arith, size, h) in
      (inside, omega (arith, inside, w.few, w.long), ap (λ (l : List (ℕ × ℕ)). get_or l i (0, 0)) listed ∙ get_or-take w.count w.list i (0, 0) inside)

  ends : ((get_or r i (0, 0)).0 < 64) × ((get_or r i (0, 0)).1 < 64)
  ends = rw wire_at.2 (w.joined i wire_at.0)

pub push_late-requires : goal.push_late-requires
push_late-requires c =
    let wires = c.args.wires.now in
    let at = c.loop-source in
    let here = wire_at wires at.source-index c.listed-source-items.ensures c.loop-source-test.true in
    let ends = ends wires at.source-index c.listed-source-items.ensures c.loop-source-test.true in
    (search (rules, ends.0, ends.1), search (rules, ends.0, ends.1), omega (arith, at.invariant.1.short, c.requires, here.0))

pub loop-source-preserved : goal.loop-source-preserved
loop-source-preserved c =
    let at = c.loop-source in
    let order = c.args.order.now in
    let wires = c.args.wires.now in
    let l = take order.count order.nodes in
    let i = at.source-index in
    let here = wire_at wires i c.listed-source-items.ensures c.loop-source-test.true in
    let p = get_or c.listed-source-items.result.now i (0, 0) in
    let size : length l ≡ c.places-places.result.count = omega (arith, length-take-le order.count order.nodes (omega (arith, order.long, order.fits)), c.places-places.ensures.size) in
    let judged : is_late l (wire p.0 p.1) ≡ c.is_late.result = rw (← c.from.ensures, ← c.from-in-loop-source.ensures) (sym (c.is_late.ensures l size c.places-places.ensures.placed)) in
    let more : 11 * i + 11 ≡ 11 * (i + 1) = omega arith in
    elim c.if-is_late.branch [
      | then-is_late w ↦ (
        omega (arith, here.0),
        rw (w.out-is, lates_hit l wires.list i p here.2 here.1 (judged ∙ w.if-is_late.true), ← more) (appends_both c.args.out.now _ _ (11 * i) 11 at.invariant.1 w.push_late.ensures),
      )
      | else-is_late w ↦ (
        omega (arith, here.0),
        rw (w.out-is, lates_miss l wires.list i p here.2 here.1 (judged ∙ w.if-is_late.false)) (record { wrote = at.invariant.1.wrote; short = omega (arith, at.invariant.1.short) }),
      )
    ]

pub returns : goal.returns
returns c =
    let at = c.loop-source in
    let wires = c.args.wires.now in
    let order = c.args.order.now in
    let e : at.source-index ≡ wires.count =
    omega (arith, c.loop-source-test.false, ap length c.listed-source-items.ensures, length-take-le wires.count wires.list (omega (arith, wires.few, wires.long)), at.invariant.0) in
    subst (λ (n : ℕ). at.out ≡ c.args.out.now ++ late_lines (late_wires (take order.count order.nodes) (wires_of wires.list n))) e at.invariant.1.wrote
