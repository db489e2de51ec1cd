-- `resizing::resize::late_among` meets its contract. The loop's invariant: of the wires so far so many are late, and the last late one leads to
-- the target. Assumes nothing.
use mathlib.Core.Path.{◌≡◌, refl, sym, ap, ◌∙◌}
use mathlib.Core.Bool.{Bool, true, false, cond}
use mathlib.Core.List.{List}
use Prim.Native.Nat.{ℕ, ◌+◌, ◌<◌}
use native.Mathlib.Omega.{arith}
use Rattle.std.proofs.lemmas.Grind.{common_steps}
use lib.ListN.{length, get_or}
use lib.Seq.{get_or-take}
use Rattle.std.specs.Prelude.{Some}
use Rattle.boards.specs.Wires.{wires_of}
use Rattle.graph.specs.Late.{late_wires, Placed}
use Rattle.resizing.specs.Planning.{Lates}
use Rattle.resizing.proofs.Planning.{lates_more}
use Rattle.resizing.proofs.resize.late_among.Goals as goal
use Rattle.resizing.proofs.resize.late_among.Goals.{then-is_late, else-is_late}

pub loop-source-init : goal.loop-source-init
unfolding late_wires
loop-source-init c = (omega arith, λ l size placed. record { counted = refl; last = refl })

pub loop-source-preserved : goal.loop-source-preserved
loop-source-preserved c =
    let at = c.loop-source in
    let i = at.source-index in
    let a = c.args in
    let ws = a.wires.now.list in
    let inside : i < length ws = grind (arith, common_steps) in
    let in_count : i < a.wires.now.count = grind (arith, common_steps) in
    let is : get_or c.listed-source-items.result.now i (0, 0) ≡ get_or ws i (0, 0) =
    ap (λ (l : List (ℕ × ℕ)). get_or l i (0, 0)) c.listed-source-items.ensures ∙ get_or-take a.wires.now.count ws i (0, 0) in_count in
    let is_s : c.from.result ≡ (get_or ws i (0, 0)).0 = c.from.ensures ∙ ap (λ (p : ℕ × ℕ). p.0) is in
    let is_t : c.from-target.result ≡ (get_or ws i (0, 0)).1 = c.from-target.ensures ∙ ap (λ (p : ℕ × ℕ). p.1) is in
    let more : (l : List ℕ) → length l ≡ a.places.now.count → Placed l a.places.now.at → (b : Bool) → c.is_late.result ≡ b
    → Lates (late_wires l (wires_of ws (i + 1))) (cond b (at.late.count + 1) at.late.count) (cond b (Some c.from-target.result) at.late.target) =
    λ l size placed b e.
    rw is_t
    (lates_more l ws i at.late.count at.late.target b inside (rw (← is_s, ← is_t) refl ∙ sym (c.is_late.ensures l size placed) ∙ e) (at.invariant.1 l size placed)) in
    elim c.if-is_late.branch [
      | then-is_late w ↦ (rw w.late-is (omega arith), λ l size placed. rw w.late-is (more l size placed true w.if-is_late.true))
      | else-is_late w ↦ (rw w.late-is (omega arith), λ l size placed. rw w.late-is (more l size placed false w.if-is_late.false))
    ]
