-- `operators::block::join` meets its contract: the samples are joined to theirs one after the other; those ahead are as they were. Assumes nothing.
use mathlib.Core.Path.{◌≡◌, ap, ◌∙◌}
use mathlib.Core.List.{List}
use Prim.Native.Nat.{ℕ, ◌+◌, ◌*◌, ◌/◌}
use native.Mathlib.Omega.{arith}
use lib.ListN.{length, get_or}
use lib.Ieee.{Float, nan}
use Rattle.values.specs.Words.{words}
use Rattle.values.specs.Floats.{float_at}
use Rattle.effects.proofs.Filled.{filling_none, filling_then, filling_four, filling_ahead}
use Rattle.operators.proofs.block.join.Goals as goal

pub loop-group-init : goal.loop-group-init
loop-group-init g c o h = filling_none

pub loop-group-preserved : goal.loop-group-preserved
loop-group-preserved g c o h =
    let l = c.loop-group in
    let i = 4 * l.group in
    let r = l.invariant o h in
    let ahead = filling_ahead r in
    let next : i + 4 ≡ 4 * (l.group + 1) = omega arith in
    let read : (j : ℕ) → get_or c.load_four-y.result j nan ≡ _ = λ j. ap (λ (y : List Float). get_or y j nan) c.load_four-y.ensures in
    let at : (j : ℕ) → float_at (words c.args.memory.now) (c.args.at + i + j) ≡ float_at (words c.args.memory.now) (c.args.at + (i + j)) = λ j.
    let e : c.args.at + i + j ≡ c.args.at + (i + j) = omega arith in ap (float_at (words c.args.memory.now)) e in
    rw (← next)
    (filling_four r (omega (arith, l.auto.x, c.loop-group-test.true)) (omega (arith, l.auto.x, c.loop-group-test.true))
    (h _ _ _ c.op.ensures ∙ (λ k. o (ahead i (omega arith) k) (read 0 k)))
    (h _ _ _ c.op-in-loop-group.ensures ∙ (λ k. o (ahead (i + 1) (omega arith) k) ((read 1 ∙ at 1) k)))
    (h _ _ _ c.op-in-loop-group-2.ensures ∙ (λ k. o (ahead (i + 2) (omega arith) k) ((read 2 ∙ at 2) k)))
    (h _ _ _ c.op-in-loop-group-3.ensures ∙ (λ k. o (ahead (i + 3) (omega arith) k) ((read 3 ∙ at 3) k))))

pub loop-j-preserved : goal.loop-j-preserved
loop-j-preserved g c o h =
    let l = c.loop-j in
    let r = l.invariant o h in
    let i = length c.args.x.now / 4 * 4 + l.j in
    let next : i + 1 ≡ length c.args.x.now / 4 * 4 + (l.j + 1) = omega arith in
    rw (← next)
    (filling_then r (omega (arith, l.auto.x, c.loop-j-test.true))
    (h _ _ _ c.op-in-loop-j.ensures ∙ (λ k. o (filling_ahead r i (omega arith) k) (c.load.ensures k))))
