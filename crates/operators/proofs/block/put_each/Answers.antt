-- `operators::block::put_each` meets its contract: the samples are stored one after the other. Assumes nothing.
use mathlib.Core.Path.{◌≡◌, ap, ◌∙◌}
use Prim.Native.Nat.{◌+◌, ◌*◌, ◌/◌}
use native.Mathlib.Omega.{arith}
use Rattle.values.specs.Words.{words}
use Rattle.values.specs.Floats.{set_float}
use Rattle.effects.proofs.Filled.{storing_none, storing_then, storing_four}
use Rattle.operators.proofs.block.put_each.Goals as goal

pub loop-group-init : goal.loop-group-init
loop-group-init g c y h = storing_none

pub loop-group-preserved : goal.loop-group-preserved
loop-group-preserved g c y h =
    let l = c.loop-group in
    let next : 4 * l.group + 4 ≡ 4 * (l.group + 1) = omega arith in
    rw (← next)
    (storing_four (l.invariant y h) (omega (arith, c.loop-group-test.true)) c.store_four.auto.mem c.store_four.ensures
    (h _ _ (omega arith) c.sample.ensures) (h _ _ (omega arith) c.sample-in-loop-group.ensures) (h _ _ (omega arith) c.sample-in-loop-group-2.ensures)
    (h _ _ (omega arith) c.sample-in-loop-group-3.ensures))

pub loop-j-preserved : goal.loop-j-preserved
loop-j-preserved g c y h =
    let l = c.loop-j in
    let i = c.args.count / 4 * 4 + l.j in
    let next : i + 1 ≡ c.args.count / 4 * 4 + (l.j + 1) = omega arith in
    rw (← next)
    (storing_then (l.invariant y h) (omega (arith, c.loop-j-test.true)) c.store.auto.mem
    (c.store.ensures ∙ ap (set_float (words l.cell) _) (h _ _ (omega (arith, c.loop-j-test.true)) c.sample-in-loop-j.ensures)))
