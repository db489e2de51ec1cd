-- `allpass::apfmsgain::positions` meets its contract: the positions are filled in one after the other; those ahead are as they were. Assumes nothing.
use mathlib.Core.Path.{◌≡◌, ap, ◌∙◌}
use Prim.Native.Nat.{ℕ, ◌+◌, ◌*◌, ◌/◌, ◌≤◌}
use native.Mathlib.Omega.{arith}
use lib.ListN.{length}
use lib.Ieee.{Float}
use Rattle.leaves.specs.Position.{position_of}
use Rattle.effects.specs.Block.{sample}
use Rattle.effects.proofs.Filled.{filling_none, filling_then, filling_four, filling_ahead}
use Rattle.allpass.proofs.apfmsgain.positions.Goals as goal

pub loop-group-init : goal.loop-group-init
loop-group-init c = filling_none

pub loop-group-preserved : goal.loop-group-preserved
loop-group-preserved c =
    let l = c.loop-group in
    let i = 4 * l.group in
    let next : i + 4 ≡ 4 * (l.group + 1) = omega arith in
    let at : (j : ℕ) → i ≤ j → position_of (sample l.m j) c.args.n ≡ position_of (sample c.args.m.now j) c.args.n = λ j h.
    ap (λ (v : Float). position_of v c.args.n) (filling_ahead l.invariant j h) in
    rw (c.position_four-four.ensures, ← next)
    (filling_four l.invariant (omega (arith, l.auto.m, c.loop-group-test.true)) (omega (arith, c.loop-group-test.true)) (at i (omega arith)) (at (i + 1) (omega arith)) (at (i + 2) (omega arith))
    (at (i + 3) (omega arith)))

pub loop-j-preserved : goal.loop-j-preserved
loop-j-preserved c =
    let l = c.loop-j in
    let i = length c.args.m.now / 4 * 4 + l.j in
    let next : i + 1 ≡ length c.args.m.now / 4 * 4 + (l.j + 1) = omega arith in
    rw (← next)
    (filling_then l.invariant (omega (arith, l.auto.m, c.loop-j-test.true))
    (c.position.ensures ∙ ap (λ (v : Float). position_of v c.args.n) (filling_ahead l.invariant i (omega arith))))
