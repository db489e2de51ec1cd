-- `decimals::nearest::divided` meets its contract. The loop's invariant: the digits found and what is left are n, doubled i times.
-- Assumes nothing.
use mathlib.Core.Path.{◌∙◌}
use Prim.Native.Nat.{ℕ, ◌≤◌, ◌<◌, ◌^◌}
use native.Mathlib.Nat.{pow-le-pow_right, lt_of_lt_of_le}
use native.Mathlib.Omega.{arith}
use borrow.Author.Rules.{rules}
use Rattle.decimals.proofs.WordSums.{pow_more, raised_more}
use Rattle.decimals.proofs.nearest.divided.Goals as goal

-- the digits found so far
few : (i w : ℕ) → i ≤ 24 → w < 2 ^ i → w < 16777216
few i w h l = lt_of_lt_of_le l (pow-le-pow_right {n = 2} (omega arith) {i = i} {j = 24} h)

pub lengthened-q-requires : goal.lengthened-q-requires
lengthened-q-requires c = few c.loop.counter _ c.loop.invariant.0 c.loop.invariant.1

pub invariant_of-q : goal.invariant_of-q
invariant_of-q c = record { less = c.loop.invariant.2; fits = c.loop.invariant.3 }

pub loop-preserved : goal.loop-preserved
loop-preserved c =
    let q = c.lengthened-q.result in
    let more = c.lengthened-q.ensures in
    let next = raised_more _ _ 2 c.loop.counter c.loop.invariant.5 in
    (search rules, omega (arith, more.0, pow_more 2 c.loop.counter, c.loop.invariant.1), q.less, q.fits, more.1 ∙ c.loop.invariant.4, omega (arith, more.2, next))

pub invariant_of-q-2 : goal.invariant_of-q-2
invariant_of-q-2 c = record { less = c.loop.invariant.2; fits = c.loop.invariant.3 }
