-- `decimals::big::raised` meets its contract. The loop's invariant: the number made is the first times m, i times over. Assumes nothing.
use mathlib.Core.Path.{◌≡◌, sym, ap, ◌∙◌}
use Prim.Native.Nat.{ℕ, ◌<◌, ◌+◌, ◌*◌, ◌^◌}
use native.Mathlib.Nat.{mul-one, pow-zero, pow-le-pow_right, mul-le-mul_left}
use native.Mathlib.Omega.{arith}
use borrow.Author.Rules.{rules}
use Rattle.decimals.specs.Big.{limit}
use Rattle.decimals.proofs.WordSums.{raised_more}
use Rattle.decimals.proofs.big.raised.Goals as goal

-- no power
first : (a m : ℕ) → a ≡ a * m ^ 0
first a m = sym (ap (λ (x : ℕ). a * x) (pow-zero m) ∙ mul-one a)

fits : (a v m i k l : ℕ) → v ≡ a * m ^ i → i < k → 0 < m → a * m ^ k < l → v * m + 0 < l
fits a v m i k l e h p b =
    let on = raised_more a v m i e in
    let room = mul-le-mul_left a (pow-le-pow_right {n = m} p {i = i + 1} {j = k} (omega arith)) in
    omega arith

pub times-made-requires : goal.times-made-requires
times-made-requires c =
    let a = c.args in
    let pre = c.requires in
    fits _ _ a.m c.loop.counter a.k limit c.loop.invariant.1 c.loop-test.true pre.0 pre.1

pub loop-preserved : goal.loop-preserved
loop-preserved c =
    (search rules, c.times-made.ensures ∙ raised_more _ _ c.args.m c.loop.counter c.loop.invariant.1)
