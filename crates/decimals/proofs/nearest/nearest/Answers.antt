-- `decimals::nearest::nearest` meets its contract: one division, rounded once. Assumes nothing.
use mathlib.Core.Path.{◌≡◌, sym, ap, ◌∙◌}
use Prim.Native.Nat.{ℕ, ◌+◌, ◌*◌, ◌^◌, ◌<◌, ◌≤◌}
use native.Mathlib.Nat.{le_trans, le_of_eq, lt_of_lt_of_le, mul-le-mul, mul-le-mul_right, mul-le-mul_left, mul-pos}
use native.Mathlib.Omega.{arith}
use borrow.Author.Rules.{rules}
use borrow.Author.Tests.{le-ltb}
use lib.Dec.{lit<, lit≤}
use Rattle.decimals.specs.Big.{value_of}
use Rattle.decimals.proofs.Rounding.{nearest_bits, infinity_bits, digits_room, tens_room, in_reach}
use Rattle.decimals.proofs.Scaling.{tens_pos}
use Rattle.decimals.proofs.nearest.nearest.Goals as goal

-- the digits times their power of ten
digits_value : (r d up : ℕ) → r ≡ d * 10 ^ up → d < 10 ^ 40 → up ≤ 60 → r ≤ 10 ^ 100
digits_value r d up e h g = le_trans (le_of_eq e) (digits_room d up h g)

-- 2^24 units, at first
first_unit : (r s down : ℕ) → r ≡ s * 10 ^ down → s ≡ 16777216 → r ≡ 16777216 * 10 ^ down
first_unit r s down e f = e ∙ ap (λ (z : ℕ). z * 10 ^ down) f

-- the number in smallest floats
in_units : (n r d up : ℕ) → n ≡ r * 2 ^ 149 → r ≡ d * 10 ^ up → n ≡ d * 10 ^ up * 2 ^ 149
in_units n r d up e f = e ∙ ap (λ (z : ℕ). z * 2 ^ 149) f

-- the unit that is found
unit : (u r down k : ℕ) → u ≡ r * 2 ^ k → r ≡ 16777216 * 10 ^ down → u ≡ 16777216 * 10 ^ down * 2 ^ k
unit u r down k e f = e ∙ ap (λ (z : ℕ). z * 2 ^ k) f

pub raised-requires : goal.raised-requires
raised-requires c = (search rules, in_reach _ (le_trans (digits_room _ c.args.up c.requires.0 c.requires.1) (lit≤ tt)))

pub raised-n-requires : goal.raised-n-requires
raised-n-requires c = (search rules, in_reach _ (le_trans (mul-le-mul_right (2 ^ 149) (digits_value _ _ c.args.up c.raised.ensures c.requires.0 c.requires.1)) (lit≤ tt)))

pub raised-requires-2 : goal.raised-requires-2
raised-requires-2 c =
    (search rules, in_reach _ (le_trans (mul-le-mul (le_of_eq c.small.ensures) (tens_room c.args.down c.requires.2)) (lit≤ tt)))

pub scaled-scale-requires : goal.scaled-scale-requires
scaled-scale-requires c = (
  lt_of_lt_of_le (mul-pos (lit< tt) (tens_pos c.args.down)) (le_of_eq (sym (first_unit _ _ c.args.down c.raised-2.ensures c.small.ensures))),
  in_reach _ (le_trans (mul-le-mul_right 2 (le_trans (le_of_eq (first_unit _ _ c.args.down c.raised-2.ensures c.small.ensures)) (mul-le-mul_left 16777216 (tens_room c.args.down c.requires.2)))) (lit≤ tt)),
  in_reach _ (le_trans (mul-le-mul_right 4 (le_trans (le_of_eq c.raised-n.ensures) (mul-le-mul_right (2 ^ 149) (digits_value _ _ c.args.up c.raised.ensures c.requires.0 c.requires.1)))) (lit≤ tt)),
)

pub returns-then-k-gt253 : goal.returns-then-k-gt253
returns-then-k-gt253 c =
    let a = c.args in
    let made = c.scaled-scale.ensures in
    (omega arith, infinity_bits (value_of a.digits) a.up a.down _ c.scaled-scale.result.k _ (in_units _ _ _ c.args.up c.raised-n.ensures c.raised.ensures) (unit _ _ c.args.down c.scaled-scale.result.k c.scaled-scale.ensures.4 (first_unit _ _ c.args.down c.raised-2.ensures c.small.ensures)) made.1 made.3 c.if-k-gt253.true)

pub returns : goal.returns
returns c =
    let a = c.args in
    let made = c.scaled-scale.ensures in
    let k = c.scaled-scale.result.k in
    let q = c.divided in
    let same = q.ensures.1 in
    let by_unit = ap value_of same ∙ unit _ _ c.args.down k made.4 (first_unit _ _ c.args.down c.raised-2.ensures c.small.ensures) in (
      omega (arith, c.rounded.ensures.0, c.if-k-gt253.false),
      ap (λ (z : ℕ). k * 8388608 + z) c.rounded.ensures.1
          ∙ sym (nearest_bits (value_of a.digits) a.up a.down _ k (value_of q.result.unit) q.result.whole (value_of q.result.rest) (in_units _ _ _ c.args.up c.raised-n.ensures c.raised.ensures) by_unit (rw (← same) at made.1) (rw (← same) at made.3) q.ensures.2 q.result.less
          ∙ (rw (le-ltb 253 k c.if-k-gt253.false))),
    )
