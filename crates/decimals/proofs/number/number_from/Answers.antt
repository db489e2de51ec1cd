-- `decimals::number::number_from` meets its contract. The loop's invariant: what is left to read, after the number read so far, is the whole,
-- and has room. Assumes nothing.
use mathlib.Core.Path.{◌≡◌, sym, ap, ◌∙◌}
use Prim.Native.Nat.{ℕ, suc, ◌≤◌, ◌<◌, ◌+◌, ◌-◌, ◌*◌, ◌^◌}
use native.Mathlib.Nat.{le_trans, le_of_eq, mul-one}
use native.Mathlib.Omega.{arith}
use lib.ListN.{length, drop}
use Rattle.std.specs.Prelude.{Option, Some, None, MatchOption}
use Rattle.decimals.specs.Big.{value_of}
use Rattle.decimals.specs.Number.{digit_of, number_from}
use Rattle.decimals.proofs.Reading.{number_more, number_end, room_step, room_now}
use Rattle.decimals.proofs.Rounding.{digits_reach}
use Rattle.decimals.proofs.number.number_from.Goals as goal

-- what a turn starts from: a decimal digit, and room for it and those behind it
read_digit : (r : Option ℕ) (byte digit : ℕ) → r ≡ Some digit → MatchOption r (10 ≤ digit_of byte) (λ d. (d ≡ digit_of byte) × (d < 10)) → (digit ≡ digit_of byte) × (digit < 10)
read_digit None byte digit e m = absurd (cc)
read_digit (Some d) byte digit e m = let same : d ≡ digit = cc in (sym same ∙ m.0, omega (arith, m))

one_less : (n i : ℕ) → i < n → n - i ≡ suc (n - (i + 1))
one_less n i h = omega arith

room : (v n i w : ℕ) → i < n → (v + 1) * 10 ^ (n - i) ≤ w → (v + 1) * 10 ^ suc (n - (i + 1)) ≤ w
room v n i w h le = le_trans (le_of_eq (ap (λ (z : ℕ). (v + 1) * 10 ^ z) (sym (one_less n i h)))) le

pub times-number-requires : goal.times-number-requires
times-number-requires c = digits_reach _ (le_trans (room_now _ _ _ _ ((read_digit c.digit_of.result _ c.unwrap.result c.unwrap.ensures c.digit_of.ensures).1) (room _ (length c.args.digits.now) c.loop-byte.byte-index _ c.loop-byte-test.true c.loop-byte.invariant.1)) c.requires.1)

pub loop-byte-preserved : goal.loop-byte-preserved
loop-byte-preserved c =
    let digits = c.args.digits.now in
    let i = c.loop-byte.byte-index in
    let v = value_of c.loop-byte.number in
    let read = (read_digit c.digit_of.result _ c.unwrap.result c.unwrap.ensures c.digit_of.ensures).0 in (
      ap (number_from (drop (i + 1) digits)) (c.times-number.ensures ∙ ap (λ (d : ℕ). v * 10 + d) read) ∙ sym (number_more digits i v c.loop-byte-test.true) ∙ c.loop-byte.invariant.0,
      le_trans (le_of_eq (ap (λ (z : ℕ). (z + 1) * 10 ^ (length digits - (i + 1))) c.times-number.ensures)) (room_step _ _ _ _ ((read_digit c.digit_of.result _ c.unwrap.result c.unwrap.ensures c.digit_of.ensures).1) (room _ (length c.args.digits.now) c.loop-byte.byte-index _ c.loop-byte-test.true c.loop-byte.invariant.1)),
    )

pub returns : goal.returns
returns c =
    let digits = c.args.digits.now in
    let v = value_of c.loop-byte.number in
    let none : length digits - c.loop-byte.byte-index ≡ 0 = nothing (length digits) c.loop-byte.byte-index c.loop-byte-test.false in (
      sym (number_end digits c.loop-byte.byte-index v c.loop-byte-test.false) ∙ c.loop-byte.invariant.0,
      le_trans (le_of_eq (sym (ap (λ (n : ℕ). (v + 1) * 10 ^ n) none ∙ mul-one (v + 1)))) c.loop-byte.invariant.1,
    )
  where
    nothing : (n i : ℕ) → n ≤ i → n - i ≡ 0
    nothing n i h = omega arith
