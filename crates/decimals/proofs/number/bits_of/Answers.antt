-- `decimals::number::bits_of` meets its contract. The loop's invariant: what is left to read, after the bits read so far, is the whole.
-- Assumes nothing.
use mathlib.Core.Path.{sym, ap, ◌∙◌}
use Prim.Native.Nat.{ℕ, ◌+◌, ◌*◌}
use native.Mathlib.Omega.{arith}
use borrow.Author.Tests.{lt-ltb, le-ltb}
use lib.ListN.{drop}
use Rattle.decimals.specs.Number.{hex_from}
use Rattle.decimals.proofs.Question.{went_on, returned}
use Rattle.decimals.proofs.Reading.{hex_more, hex_stop, hex_end, bits_long, bits_short}
use Rattle.decimals.proofs.WordSums.{pow_more}
use Rattle.decimals.proofs.number.bits_of.Goals as goal

pub returns-then-digits-ne8 : goal.returns-then-digits-ne8
returns-then-digits-ne8 c = bits_short _ c.if-digits-ne8.true

pub returns-in_err-digit : goal.returns-in_err-digit
returns-in_err-digit c =
    let s = c.args.digits.now in
    let i = c.loop-byte.byte-index in
    let none = returned c.digit_of.result c.from_residual.result _ c.in_err-digit.ensures.value c.from_residual.ensures in
    let high = rw none.0 at c.digit_of.ensures in
    none.1 ∙ sym (hex_stop s i c.loop-byte.bits (omega arith) (le-ltb _ 16 high)) ∙ c.loop-byte.invariant.1 ∙ bits_long s c.if-digits-ne8.false

pub loop-byte-preserved : goal.loop-byte-preserved
loop-byte-preserved c =
    let s = c.args.digits.now in
    let i = c.loop-byte.byte-index in
    let bits = c.loop-byte.bits in
    let digit = rw (← went_on c.digit_of.result _ c.in_ok-digit.ensures.value) at c.digit_of.ensures in (
      omega (arith, pow_more 16 i, digit),
      ap (λ (d : ℕ). hex_from (drop (i + 1) s) (bits * 16 + d)) digit.0
          ∙ sym (hex_more s i bits (omega arith) (lt-ltb _ 16 (omega (arith, digit))))
          ∙ c.loop-byte.invariant.1,
    )

pub returns : goal.returns
returns c =
    let s = c.args.digits.now in
    sym (hex_end s c.loop-byte.byte-index c.loop-byte.bits (omega arith)) ∙ c.loop-byte.invariant.1 ∙ bits_long s c.if-digits-ne8.false
