-- `decimals::number::digits_from` meets its contract. The loop's invariant: what is left to read, after the number read so far, is the run.
-- Assumes nothing.
use mathlib.Core.Path.{◌≡◌, sym, ap, ◌∙◌}
use Prim.Native.Nat.{ℕ, ◌+◌}
use native.Mathlib.Omega.{arith}
use borrow.Author.Rules.{rules}
use borrow.Author.Tests.{lt-ltb, le-ltb}
use mathlib.Core.Bool.{true}
use lib.Dec.{ltb}
use lib.ListN.{length, drop, get_or}
use Rattle.decimals.specs.Number.{digit_of, more, digits_from}
use Rattle.decimals.specs.declared.number.Run.{Run}
use Rattle.decimals.proofs.Reading.{run_more, run_stop, run_end}
use Rattle.decimals.proofs.number.digits_from.Goals as goal

pub returns-in_default : goal.returns-in_default
returns-in_default c =
    let stop = le-ltb _ 10 c.in_default.ensures in
    (search rules, search rules, sym (run_stop c.args.s.now c.loop-i.i c.loop-i.value (omega arith) stop) ∙ c.loop-i.invariant.1)

pub loop-i-preserved : goal.loop-i-preserved
loop-i-preserved c =
    let s = c.args.s.now in
    let i = c.loop-i.i in
    let digit = c.in-Some.ensures in
    let on : ltb (digit_of (get_or s i 0)) 10 ≡ true = lt-ltb _ 10 (omega (arith, digit.0, digit.1)) in
    let grown = c.appended-value.ensures.0 ∙ ap (more c.loop-i.value) digit.0 in
    (search rules, ap (λ (v : ℕ). digits_from (drop (i + 1) s) v (i + 1)) grown ∙ sym (run_more s i c.loop-i.value (omega arith) on) ∙ c.loop-i.invariant.1)

pub returns : goal.returns
returns c =
    let s = c.args.s.now in
    let i = c.loop-i.i in
    let v = c.loop-i.value in
    let end : i ≡ length s = omega arith in
    let run : ℕ → Run = λ n. record { value = v; next = n } in
    (search rules, search rules, ap run (sym end) ∙ sym (run_end s i v (omega arith)) ∙ c.loop-i.invariant.1)
