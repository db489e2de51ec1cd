-- `context::block::samples_judged` meets its contract. The samples passed are finite, so what is left decides. Assumes nothing.
use mathlib.Core.Path.{sym, ap, ◌∙◌}
use native.Mathlib.Omega.{arith}
use Rattle.std.specs.Prelude.{Err}
use Rattle.values.specs.Words.{words, length-words}
use Rattle.values.specs.Floats.{finite_bits}
use Rattle.records.specs.Answer.{checked}
use Rattle.context.proofs.BlockChecks.{samples_next, samples_wrong, samples_end}
use Rattle.context.proofs.block.samples_judged.Goals as goal

pub loop-i-preserved : goal.loop-i-preserved
loop-i-preserved c =
    let at = c.loop-i in
    let fits = sym (ap finite_bits c.word_at.ensures) ∙ sym c.finite_bits.ensures ∙ c.if-not-finite_bits.false in
    samples_next (words c.args.input.now) at.i (omega (arith, length-words c.args.input.now)) fits ∙ at.invariant

pub returns-then-not-finite_bits : goal.returns-then-not-finite_bits
returns-then-not-finite_bits c =
    let at = c.loop-i in
    let wrong = sym (ap finite_bits c.word_at.ensures) ∙ sym c.finite_bits.ensures ∙ c.if-not-finite_bits.true in
    ap Err c.new.ensures ∙ ap checked (sym (samples_wrong (words c.args.input.now) at.i (omega (arith, length-words c.args.input.now)) wrong) ∙ at.invariant)

pub returns : goal.returns
returns c =
    let all = samples_end (words c.args.input.now) c.loop-i.i (omega (arith, length-words c.args.input.now)) in
    ap checked (sym all ∙ c.loop-i.invariant)
