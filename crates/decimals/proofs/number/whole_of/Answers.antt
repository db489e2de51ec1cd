-- `decimals::number::whole_of` meets its contract: a run up to the word's end, one digit or more, at most `most`. Assumes nothing.
use native.Mathlib.Omega.{arith}
use borrow.Author.Rules.{rules}
use Rattle.decimals.proofs.Reading.{whole_stopped, whole_cut, whole_large, whole_fits}
use Rattle.decimals.proofs.number.whole_of.Goals as goal

pub returns-then-run-eq0 : goal.returns-then-run-eq0
returns-then-run-eq0 c =
    let run = c.digits_from-run in
    (search rules, whole_stopped _ _ run.result run.ensures.2 c.if-run-eq0.true)

pub returns-then-run-word : goal.returns-then-run-word
returns-then-run-word c =
    let run = c.digits_from-run in
    (search rules, whole_cut _ _ run.result run.ensures.2 c.if-run-word.true)

pub returns-then-most-run : goal.returns-then-most-run
returns-then-most-run c =
    let run = c.digits_from-run in
    (search rules, whole_large _ _ run.result run.ensures.2 (omega arith) (omega arith) c.if-most-run.true)

pub returns : goal.returns
returns c =
    let run = c.digits_from-run in
    (search rules, whole_fits _ _ run.result run.ensures.2 (omega arith) (omega arith) c.if-most-run.false)
