-- `card_lines::labels::body_of` meets its contract. Assumes nothing.
use Rattle.std.proofs.Common.{◌≡◌, true, false}
use Rattle.std.proofs.lemmas.List.{take_rest}
use Rattle.text.specs.Words.{nth_word}
use Rattle.card_lines.specs.Labels.{body_of, is_label}
use Rattle.card_lines.proofs.Labelling.{labelled}
use Rattle.card_lines.proofs.labels.body_of.Goals as goal

pub returns-then-is_none : goal.returns-then-is_none
unfolding body_of
returns-then-is_none c =
    let e : is_label (nth_word 0 c.args.line.now) ≡ false = rw c.if-is_none.true at (labelled _ c.label_of.result _ c.is_none.result c.is_none.ensures c.label_of.ensures) in
    rw e

pub returns : goal.returns
unfolding body_of
returns c =
    let e : is_label (nth_word 0 c.args.line.now) ≡ true = rw c.if-is_none.false at (labelled _ c.label_of.result _ c.is_none.result c.is_none.ensures c.label_of.ensures) in
    let t = take_rest c.args.line.now c.next_word-passed.result.to in
    rw e (cc)
