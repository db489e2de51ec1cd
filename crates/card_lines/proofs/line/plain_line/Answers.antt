-- `card_lines::line::plain_line` meets its contract: nothing, or a record by its name, if it has so many words. Assumes nothing.
use Rattle.std.proofs.Common.{◌≡◌, sym, ap, ◌∙◌, Some, None, true, false, length}
use borrow.Author.Tests.{eq-eqb, ne_eqb}
use lib.Dec.{eqb}
use Rattle.decimals.proofs.Question.{went_on, returned}
use Rattle.text.specs.Words.{nth_word, word_count}
use Rattle.card_lines.specs.Names.{named, words_wanted}
use Rattle.card_lines.specs.Line.{plain_line}
use Rattle.card_lines.proofs.line.plain_line.Goals as goal

pub returns-then-is_empty : goal.returns-then-is_empty
unfolding plain_line
returns-then-is_empty c =
    let e : eqb (length (nth_word 0 c.args.line.now)) 0 ≡ true = rw c.nth_word-word.ensures at (sym c.is_empty.ensures ∙ c.if-is_empty.true) in
    rw e

pub returns-in_err-name : goal.returns-in_err-name
unfolding plain_line
returns-in_err-name c =
    let s = c.args.line.now in
    let e : eqb (length (nth_word 0 s)) 0 ≡ false = rw c.nth_word-word.ensures at (sym c.is_empty.ensures ∙ c.if-is_empty.false) in
    let none = returned c.named.result c.from_residual.result _ c.in_err-name.ensures.value c.from_residual.ensures in
    let n : named (nth_word 0 s) ≡ None = sym (c.named.ensures ∙ ap named c.nth_word-word.ensures) ∙ none.0 in
    rw (e, n) none.1

pub returns-then-word_count-words_wanted : goal.returns-then-word_count-words_wanted
unfolding plain_line
returns-then-word_count-words_wanted c =
    let s = c.args.line.now in
    let e : eqb (length (nth_word 0 s)) 0 ≡ false = rw c.nth_word-word.ensures at (sym c.is_empty.ensures ∙ c.if-is_empty.false) in
    let n : named (nth_word 0 s) ≡ Some c.in_ok-name.name = sym (went_on c.named.result _ c.in_ok-name.ensures.value ∙ c.named.ensures ∙ ap named c.nth_word-word.ensures) in
    let t : eqb (word_count s) (words_wanted c.in_ok-name.name) ≡ false =
    ne_eqb _ _ (λ same. c.if-word_count-words_wanted.true (c.word_count.ensures ∙ same ∙ sym c.words_wanted.ensures)) in
    rw (e, n, t)

pub returns : goal.returns
unfolding plain_line
returns c =
    let s = c.args.line.now in
    let e : eqb (length (nth_word 0 s)) 0 ≡ false = rw c.nth_word-word.ensures at (sym c.is_empty.ensures ∙ c.if-is_empty.false) in
    let n : named (nth_word 0 s) ≡ Some c.in_ok-name.name = sym (went_on c.named.result _ c.in_ok-name.ensures.value ∙ c.named.ensures ∙ ap named c.nth_word-word.ensures) in
    let t : eqb (word_count s) (words_wanted c.in_ok-name.name) ≡ true =
    eq-eqb _ _ (sym c.word_count.ensures ∙ c.if-word_count-words_wanted.false ∙ c.words_wanted.ensures) in
    rw (e, n, t) c.record_line.ensures
