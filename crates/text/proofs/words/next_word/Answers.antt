-- `text::words::next_word` meets its contract: the word starts where the spaces end, and ends at the next. Assumes nothing.
use mathlib.Core.Path.{ap, ◌∙◌}
use Prim.Native.Nat.{ℕ}
use Rattle.text.specs.Words.{is_space, is_word, word_from, next_word}
use borrow.Author.Rules.{rules}
use Rattle.text.proofs.words.next_word.Goals as goal

pub returns : goal.returns
unfolding next_word
returns c =
    let first = c.find-from in
    let from = first.ensures.first is_word (λ b r k. search rules) in
    let to = c.find-to.ensures.first is_space (λ b r k. search rules) in
    (search rules, search rules, search rules, ap (λ (n : ℕ). record { from = first.result; to = n }) to ∙ ap (word_from c.args.s.now) from)
