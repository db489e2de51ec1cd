-- `text::words::nth_word` meets its contract. The loop's invariant: k - i words on from `at`, there is word k of the line. Assumes nothing.
use mathlib.Core.Path.{◌≡◌, sym, ap, ◌∙◌}
use Prim.Native.Nat.{ℕ, suc, ◌-◌, ◌+◌}
use native.Mathlib.Omega.{arith}
use lib.ListN.{take, drop}
use Rattle.text.specs.declared.words.Word.{Word}
use Rattle.text.specs.Words.{nth_word}
use Rattle.text.proofs.Finding.{word_here, words_behind}
use borrow.Author.Rules.{rules}
use Rattle.text.proofs.words.nth_word.Goals as goal

pub loop-init : goal.loop-init
loop-init c =
    let a = c.args in
    let all : a.k ≡ a.k - 0 = omega arith in
    (search rules, search rules, ap (λ (n : ℕ). nth_word n a.line.now) all)

pub loop-preserved : goal.loop-preserved
loop-preserved c =
    let a = c.args in
    let passed = c.next_word-passed in
    let j = a.k - (c.loop.counter + 1) in
    let one : a.k - c.loop.counter ≡ suc j = omega arith in (
      search rules,
      search rules,
      c.loop.invariant.2
          ∙ ap (λ (n : ℕ). nth_word n (drop c.loop.at a.line.now)) one
          ∙ words_behind a.line.now c.loop.at j
          ∙ ap (λ (w : Word). nth_word j (drop w.to a.line.now)) (sym passed.ensures.3),
    )

pub returns : goal.returns
returns c =
    let a = c.args in
    let line = a.line.now in
    let found = c.next_word-found in
    let none : a.k - c.loop.counter ≡ 0 = omega arith in
    sym
    (c.loop.invariant.2
    ∙ ap (λ (n : ℕ). nth_word n (drop c.loop.at line)) none
    ∙ word_here line c.loop.at
    ∙ ap (λ (w : Word). take (w.to - w.from) (drop w.from line)) (sym found.ensures.3))
