-- `rewire::change::change_of` meets its contract: each return by the words that the line has. Assumes nothing.
use mathlib.Core.Path.{◌≡◌, refl, sym, ap, ◌∙◌}
use mathlib.Core.List.{List}
use Prim.Native.Nat.{ℕ}
use lib.ListN.{length, get_or}
use Rattle.std.proofs.lemmas.Bool.{eqb-true, eqb-false}
use Rattle.std.specs.Prelude.{Option, Some, None, Result, Ok, Err, IsErrAnd}
use Rattle.rewire.specs.declared.change.NoChange.{NoChange}
use Rattle.rewire.specs.declared.change.Request.{Request}
use Rattle.decimals.specs.Number.{whole_of}
use Rattle.text.specs.Words.{nth_word}
use Rattle.rewire.specs.Change.{no_change, by_numbers, change_of}
use Rattle.rewire.proofs.Saying.{no_words, long_sign, more_words, three_words}
use Rattle.rewire.proofs.change.change_of.Goals as goal

abbrev source : List ℕ → Option ℕ
source line = whole_of (nth_word 1 line) 65535

abbrev target : List ℕ → Option ℕ
target line = whole_of (nth_word 2 line) 65535

pub returns-then-is_empty : goal.returns-then-is_empty
unfolding change_of
returns-then-is_empty c =
    let line = c.args.line.now in
    let none = eqb-true _ 0 (sym c.is_empty.ensures ∙ c.if-is_empty.true) in
    no_words (source line) (target line) (nth_word 0 line) (nth_word 3 line) (ap length (sym c.nth_word-sign.ensures) ∙ none)

pub returns-then-sign-ne1 : goal.returns-then-sign-ne1
unfolding change_of
returns-then-sign-ne1 c =
    let line = c.args.line.now in
    let sign = c.nth_word-sign in
    let some = eqb-false _ 0 (sym c.is_empty.ensures ∙ c.if-is_empty.false) in
    long_sign (source line) (target line) (nth_word 0 line) (nth_word 3 line) (λ z. some (ap length sign.ensures ∙ z)) (λ z. c.if-sign-ne1.true (ap length sign.ensures ∙ z))

pub returns-then-not-is_empty : goal.returns-then-not-is_empty
unfolding change_of
returns-then-not-is_empty c =
    let line = c.args.line.now in
    let some = eqb-false _ 0 (sym c.is_empty-2.ensures ∙ c.if-not-is_empty.true) in
    more_words (source line) (target line) (nth_word 0 line) (nth_word 3 line) (ap length (sym c.nth_word-sign.ensures) ∙ c.if-sign-ne1.false) (λ z. some (ap length c.nth_word.ensures ∙ z))

-- the line by its sign and the numbers as they were read
numbers : (line sign more : List ℕ) (s t : Option ℕ) → sign ≡ nth_word 0 line → more ≡ nth_word 3 line → s ≡ source line → t ≡ target line → length sign ≡ 1 → length more ≡ 0
    → by_numbers (get_or sign 0 0) s t ≡ change_of line
unfolding change_of
numbers line sign more s t is behind from to one none =
    ap (λ (w : List ℕ). by_numbers (get_or w 0 0) s t) is
    ∙ ap (λ (x : Option ℕ). by_numbers (get_or (nth_word 0 line) 0 0) x t) from
    ∙ ap (λ (x : Option ℕ). by_numbers (get_or (nth_word 0 line) 0 0) (source line) x) to
    ∙ sym (three_words (source line) (target line) (nth_word 0 line) (nth_word 3 line) (ap length (sym is) ∙ one) (ap length (sym behind) ∙ none))

-- a number as it was read
number : (line : List ℕ) (k : ℕ) {w : List ℕ} {o s : Option ℕ} → w ≡ nth_word k line → o ≡ whole_of w 65535 → o ≡ s → s ≡ whole_of (nth_word k line) 65535
number line k e o s = sym s ∙ o ∙ ap (λ (w : List ℕ). whole_of w 65535) e

refused : (r : Result (Option Request) NoChange) (a : NoChange) → IsErrAnd r (λ e. e ≡ a) → r ≡ no_change
refused (Ok x) a h = absurd h
refused (Err e) a h = refl

pub returns-in_err-source : goal.returns-in_err-source
returns-in_err-source c =
    let line = c.args.line.now in
    let none = eqb-true _ 0 (sym c.is_empty-2.ensures ∙ c.if-not-is_empty.false) in
    let from = number line 1 c.nth_word-2.ensures c.whole_of.ensures.1 c.in_err-source.ensures.ok_part in
    refused _ _ c.from_residual.ensures.1
    ∙ numbers line c.nth_word-sign.result.now c.nth_word.result.now None (target line) c.nth_word-sign.ensures c.nth_word.ensures from refl c.if-sign-ne1.false none

pub returns-in_err-target : goal.returns-in_err-target
returns-in_err-target c =
    let line = c.args.line.now in
    let none = eqb-true _ 0 (sym c.is_empty-2.ensures ∙ c.if-not-is_empty.false) in
    let from = number line 1 c.nth_word-2.ensures c.whole_of.ensures.1 c.in_ok-source.ensures.ok_part in
    let to = number line 2 c.nth_word-3.ensures c.whole_of-2.ensures.1 c.in_err-target.ensures.ok_part in
    refused _ _ c.from_residual-in_err-target.ensures.1
    ∙ numbers line c.nth_word-sign.result.now c.nth_word.result.now (Some c.in_ok-source.source) None c.nth_word-sign.ensures c.nth_word.ensures from to c.if-sign-ne1.false none

pub returns : goal.returns
returns c =
    let line = c.args.line.now in
    let none = eqb-true _ 0 (sym c.is_empty-2.ensures ∙ c.if-not-is_empty.false) in
    let from = number line 1 c.nth_word-2.ensures c.whole_of.ensures.1 c.in_ok-source.ensures.ok_part in
    let to = number line 2 c.nth_word-3.ensures c.whole_of-2.ensures.1 c.in_ok-target.ensures.ok_part in
    c.signed.ensures
    ∙ numbers line c.nth_word-sign.result.now c.nth_word.result.now (Some c.in_ok-source.source) (Some c.in_ok-target.target) c.nth_word-sign.ensures c.nth_word.ensures from to c.if-sign-ne1.false none
