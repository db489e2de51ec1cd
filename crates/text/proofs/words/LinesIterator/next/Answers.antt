-- `text::words::Lines::next` meets its contract: the first line, and those behind it. Assumes nothing.
use Rattle.std.proofs.Common.{rules, ◌≡◌, ℕ, ◌-◌, ◌<◌, length, List, ◌∷◌}
use native.Mathlib.Omega.{arith}
use mathlib.Core.Path.{sym, ap, ◌∙◌}
use lib.ListN.{take, drop, length-drop}
use Rattle.std.proofs.lemmas.Bool.{eqb-true, eqb-false}
use Rattle.std.proofs.lemmas.List.{take_all}
use Rattle.text.specs.Words.{is_byte, lines_of}
use Rattle.text.proofs.Finding.{line_here, no_line}
use Rattle.text.proofs.words.LinesIterator.next.Goals as goal

pub returns-then-is_empty-clause-steps : goal.returns-then-is_empty-clause-steps
returns-then-is_empty-clause-steps c =
    let empty = eqb-true _ 0 (sym c.is_empty.ensures ∙ c.if-is_empty.true) in
    let none = no_line c.args.self.now.rest.now 0 (omega (arith, empty)) in
    (none, none)

pub returns-clause-steps : goal.returns-clause-steps
returns-clause-steps c =
    let s = c.args.self.now.rest.now in
    let end = c.find-end.result in
    let next = c.min-next.result in
    let full = eqb-false (length s) 0 (sym c.is_empty.ensures ∙ c.if-is_empty.false) in
    let whole : end - 0 ≡ end = omega arith in
    line_here s 0 end next (omega (arith, full)) (c.find-end.ensures.first (is_byte 10) (λ b r k. search rules)) c.min-next.ensures
    ∙ ap (λ (n : ℕ). take n s ∷ lines_of (drop next s)) whole
    ∙ ap (λ (l : List ℕ). take end s ∷ lines_of l) (sym (take_all (length s - next) (drop next s) (omega (arith, length-drop next s))))

pub returns-clause-goes : goal.returns-clause-goes
returns-clause-goes c =
    let s = c.args.self.now.rest.now in
    let next = c.min-next.result in
    let fewer = ap (λ (l : List (List ℕ)). length l) (returns-clause-steps c) in
    let less : length (lines_of (take (length s - next) (drop next s))) < length (lines_of s) = omega (arith, fewer) in
    search (rules, less)
