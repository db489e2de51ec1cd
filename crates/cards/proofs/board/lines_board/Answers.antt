-- `cards::board::lines_board` meets its contract. The loop's invariant: what is written for the lines so far, after which the other lines say
-- what the card says. Assumes nothing.
use mathlib.Core.Path.{◌≡◌, refl, sym, ap, subst, ◌∙◌}
use Prim.Native.Nat.{ℕ, ◌≤◌, ◌+◌}
use native.Mathlib.Omega.{arith}
use borrow.Author.Rules.{rules}
use mathlib.Core.List.{List}
use mathlib.Core.Logic.{inl}
use Rattle.std.specs.Prelude.{Err}
use Rattle.cards.specs.declared.board.Wrong.TheVariants.{Bad}
use lib.ListN.{length}
use Rattle.text.specs.Words.{lines_of}
use Rattle.decimals.proofs.Question.{mapped_on, mapped_back}
use Rattle.text.proofs.Finding.{lines_few}
use Rattle.card_lines.specs.Line.{said_of}
use Rattle.cards.specs.Adding.{Stepped}
use Rattle.cards.specs.Board.{written}
use Rattle.cards.proofs.Making.{Partly, adds-line, partly_start, partly_on, partly_bad, partly_answer, partly_bytes}
use Rattle.cards.proofs.board.lines_board.Goals as goal

pub loop-i-init : goal.loop-i-init
loop-i-init c =
    let a = c.args in
    let text = a.text.now in
    let zero : c.into_iter-i-iterator.result.count ≡ 0 = cc in
    let all : lines_of c.into_iter-i-iterator.result.iter.rest.now ≡ lines_of text = cc in
    let size = ap (λ (ls : List (List ℕ)). length ls) all in (
      (tt, tt, inl (omega (arith, zero, size, lines_few text))),
      tt,
      omega (arith, zero, size),
      refl,
      record { few_nodes = omega arith; few_wires = omega arith; sum = omega arith },
      subst (λ (n : ℕ). Partly text a.out.now a.out.now (written 0 0 0) n (lines_of c.into_iter-i-iterator.result.iter.rest.now)) (sym zero) (partly_start text a.out.now _ all),
    )

pub loop-i-preserved : goal.loop-i-preserved
loop-i-preserved c =
    let at = c.loop-i in
    let steps = c.in-Some.ensures.steps in
    let text = c.args.text.now in
    let added = adds-line (said_of (lines_of text) at.done.nodes c.in-Some.line.now) _ (sym c.said.ensures) c.add_line.ensures in
    let ok = mapped_on _ (Bad (c.in-Some.i + 1)) (λ e d k. search rules) c.add_line.result c.map_err.result c.map_err.ensures.cases c.in_ok-done.was in
    let on = partly_on at.invariant.5 c.in-Some.line.now _ steps.0 added _ ok in
    let size = ap (λ (ls : List (List ℕ)). length ls) steps.0 in (
      (tt, tt, inl (omega (arith, size, steps.2, at.invariant.2, lines_few text))),
      tt,
      omega (arith, size, steps.2, at.invariant.2),
      search rules,
      subst Stepped ok added.room,
      subst (λ (n : ℕ). Partly text c.args.out.now c.add_line.new.out c.in_ok-done.done n (lines_of c.next.new.self.iter.rest.now)) (sym steps.2) on,
    )

pub returns-in_err-done-clause-answered : goal.returns-in_err-done-clause-answered
returns-in_err-done-clause-answered c =
    let at = c.loop-i in
    let steps = c.in-Some.ensures.steps in
    let text = c.args.text.now in
    let added = adds-line (said_of (lines_of text) at.done.nodes c.in-Some.line.now) _ (sym c.said.ensures) c.add_line.ensures in
    let err = mapped_back _ (Bad (c.in-Some.i + 1)) (λ e d k. search rules) c.add_line.result c.map_err.result c.map_err.ensures.cases c.from_residual.result c.in_err-done.was c.from_residual.ensures in
    let bad = partly_bad at.invariant.5 c.in-Some.line.now _ steps.0 added _ err.1 in
    err.2 ∙ ap (λ (i : ℕ). Err (Bad (i + 1) err.0)) steps.1 ∙ bad.0

pub returns-in_err-done-clause-bytes : goal.returns-in_err-done-clause-bytes
returns-in_err-done-clause-bytes c =
    let at = c.loop-i in
    let steps = c.in-Some.ensures.steps in
    let text = c.args.text.now in
    let added = adds-line (said_of (lines_of text) at.done.nodes c.in-Some.line.now) _ (sym c.said.ensures) c.add_line.ensures in
    let err = mapped_back _ (Bad (c.in-Some.i + 1)) (λ e d k. search rules) c.add_line.result c.map_err.result c.map_err.ensures.cases c.from_residual.result c.in_err-done.was c.from_residual.ensures in
    let bad = partly_bad at.invariant.5 c.in-Some.line.now _ steps.0 added _ err.1 in
    bad.1

pub returns : goal.returns
returns c =
    let at = c.loop-i in
    let judged = c.finished.ensures in
    let past = c.in-None.ensures.steps in
    let fits : at.done.at ≤ length c.args.out.now = omega (arith, at.invariant.4.few_nodes, at.invariant.4.few_wires, at.invariant.4.sum) in
    record {
      within = judged.within;
      answered = judged.answered ∙ partly_answer at.invariant.5 past.0.0 fits judged.bytes;
      bytes = partly_bytes at.invariant.5 past.0.0 fits judged.bytes;
    }
