-- `card_lines::line::labelled_line` meets its contract: a good name, a node behind it, and no node before with that name. Assumes nothing.
use Rattle.std.proofs.Common.{◌≡◌, sym, ap, ◌∙◌, ℕ, Bool, List, Option, true, false}
use Rattle.std.specs.Prelude.{unwrap_or}
use borrow.Author.Tests.{eq-eqb, ne_eqb}
use Rattle.text.specs.Words.{lines_of, nth_word}
use Rattle.card_lines.specs.Names.{named}
use Rattle.card_lines.specs.Labels.{node_of}
use Rattle.card_lines.specs.Line.{is_other, labelled_line}
use Rattle.card_lines.proofs.line.labelled_line.Goals as goal

-- the test of what follows the name, as the definition has it
other : (r b : Bool) (word body : List ℕ) → r ≡ is_other word (named word) → word ≡ nth_word 0 body → r ≡ b
    → is_other (nth_word 0 body) (named (nth_word 0 body)) ≡ b
other r b word body e w t = ap (λ (x : List ℕ). is_other x (named x)) (sym w) ∙ sym e ∙ t

pub returns-then-not-good_name : goal.returns-then-not-good_name
unfolding labelled_line
returns-then-not-good_name c = rw (sym c.good_name.ensures ∙ c.if-not-good_name.true)

pub returns-then-is_other : goal.returns-then-is_other
unfolding labelled_line
returns-then-is_other c =
    rw (sym c.good_name.ensures ∙ c.if-not-good_name.false, other _ true _ c.args.body.now c.is_other.ensures c.nth_word.ensures c.if-is_other.true)

pub returns-then-from-nodes : goal.returns-then-from-nodes
unfolding labelled_line
returns-then-from-nodes c =
    let first = c.from.ensures ∙ c.unwrap_or-first.ensures ∙ ap (λ (n : Option ℕ). unwrap_or n 0) c.node_named.ensures in
    rw (
      sym c.good_name.ensures ∙ c.if-not-good_name.false,
      other _ false _ c.args.body.now c.is_other.ensures c.nth_word.ensures c.if-is_other.false,
      ne_eqb (unwrap_or (node_of (lines_of c.args.text.now) c.args.name.now) 0) c.args.nodes (λ e. c.if-from-nodes.true (first ∙ e)),
    )

pub returns : goal.returns
unfolding labelled_line
returns c =
    let first = c.from.ensures ∙ c.unwrap_or-first.ensures ∙ ap (λ (n : Option ℕ). unwrap_or n 0) c.node_named.ensures in
    rw (
      sym c.good_name.ensures ∙ c.if-not-good_name.false,
      other _ false _ c.args.body.now c.is_other.ensures c.nth_word.ensures c.if-is_other.false,
      eq-eqb (unwrap_or (node_of (lines_of c.args.text.now) c.args.name.now) 0) c.args.nodes (sym first ∙ c.if-from-nodes.false),
    )
    c.plain_line.ensures
