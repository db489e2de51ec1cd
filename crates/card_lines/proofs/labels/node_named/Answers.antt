-- `card_lines::labels::node_named` meets its contract. The loop's invariant: the node looked for is the one that the lines left give, behind k
-- nodes. Assumes nothing.
use Rattle.std.proofs.Common.{◌≡◌, sym, ap, ◌∙◌, true, false, ℕ, ◌+◌, ◌<◌, length, List, Some, Result, Ok, Err, arith}
use Rattle.std.specs.Prelude.{OkIff}
use Rattle.std.specs.Result.{result_ok}
use borrow.Author.Tests.{lt-ltb, le-ltb}
use Rattle.decimals.specs.Number.{upto}
use Rattle.text.specs.Words.{lines_of}
use Rattle.text.proofs.Finding.{lines_few}
use Rattle.card_lines.specs.Names.{alike}
use Rattle.card_lines.specs.Labels.{bare, label_of, nodes_in, node_named}
use Rattle.card_lines.proofs.Labelling.{label_now, named_here, named_on, named_none}
use Rattle.card_lines.proofs.labels.node_named.Goals as goal

-- a node's number, if it is one
placed : {E : Type 0} (r : Result ℕ E) (k : ℕ) → OkIff r (k < 65536) k → result_ok r ≡ upto 65535 (Some k)
placed (Ok x) k m = rw (le-ltb 65535 k (omega (arith, m.0))) (ap Some m.1)
placed (Err e) k m = rw (lt-ltb 65535 k (omega (arith, m)))

pub overflow_add-k : goal.overflow_add-k
overflow_add-k c =
    let steps = c.in-Some.ensures.steps in
    omega (arith, ap (λ (ls : List (List ℕ)). length ls) steps, c.nodes_in-k.ensures.0, c.loop-line.invariant.0, lines_few c.args.text.now)

pub returns-then-eq : goal.returns-then-eq
returns-then-eq c =
    let name = c.args.name.now in
    let k = c.loop-line.k in
    let line = c.in-Some.line.now in
    let is : c.unwrap_or_default.result.now ≡ label_of (bare line) =
    label_now _ c.label_of.result c.unwrap_or_default.result _ c.label_of.ensures c.unwrap_or_default.ensures ∙ ap label_of c.bare-line.ensures in
    let same : alike (label_of (bare line)) name ≡ true = ap (λ (l : List ℕ). alike l name) (sym is) ∙ sym c.eq.ensures ∙ c.if-eq.true in
    c.ok.ensures.value
    ∙ placed c.try_from.result k c.try_from.ensures
    ∙ ap (upto 65535) (named_here name k line _ same ∙ ap (node_named name k) (sym c.in-Some.ensures.steps) ∙ c.loop-line.invariant.1)

pub loop-line-preserved : goal.loop-line-preserved
loop-line-preserved c =
    let name = c.args.name.now in
    let k = c.loop-line.k in
    let line = c.in-Some.line.now in
    let steps = c.in-Some.ensures.steps in
    let is : c.unwrap_or_default.result.now ≡ label_of (bare line) =
    label_now _ c.label_of.result c.unwrap_or_default.result _ c.label_of.ensures c.unwrap_or_default.ensures ∙ ap label_of c.bare-line.ensures in
    let other : alike (label_of (bare line)) name ≡ false = ap (λ (l : List ℕ). alike l name) (sym is) ∙ sym c.eq.ensures ∙ c.if-eq.false in
    let nodes : c.nodes_in-k.result ≡ nodes_in (bare line) = cc in (
      omega (arith, ap (λ (ls : List (List ℕ)). length ls) steps, c.nodes_in-k.ensures.0, c.loop-line.invariant.0),
      ap (λ (n : ℕ). node_named name (k + n) (lines_of c.next.new.self.rest.now)) nodes ∙ named_on name k line _ other ∙ ap (node_named name k) (sym steps) ∙ c.loop-line.invariant.1,
    )

pub returns : goal.returns
returns c =
    ap (upto 65535) (named_none c.args.name.now c.loop-line.k _ c.in-None.ensures.steps.0 ∙ c.loop-line.invariant.1)
