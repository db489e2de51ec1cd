-- `boards::judge::check_six` meets its contract: each arm knows the test that the definition makes there. Assumes nothing.
use Prim.Native.Nat.{ℕ, ◌≤◌, ◌<◌}
use mathlib.Core.Path.{◌≡◌, refl, sym, ap, ◌∙◌}
use mathlib.Core.Bool.{true}
use mathlib.Core.List.{List}
use native.Mathlib.Omega.{arith}
use lib.ListN.{length, get_or, take}
use Rattle.kinds.specs.declared.kind.Bounds.{Bounds as NodeBounds}
use Rattle.kinds.specs.declared.kind.NodeRecord.{NodeRecord}
use Rattle.boards.specs.Board.{Parsed, refused}
use Rattle.boards.specs.Judge.{pass_at, check_sources, check_six}
use Rattle.boards.specs.BoardParts.{Counts}
use Rattle.boards.proofs.Answers.{refused_by, decides_as}
use Rattle.boards.proofs.Six.{counted, pass_below, six_none, six_no_pass, six_entered, six_open, check_all}
use Rattle.boards.proofs.judge.check_six.Goals as goal

-- a board as the contract speaks of it
module _ (p : Parsed) (ns : List NodeRecord) (count : ℕ) (long : (count ≤ 64) × (length ns ≡ 64)) (n : p.nodes ≡ take count ns) where
  total : length p.nodes ≡ count
  total = ap length n ∙ counted ns count (omega (arith, long.0, long.1))

  nodes_left : (count ≡ 0 → ⊥) → length p.nodes ≡ 0 → ⊥
  nodes_left some e = some (sym total ∙ e)

  module _ (input : ℕ) (i : p.input ≡ input) (bounds : List NodeBounds) (counts : List ℕ) (h : Counts p bounds counts) (some : count ≡ 0 → ⊥)
      (pass : pass_at (take count ns) input ≡ true) where
    passes : pass_at p.nodes p.input ≡ true
    passes = rw (n, i) pass

    below : p.input < length p.nodes
    below = rw (i, total) (pass_below ns count (omega (arith, long.0, long.1)) input true (sym pass) refl)

    entered : (get_or counts input 0 ≡ 0 → ⊥) → check_six p ≡ refused 6 input
    entered e = six_entered p (nodes_left some) passes counts (h.counted p.input below) (rw i e) ∙ ap (refused 6) i

    open_in : get_or counts input 0 ≡ 0 → check_six p ≡ check_sources p 0 p.nodes
    open_in e = six_open p (nodes_left some) passes counts (h.counted p.input below) (rw i e)

pub bounds-counts-input : goal.bounds-counts-input
bounds-counts-input c =
    let nodes = c.args.nodes.now in
    let below = pass_below nodes.nodes nodes.count (omega (arith, nodes.few, nodes.long)) c.args.input _ c.pass_at.ensures c.if-not-pass_at.false in
    omega (arith, below, nodes.few)

pub returns-then-nodes-eq0 : goal.returns-then-nodes-eq0
returns-then-nodes-eq0 c = λ p n i h.
    let nodes = c.args.nodes.now in
    refused_by c.new.ensures (omega arith) (six_none p (total p nodes.nodes nodes.count (nodes.few, nodes.long) n ∙ c.if-nodes-eq0.true))

pub returns-then-not-pass_at : goal.returns-then-not-pass_at
returns-then-not-pass_at c = λ p n i h.
    let nodes = c.args.nodes.now in
    let some = nodes_left p nodes.nodes nodes.count (nodes.few, nodes.long) n c.if-nodes-eq0.false in
    let none = sym c.pass_at.ensures ∙ c.if-not-pass_at.true in
    refused_by c.new-then-not-pass_at.ensures (omega arith) (six_no_pass p some (rw (n, i) none) ∙ ap (refused 6) i)

pub returns-then-counts-input-ne0 : goal.returns-then-counts-input-ne0
returns-then-counts-input-ne0 c = λ p n i h.
    let nodes = c.args.nodes.now in
    let pass = sym c.pass_at.ensures ∙ c.if-not-pass_at.false in
    refused_by c.new-then-counts-input-ne0.ensures (omega arith)
    (entered p nodes.nodes nodes.count (nodes.few, nodes.long) n _ i _ _ h c.if-nodes-eq0.false pass c.if-counts-input-ne0.true)

pub returns-then-all_fit : goal.returns-then-all_fit
returns-then-all_fit c = λ p n i h.
    let nodes = c.args.nodes.now in
    let pass = sym c.pass_at.ensures ∙ c.if-not-pass_at.false in
    open_in p nodes.nodes nodes.count (nodes.few, nodes.long) n _ i _ _ h c.if-nodes-eq0.false pass c.if-counts-input-ne0.false
    ∙ check_all p _ _ h _ (total p nodes.nodes nodes.count (nodes.few, nodes.long) n) nodes.wide (omega arith) nodes.few (sym c.all_fit.ensures ∙ c.if-all_fit.true)

pub returns-else-all_fit : goal.returns-else-all_fit
returns-else-all_fit c = λ p n i h.
    let nodes = c.args.nodes.now in
    let pass = sym c.pass_at.ensures ∙ c.if-not-pass_at.false in
    let same = open_in p nodes.nodes nodes.count (nodes.few, nodes.long) n _ i _ _ h c.if-nodes-eq0.false pass c.if-counts-input-ne0.false in
    decides_as p c.sources_judged.result (sym same)
    (c.sources_judged.ensures p (total p nodes.nodes nodes.count (nodes.few, nodes.long) n) h)
