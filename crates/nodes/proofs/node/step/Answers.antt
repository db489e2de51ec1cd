-- `nodes::node::step` meets its contract: the part that is lent is the node's cell, and comes back as its run. Assumes nothing.
use mathlib.Core.Path.{◌≡◌, sym, ap, subst, ◌∙◌}
use mathlib.Core.Bool.{true}
use mathlib.Core.List.{List}
use lib.ListN.{length, take, drop}
use lib.Ieee.{Float}
use Rattle.kinds.specs.Rule.{Brought}
use Rattle.nodes.specs.Ready.{Supplies, CellReady}
use Rattle.kinds.specs.declared.kind.NodeKind.{NodeKind}
use Prim.Native.Nat.{ℕ, ◌+◌, ◌-◌, ◌*◌}
use native.Mathlib.Omega.{arith}
use Rattle.values.specs.Words.{words}
use Rattle.values.specs.Parts.{words-part, lent_long, lent_run}
use Rattle.kinds.specs.Kind.{cell_size}
use Rattle.kinds.specs.Cell.{cell_fits, run_values}
use Rattle.kinds.specs.Node.{brought_at, node_run}
use Rattle.nodes.proofs.node.step.Goals as goal

pub run_cell-requires : goal.run_cell-requires
run_cell-requires c =
    let ready = c.requires.ready in
    let m = c.args.memory.now in
    let N = length c.args.x.now in
    let k = cell_size N c.args.node.kind in
    let at = c.args.node.cell in
    let r = 4 * at + 4 * c.cell_size.result - 4 * at in
    let e : r ≡ 4 * k = omega arith in (
      subst (λ (n : ℕ). CellReady (take r (drop (4 * at) m)) c.args.node.kind n (length c.args.sources.list.now)) (sym c.bring.auto.x)
          (record {
            above = ready.above;
            small = ready.small;
            line = ready.line;
            whole = lent_long m at k r e ready.inside;
            judged = subst (λ (ws : List ℕ). cell_fits c.args.node.kind ws ≡ true) (sym (words-part m at k r e)) ready.judged;
            counted = ready.counted;
          }),
      omega arith,
    )

-- a block run of as many samples
module _ (k : NodeKind) (n : ℕ) (x m : List Float) (bs : ℕ → Brought) (ws vs : List ℕ) where
  run_as_long : (N M : ℕ) → N ≡ M → Supplies k n M x m bs → (Supplies k n N x m bs → vs ≡ run_values k N bs ws) → vs ≡ run_values k M bs ws
  run_as_long N M e supply run = run (subst (λ (j : ℕ). Supplies k n j x m bs) (sym e) supply) ∙ ap (λ (j : ℕ). run_values k j bs ws) e

pub returns : goal.returns
unfolding node_run
returns c =
    let a = c.args in
    let at = a.node.cell in
    let brings = brought_at (words a.memory.now) a.starts.now.lefts a.starts.now.rights a.sources.list.now a.sources.second in
    let r = 4 * at + 4 * c.cell_size.result - 4 * at in
    lent_run (run_values a.node.kind (length a.x.now) brings) a.memory.now c.run_cell.new.cell at (cell_size (length a.x.now) a.node.kind) r (omega arith) c.requires.ready.inside
    c.run_cell.auto.cell
    (run_as_long a.node.kind (length a.sources.list.now) c.bring.new.x c.bring.new.m brings (words (take r (drop (4 * at) a.memory.now))) (words c.run_cell.new.cell) _ _ c.bring.auto.x
    c.bring.ensures (c.run_cell.ensures brings))
