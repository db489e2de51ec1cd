-- `running::run::starts_judged` meets its contract. The cells passed fit, and the nodes passed have their starts. Assumes nothing.
use mathlib.Core.Path.{◌≡◌, refl, sym, ap, ◌∙◌}
use native.Mathlib.Omega.{arith}
use Rattle.std.proofs.Common.{rules}
use lib.ListN.{length}
use Rattle.std.specs.Prelude.{Err}
use Rattle.values.specs.Words.{words}
use Rattle.records.specs.Answer.{checked}
use Rattle.running.specs.Run.{left_start, right_start}
use Rattle.memory.proofs.CallChecks.{cells_next, cells_wrong, cells_end}
use Rattle.running.proofs.CallStarts.{starts_none, starts_more}
use Rattle.running.proofs.run.starts_judged.Goals as goal

pub loop-i-init : goal.loop-i-init
loop-i-init c = (starts_none _ _ _ (search rules), starts_none _ _ _ (search rules), refl)

pub loop-i-preserved : goal.loop-i-preserved
loop-i-preserved c =
    let at = c.loop-i in (
      starts_more left_start c.args.nodes.now at.i at.starts.lefts (omega (arith, c.requires.0)) c.loop-i-test.true at.invariant.0,
      rw c.from.ensures (starts_more (right_start c.args.size) c.args.nodes.now at.i at.starts.rights (omega (arith, c.requires.0)) c.loop-i-test.true at.invariant.1),
      cells_next (words c.args.memory.now) c.args.nodes.now at.i c.loop-i-test.true (sym c.cell_fits.ensures ∙ c.if-not-cell_fits.false) ∙ at.invariant.2,
    )

pub returns-then-not-cell_fits-clause-answered : goal.returns-then-not-cell_fits-clause-answered
returns-then-not-cell_fits-clause-answered c =
    let wrong = cells_wrong (words c.args.memory.now) c.args.nodes.now c.loop-i.i c.loop-i-test.true (sym c.cell_fits.ensures ∙ c.if-not-cell_fits.true) in
    ap Err c.new.ensures ∙ ap checked (sym wrong ∙ c.loop-i.invariant.2)

pub returns : goal.returns
returns c =
    let at = c.loop-i in
    let all : at.i ≡ length c.args.nodes.now = omega (arith, c.loop-i-test.false, c.loop-i.auto.i-end) in
    record {
      answered = ap checked (sym (cells_end (words c.args.memory.now) c.args.nodes.now at.i c.loop-i-test.false) ∙ at.invariant.2);
      started = record { lefts = rw all at at.invariant.0; rights = rw all at at.invariant.1 };
    }
