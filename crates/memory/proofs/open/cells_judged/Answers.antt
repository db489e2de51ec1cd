-- `memory::open::cells_judged` meets its contract. The cells passed fit, so what is left decides. Assumes nothing.
use mathlib.Core.Path.{sym, ap, ◌∙◌}
use Rattle.std.specs.Prelude.{Err}
use Rattle.values.specs.Words.{words}
use Rattle.records.specs.Answer.{checked}
use Rattle.memory.proofs.CallChecks.{cells_next, cells_wrong, cells_end}
use Rattle.memory.proofs.open.cells_judged.Goals as goal

pub cell_fits-requires : goal.cell_fits-requires
cell_fits-requires c = c.requires.1 c.loop-i.i c.loop-i-test.true

pub loop-i-preserved : goal.loop-i-preserved
loop-i-preserved c =
    cells_next (words c.args.memory.now) c.args.nodes.now c.loop-i.i c.loop-i-test.true (sym c.cell_fits.ensures ∙ c.if-not-cell_fits.false) ∙ c.loop-i.invariant

pub returns-then-not-cell_fits : goal.returns-then-not-cell_fits
returns-then-not-cell_fits c =
    let wrong = cells_wrong (words c.args.memory.now) c.args.nodes.now c.loop-i.i c.loop-i-test.true (sym c.cell_fits.ensures ∙ c.if-not-cell_fits.true) in
    ap Err c.new.ensures ∙ ap checked (sym wrong ∙ c.loop-i.invariant)

pub returns : goal.returns
returns c = ap checked (sym (cells_end (words c.args.memory.now) c.args.nodes.now c.loop-i.i c.loop-i-test.false) ∙ c.loop-i.invariant)
