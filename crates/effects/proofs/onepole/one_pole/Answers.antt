-- `effects::onepole::one_pole` meets its contract: each turn of the loop is one step of the pole, and its last output is the carry. Assumes nothing.
use borrow.Author.Rules.{rules}
use mathlib.Core.Path.{◌≡◌, refl, ◌∙◌}
use native.Mathlib.Omega.{arith}
use lib.ListN.{length}
use Rattle.values.specs.Words.{words, length-words}
use Rattle.kinds.specs.Kind.{cell_size}
use Rattle.effects.specs.Block.{alone}
use Rattle.kinds.specs.declared.kind.NodeKind.TheVariants as kinds
use Rattle.kinds.proofs.Carried.{carrying_end}
use Rattle.effects.proofs.Poles.{runs_none, runs_more}
use Rattle.effects.proofs.onepole.one_pole.Goals as goal

pub loop-i-init : goal.loop-i-init
loop-i-init c =
    let given = c.args in
    let ws = words given.cell.now in
    (refl, runs_none given.b (length given.x.now) given.x.now ws (omega (arith, length-words given.cell.now)) _ c.new-pole.result c.load.ensures c.new-pole.ensures)

pub loop-i-preserved : goal.loop-i-preserved
loop-i-preserved c =
    let given = c.args in
    let ws = words given.cell.now in
    let long : length ws ≡ cell_size (length given.x.now) (kinds.OnePole given.b) = omega (arith, length-words given.cell.now) in (
      search rules,
      runs_more given.b (length given.x.now) given.x.now ws long c.loop-i.i (words c.loop-i.cell) (words c.store.new.mem)
          c.loop-i.pole c.step-pole.result (search rules)
          c.step-pole.ensures c.store.ensures c.loop-i.invariant.1,
    )

pub returns : goal.returns
returns c =
    let given = c.args in
    c.store-2.ensures
    ∙ carrying_end (kinds.OnePole given.b) (length given.x.now) (alone given.x.now) (words given.cell.now) c.loop-i.i (words c.loop-i.cell) c.loop-i.pole.y1
    (omega arith) (omega arith) c.loop-i.invariant.1.1
