-- `rewire::show_changes` is safe: a text has no more lines than bytes, so they can be counted. Assumes nothing.
use mathlib.Core.Path.{refl}
use native.Mathlib.Omega.{arith}
use mathlib.Core.Logic.{inl}
use Rattle.text.proofs.Finding.{lines_few}
use Rattle.rewire.proofs.show_changes.Goals as goal

pub loop-i-init : goal.loop-i-init
loop-i-init g c =
    let lines = c.enumerate-i-items.ensures in
    let few = lines_few c.args.text.now in
    rw (c.into_iter-i-iterator.ensures.into_iter_gives, lines.source, lines.count, c.new.ensures) ((tt, tt, inl (omega (arith, few))), tt, refl, c.requires)
