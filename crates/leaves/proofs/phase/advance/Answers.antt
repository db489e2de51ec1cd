-- `leaves::phase::advance` meets its contract, by the two cases of its test. Assumes nothing.
use mathlib.Core.Path.{◌≡◌}
use mathlib.Core.Bool.{true, false}
use lib.Ieee.{binary32, add, lt, of_bits}
use Rattle.values.specs.Floors.{f1}
use Rattle.leaves.specs.Phase.{advance}
use Rattle.leaves.proofs.phase.advance.Goals as goal

pub returns-then-next : goal.returns-then-next
unfolding advance of_bits
returns-then-next c = let e : lt f1 (add binary32 c.args.phase c.args.by) ≡ true = c.if-next.true in rw e

pub returns-else-next : goal.returns-else-next
unfolding advance of_bits
returns-else-next c = let e : lt f1 (add binary32 c.args.phase c.args.by) ≡ false = c.if-next.false in rw e
