-- `values::float::within` meets its contract. Assumes nothing.
use mathlib.Core.Path.{sym, ap, ◌∙◌}
use mathlib.Core.Bool.{Bool, ◌&&◌}
use lib.Ieee.{le, of_bits}
use Rattle.values.specs.Floors.{within}
use Rattle.values.proofs.float.within.Goals as goal

pub returns-then-x : goal.returns-then-x
unfolding of_bits within
returns-then-x c = sym (ap (λ (b : Bool). b && le c.args.x c.args.most) c.if-x.true)

pub returns-else-x : goal.returns-else-x
unfolding of_bits within
returns-else-x c = c.if-x.false ∙ sym (ap (λ (b : Bool). b && le c.args.x c.args.most) c.if-x.false)
