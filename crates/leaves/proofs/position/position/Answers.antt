-- `leaves::position::position` meets its contract: the calls are the definition's parts. Assumes nothing.
use mathlib.Core.Path.{ap, ◌∙◌}
use native.Mathlib.Omega.{arith}
use lib.Ieee.{Float, of_bits}
use Rattle.leaves.specs.Position.{top_of, turned, position_of}
use Rattle.leaves.proofs.Place.{top_not_below}
use Rattle.leaves.proofs.position.position.Goals as goal

pub keep-requires : goal.keep-requires
keep-requires c = top_not_below c.args.n (omega arith)

pub returns : goal.returns
unfolding of_bits position_of
returns c = c.turn.ensures ∙ ap (λ (w : Float). turned (top_of c.args.n) w) c.keep.ensures
