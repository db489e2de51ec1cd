-- `leaves::position::position_four` meets its contract: the calls are the definition's parts, lane by lane. Assumes nothing.
use mathlib.Core.Path.{ap, ◌∙◌}
use mathlib.Core.List.{map}
use lib.Ieee.{Float}
use Rattle.std.proofs.lemmas.Simd.{map-map}
use Rattle.values.specs.Floors.{in_samples}
use Rattle.leaves.specs.Position.{top_of, kept, turned, position_of}
use Rattle.leaves.proofs.position.position_four.Goals as goal

pub returns : goal.returns
unfolding position_of
returns c =
    let high = top_of c.args.n in
    c.turn_four.ensures
    ∙ ap (map (turned high)) (c.keep_four.ensures ∙ ap (map (kept high)) c.samples_four.ensures)
    ∙ map-map (turned high) (kept high) (map in_samples c.args.m)
    ∙ map-map (λ (w : Float). turned high (kept high w)) in_samples c.args.m
