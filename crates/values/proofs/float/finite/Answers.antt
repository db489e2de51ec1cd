-- `values::float::finite` meets its contract: the pattern tells. Assumes nothing.
use mathlib.Core.Path.{ap, ◌∙◌}
use denote.Floats.{passes}
use Rattle.values.specs.Floats.{finite_bits}
use Rattle.values.proofs.Patterns.{pattern_finite}
use Rattle.values.proofs.float.finite.Goals as goal

pub returns : goal.returns
returns c =
    c.finite_bits.ensures
    ∙ ap finite_bits c.to_bits.ensures
    ∙ pattern_finite c.args.x (passes _ c.well_formed.0.1)
