-- `leaves::sine::quarter` meets its contract: t is at most 2^22, and the height is below 2^25. Assumes nothing.
use native.Mathlib.Omega.{arith}
use Rattle.leaves.specs.Sine.{quarter_of}
use Rattle.leaves.proofs.Rule.{product_le}
use Rattle.leaves.proofs.sine.quarter.Goals as goal

pub returns : goal.returns
unfolding quarter_of
returns c =
    let small = product_le c.args.t c.height-h.result c.requires c.height-h.ensures.1 in
    (cc, omega (arith, c.product-2.ensures, small))
