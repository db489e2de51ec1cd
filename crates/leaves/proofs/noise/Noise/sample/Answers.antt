-- `leaves::noise::Noise::sample` meets its contract: the difference is exact, and over 2^23 it loses nothing. Assumes nothing.
use mathlib.Core.Path.{ap, ◌∙◌}
use Prim.Native.Nat.{◌/◌, ◌^◌}
use native.Mathlib.Omega.{arith}
use lib.IntN.{ℤ, pos, ◌-ℤ◌}
use lib.Ieee.{binary32, of_int, of_bits, div}
use Rattle.values.specs.Floors.{whole}
use Rattle.leaves.specs.Noise.{sample_of}
use Rattle.leaves.proofs.Quotient.{difference_small, over-is}
use Rattle.leaves.proofs.Signs.{difference_is}
use Rattle.leaves.proofs.noise.Noise.sample.Goals as goal

pub returns : goal.returns
unfolding of_bits sample_of
returns c =
    let upper = c.self.inside.state / 2 ^ 8 in
    ap (λ (z : ℤ). div binary32 (of_int binary32 z) (whole 1 23)) (difference_is upper (2 ^ 23) (omega arith))
    ∙ over-is (pos upper -ℤ pos (2 ^ 23)) (difference_small upper (2 ^ 23) (omega arith))
    ∙ ap sample_of c.self.view_is
