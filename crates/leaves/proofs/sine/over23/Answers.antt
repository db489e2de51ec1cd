-- `leaves::sine::over23` meets its contract: the sine's whole number is small enough to be a float, and a quotient by 2^23 loses nothing. Assumes nothing.
use mathlib.Core.Path.{◌≡◌, sym, ap, subst, ◌∙◌}
use lib.Dec.{T}
use lib.IntN.{ℤ}
use lib.Ieee.{binary32, in_float, of_int, of_bits, div}
use mir.Syntax.{w32}
use mir.Val.{to_z, of_z}
use mir.ValLaws.{to_z-of_z}
use Rattle.values.specs.Floors.{whole}
use Rattle.leaves.proofs.Quotient.{sine_small, over-is}
use Rattle.leaves.proofs.sine.over23.Goals as goal

-- what the machine reads back from the number's bits is the number
read_back : (c : goal.After-row_known-1) → to_z w32 (of_z w32 c.args.v) ≡ c.args.v
read_back c = to_z-of_z w32 c.args.v c.ranges.v

pub int_to_float-result : goal.int_to_float-result
int_to_float-result c = subst (λ (z : ℤ). T (in_float binary32 z)) (sym (read_back c ∙ c.requires.1)) (sine_small _)

pub returns : goal.returns
unfolding of_bits
returns c =
    ap (λ (z : ℤ). div binary32 (of_int binary32 z) (whole 1 23)) (read_back c)
    ∙ over-is c.args.v (subst (λ (z : ℤ). T (in_float binary32 z)) (sym c.requires.1) (sine_small c.requires.0))
