-- `values::float::to_bits` meets its contract. Assumes nothing.
use mathlib.Core.Path.{◌≡◌, refl, sym, ap, ◌∙◌}
use mathlib.Core.Bool.{true}
use lib.Ieee.{Float, nan, inf, fin, binary32, is_nan, to_bits}
use Rattle.values.proofs.float.to_bits.Goals as goal

only_nan : (x : Float) → is_nan x ≡ true → x ≡ nan
unfolding is_nan
only_nan nan e = refl
only_nan (inf s) e = absurd (cc)
only_nan (fin s m k) e = absurd (cc)

pub returns-then-is_nan : goal.returns-then-is_nan
unfolding to_bits
returns-then-is_nan c = sym (ap (to_bits binary32) (only_nan c.args.x (sym c.is_nan.ensures.value ∙ c.if-is_nan.true)))
