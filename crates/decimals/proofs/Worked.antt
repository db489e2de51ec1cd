-- Words that antt reads by computing the definitions, under one statement. Assumes nothing.
use mathlib.Core.Path.{◌≡◌, refl}
use mathlib.Core.List.{[], ◌∷◌}
use lib.Ieee.{neg, round, to_bits}
use Rattle.std.specs.Prelude.{Ok, Err}
use Rattle.decimals.specs.declared.number.FloatError.TheVariants.{Bad, Long}
use Rattle.decimals.specs.Decimal.{nearest_to}
use Rattle.decimals.specs.Number.{digit_of, digits_from, read_from, whole_of, hex_from, bits_of, digits_of, number_from, all_of, power_of, scaled, decimal, float_of}

pub record Worked : Type 0 where
  -- 0.1
  pub tenth : float_of (48 ∷ 46 ∷ 49 ∷ []) ≡ Ok 1036831949
  -- 0.70710678
  pub root_half : float_of (48 ∷ 46 ∷ 55 ∷ 48 ∷ 55 ∷ 49 ∷ 48 ∷ 54 ∷ 55 ∷ 56 ∷ []) ≡ Ok 1060439283
  -- 1e-45
  pub least : float_of (49 ∷ 101 ∷ 45 ∷ 52 ∷ 53 ∷ []) ≡ Ok 1
  -- .7e-45
  pub under_least : float_of (46 ∷ 55 ∷ 101 ∷ 45 ∷ 52 ∷ 53 ∷ []) ≡ Ok 0
  -- 3.4028235E+38
  pub largest : float_of (51 ∷ 46 ∷ 52 ∷ 48 ∷ 50 ∷ 56 ∷ 50 ∷ 51 ∷ 53 ∷ 69 ∷ 43 ∷ 51 ∷ 56 ∷ []) ≡ Ok 2139095039
  -- 3.4028236e38
  pub infinite : float_of (51 ∷ 46 ∷ 52 ∷ 48 ∷ 50 ∷ 56 ∷ 50 ∷ 51 ∷ 54 ∷ 101 ∷ 51 ∷ 56 ∷ []) ≡ Ok 2139095040
  -- 16777217
  pub tie_down : float_of (49 ∷ 54 ∷ 55 ∷ 55 ∷ 55 ∷ 50 ∷ 49 ∷ 55 ∷ []) ≡ Ok 1266679808
  -- +16777219.
  pub tie_up : float_of (43 ∷ 49 ∷ 54 ∷ 55 ∷ 55 ∷ 55 ∷ 50 ∷ 49 ∷ 57 ∷ 46 ∷ []) ≡ Ok 1266679810
  -- -0.0
  pub minus_zero : float_of (45 ∷ 48 ∷ 46 ∷ 48 ∷ []) ≡ Ok 2147483648
  -- X3F00000a
  pub capital_bits : float_of (88 ∷ 51 ∷ 70 ∷ 48 ∷ 48 ∷ 48 ∷ 48 ∷ 48 ∷ 97 ∷ []) ≡ Ok 1056964618
  -- 0000000000000000000000000000000000000001e060
  pub most_digits : float_of (48 ∷ 48 ∷ 48 ∷ 48 ∷ 48 ∷ 48 ∷ 48 ∷ 48 ∷ 48 ∷ 48 ∷ 48 ∷ 48 ∷ 48 ∷ 48 ∷ 48 ∷ 48 ∷ 48 ∷ 48 ∷ 48 ∷ 48 ∷ 48 ∷ 48 ∷ 48 ∷ 48 ∷ 48 ∷ 48 ∷ 48 ∷ 48 ∷ 48 ∷ 48 ∷ 48 ∷ 48 ∷ 48 ∷ 48 ∷ 48 ∷ 48 ∷ 48 ∷ 48 ∷ 48 ∷ 49 ∷ 101 ∷ 48 ∷ 54 ∷ 48 ∷ []) ≡ Ok 2139095040
  -- 00000000000000000000000000000000000000001
  pub too_many_digits : float_of (48 ∷ 48 ∷ 48 ∷ 48 ∷ 48 ∷ 48 ∷ 48 ∷ 48 ∷ 48 ∷ 48 ∷ 48 ∷ 48 ∷ 48 ∷ 48 ∷ 48 ∷ 48 ∷ 48 ∷ 48 ∷ 48 ∷ 48 ∷ 48 ∷ 48 ∷ 48 ∷ 48 ∷ 48 ∷ 48 ∷ 48 ∷ 48 ∷ 48 ∷ 48 ∷ 48 ∷ 48 ∷ 48 ∷ 48 ∷ 48 ∷ 48 ∷ 48 ∷ 48 ∷ 48 ∷ 48 ∷ 49 ∷ []) ≡ Err Long
  -- 1e61
  pub large_exponent : float_of (49 ∷ 101 ∷ 54 ∷ 49 ∷ []) ≡ Err Long
  -- 1e-61
  pub small_exponent : float_of (49 ∷ 101 ∷ 45 ∷ 54 ∷ 49 ∷ []) ≡ Err Long
  -- -.
  pub no_digit : float_of (45 ∷ 46 ∷ []) ≡ Err Bad
  -- 1e+
  pub no_exponent : float_of (49 ∷ 101 ∷ 43 ∷ []) ≡ Err Bad
  -- 1.2.3
  pub two_points : float_of (49 ∷ 46 ∷ 50 ∷ 46 ∷ 51 ∷ []) ≡ Err Bad

pub worked : Worked
unfolding float_of decimal digits_of digits_from digit_of power_of whole_of read_from scaled all_of number_from nearest_to round neg to_bits bits_of hex_from
worked = record {
  tenth = refl;
  root_half = refl;
  least = refl;
  under_least = refl;
  largest = refl;
  infinite = refl;
  tie_down = refl;
  tie_up = refl;
  minus_zero = refl;
  capital_bits = refl;
  most_digits = refl;
  too_many_digits = refl;
  large_exponent = refl;
  small_exponent = refl;
  no_digit = refl;
  no_exponent = refl;
  two_points = refl;
}
