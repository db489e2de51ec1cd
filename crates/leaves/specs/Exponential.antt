-- The plate's one-pole constants (document 01, "Plate"): the floats nearest e^(-7π/5) and e^(-π/5), with e^x bracketed by whole-number series.
-- What ties the whole numbers to π and e^x is argued by these facts, which are not proved: those of `Series` on π, and
--     series       e^x = 1 + x + x²/2! + .., and e^(-x) = 1 / e^x
--     tail         where each term is at most half of the one before, from x^24/24! on, all behind that term make at most as much as it
use Rattle.std.specs.Prelude.{ℕ, zero, suc, ◌+◌, ◌-◌, ◌*◌, ◌/◌, ◌^◌, ◌≤◌, ◌<◌, List, [], ◌∷◌, Float}
use Rattle.std.proofs.Common.{lit≤, lit<}
use Rattle.std.specs.Float.{nan, inf, fin, binary32}
use Rattle.std.specs.Float.Ieee.{up, down, of_bits}
use Rattle.leaves.specs.Series.{factorial, arcs, machin, pi_low, pi_high, powers}

-- ---- the constants, as patterns

abbrev pub b_seven_fifths : ℕ
b_seven_fifths = 0x3c49_8223

abbrev pub b_one_fifth : ℕ
b_one_fifth = 0x3f08_92ad

-- ---- e^x at x = k × π/5, by 1 + x + x²/2! + .. + x^24/24!, for a k up to 19

-- n, n - 1, .., 0
unfoldable pub down_from : ℕ → List ℕ
down_from zero = 0 ∷ []
down_from (suc n) = suc n ∷ down_from n

-- Every term is above zero, so the sum at the lower π lies below e^x, which is at least exp_low k / exp_over.
unfoldable pub exp_low : ℕ → ℕ
exp_low k = powers 24 (k * pi_low) (5 * 10 ^ 9) (down_from 24)

-- From x^24/24! on, each term is at most half of the one before it, as x is below 25/2. So the sum at the upper π with the last term
-- counted twice lies above e^x, which is at most exp_high k / exp_over.
unfoldable pub exp_high : ℕ → ℕ
exp_high k = powers 24 (k * pi_high) (5 * 10 ^ 9) (24 ∷ down_from 24)

unfoldable pub exp_over : ℕ
exp_over = factorial 24 * (5 * 10 ^ 9) ^ 24

-- ---- nearness

-- the value of a pattern's float in units of 2^-149, of which every finite float is a whole number
unfoldable pub units_of : ℕ → ℕ
units_of w = go (of_bits binary32 w)
  where
    go : Float → ℕ
    go nan = 0
    go (inf s) = 0
    go (fin s m e) = m * up e * 2 ^ 149 / down e

-- e^(-k × π/5), which is from exp_over / exp_high k to exp_over / exp_low k, lies above the half-way point of the floats w - 1 and w, and
-- below that of w and w + 1. So w is the nearest.
pub record Nearest (w k : ℕ) : Type 0 where
  pub in_order : exp_low k ≤ exp_high k
  pub above_half : (units_of (w - 1) + units_of w) * exp_high k < 2 * 2 ^ 149 * exp_over
  pub below_half : 2 * 2 ^ 149 * exp_over < (units_of w + units_of (w + 1)) * exp_low k

pub seven_fifths : Nearest b_seven_fifths 7
unfolding factorial arcs machin pi_low pi_high powers down_from exp_low exp_high exp_over units_of of_bits
seven_fifths = record { in_order = lit≤ tt; above_half = lit< tt; below_half = lit< tt }

pub one_fifth : Nearest b_one_fifth 1
unfolding factorial arcs machin pi_low pi_high powers down_from exp_low exp_high exp_over units_of of_bits
one_fifth = record { in_order = lit≤ tt; above_half = lit< tt; below_half = lit< tt }
