-- What the nodes' arithmetic makes of zeros of either sign:
--     zero_float, zero_pattern    a pattern's float and a float's pattern
--     product-zero                a zero times a finite float is a zero
--     total-zero                  a sum of zeros is +0, since it starts there
-- Assumes nothing.
use Prim.Native.Nat.{ℕ, ◌<◌}
use mathlib.Core.Path.{◌≡◌, refl, ap, ◌∙◌}
use mathlib.Core.Logic.{inl, inr}
use mathlib.Core.Bool.{Bool, true, false, false≢true}
use mathlib.Core.List.{List, [], ◌∷◌}
use native.Mathlib.Nat.{mul-pos}
use native.Mathlib.Omega.{arith}
use lib.IntN.{pos}
use lib.Dec.{lit<}
use lib.Ieee.{Float, nan, inf, fin, binary32, unlike, of_bits, to_bits, round, add, mul}
use lib.Ieee.Fits.{down_pos}
use lib.Ieee.Scale.{round_same}
use Rattle.reading.specs.Table.{All}
use Rattle.values.specs.Floors.{zero_f, finite_f}
use Rattle.kinds.specs.Rule.{add_to, total}
use Rattle.samples.specs.Silence.{Zero}

-- a zero of either sign
abbrev pub ZeroFloat : Float → Type 0
ZeroFloat x = (s : Bool) × (x ≡ fin s 0 (pos 0))

pub zero_float : (w : ℕ) → Zero w → ZeroFloat (of_bits binary32 w)
unfolding of_bits
zero_float w (inl e) = (false, ap (of_bits binary32) e)
zero_float w (inr e) = (true, ap (of_bits binary32) e)

pub zero_pattern : (x : Float) → ZeroFloat x → Zero (to_bits binary32 x)
unfolding to_bits
zero_pattern x (false, e) = inl (ap (to_bits binary32) e)
zero_pattern x (true, e) = inr (ap (to_bits binary32) e)

-- ---- a product

round-none : (s : Bool) → round binary32 s 0 1 ≡ fin s 0 (pos 0)
unfolding round
round-none true = refl
round-none false = refl

round-zero : (s : Bool) (a d : ℕ) → 0 < d → a ≡ 0 → round binary32 s a d ≡ fin s 0 (pos 0)
round-zero s a d h e = round_same binary32 s a d 0 1 h (lit< tt) (rw e (omega arith)) ∙ round-none s

times : (s : Bool) (y : Float) → finite_f y ≡ true → ZeroFloat (mul binary32 (fin s 0 (pos 0)) y)
unfolding mul
times s nan h = absurd (false≢true h)
times s (inf t) h = absurd (false≢true h)
times s (fin t n d) h = (unlike s t, round-zero (unlike s t) _ _ (mul-pos (down_pos (pos 0)) (down_pos d)) (omega arith))

pub product-zero : (x y : Float) → ZeroFloat x → finite_f y ≡ true → ZeroFloat (mul binary32 x y)
product-zero x y (s, e) h = rw e (times s y h)

pub zero_finite : (x : Float) → ZeroFloat x → finite_f x ≡ true
zero_finite x (s, e) = ap finite_f e

-- ---- a sum

plus : (t : Bool) → add binary32 zero_f (fin t 0 (pos 0)) ≡ zero_f
unfolding add round
plus true = refl
plus false = refl

pub total-zero : (xs : List Float) → All ZeroFloat xs → total xs ≡ zero_f
unfolding total
total-zero [] z = refl
total-zero (x ∷ xs) z = ap (λ (y : Float). add_to y xs) (ap (add binary32 zero_f) z.0.1 ∙ plus z.0.0) ∙ total-zero xs z.1
