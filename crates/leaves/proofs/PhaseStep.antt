-- A phase from 0 to 1 stays there at every frequency from 0 to 44,100, and a phase of exactly 1 is one of its states. Assumes nothing.
-- f / 44100 is at most 1, so the sum is at most 2, and a sum above 1 is at most 1 once 1 is taken off. Rounding keeps each bound.
use mathlib.Core.Path.{◌≡◌, refl, ap, ◌∙◌}
use mathlib.Core.Bool.{Bool, true, false, cond, false≢true}
use Prim.Native.Nat.{ℕ, zero, suc, ◌*◌, ◌<◌}
use native.Mathlib.Omega.{arith}
use lib.Dec.{T, ltb, lit<, lit≤}
use borrow.Author.Tests.{ltb-true, ltb-false}
use lib.Ieee.{Float, nan, inf, fin, binary32, up, down, sum, add, sub, neg, div, lt, fits}
use lib.Ieee.Fits.{down_pos, add-fits, sub-fits, cond-fits}
use Rattle.values.specs.Floors.{zero_f, f1, f44100, within, Upto}
use Rattle.leaves.specs.Phase.{increment, turned_back, advance, phase_after}
use Rattle.leaves.specs.Worked.{worked}
use Rattle.values.proofs.Floors.{minus_zero_upto, within-upto, upto-within, quotient_upto}
use Rattle.leaves.proofs.FloatSums.{larger_first, sum-upto}

-- ---- from 0 to 1

increment-upto : (f : Float) → Upto 44100 f → Upto 1 (increment f)
unfolding increment
increment-upto f u = quotient_upto 11025 2 1 f (lit< tt) refl (lit≤ tt) u

above_one : (x : Float) → Upto 2 x → lt f1 x ≡ true → Upto 1 (sub binary32 x f1)
unfolding lt sub neg add sum
above_one nan u h = absurd u
above_one (inf s) u h = absurd u
above_one (fin true m e) u h = absurd (false≢true h)
above_one (fin false m e) u h =
    let over : 1 * down e < m * up e * 1 = ltb-true (1 * down e) (m * up e * 1) h in
    larger_first (ltb (m * up e * 1) (1 * down e)) (m * up e * 1) (1 * down e) (down e * 1) 1 (omega (arith, down_pos e)) (lit≤ tt) (omega arith) (omega (arith, u.0))

not_above_one : (x : Float) → Upto 2 x → lt f1 x ≡ false → Upto 1 x
unfolding lt
not_above_one nan u h = absurd u
not_above_one (inf s) u h = absurd u
not_above_one (fin true m e) u h = minus_zero_upto 1 m e (u.1 refl)
not_above_one (fin false m e) u h = (omega (arith, ltb-false (1 * down e) (m * up e * 1) h), u.1)

turned_back_lem : (x : Float) → Upto 2 x → Upto 1 (turned_back x)
turned_back_lem x u = go (lt f1 x) (above_one x u) (not_above_one x u)
  where
    go : (t : Bool) → (t ≡ true → Upto 1 (sub binary32 x f1)) → (t ≡ false → Upto 1 x) → Upto 1 (cond t (sub binary32 x f1) x)
    go true a b = a refl
    go false a b = b refl

-- a phase from 0 to 1 moves to a phase from 0 to 1
pub phase_stays : (f p : Float) → T (within f44100 f) → T (within f1 p) → T (within f1 (phase_after f p))
unfolding advance
phase_stays f p hf hp =
    upto-within 1 0 (phase_after f p)
    (turned_back_lem (add binary32 p (increment f))
    (sum-upto 1 1 p (increment f) (lit≤ tt) (within-upto 1 0 p hp) (increment-upto f (within-upto 11025 2 f hf))))

-- and is a float of 32 bits
pub phase_fits : (f p : Float) → T (fits binary32 (phase_after f p))
unfolding advance
phase_fits f p =
    let x = add binary32 p (increment f) in
    cond-fits binary32 (lt f1 x) (sub binary32 x f1) x (sub-fits binary32 x f1) (add-fits binary32 p (increment f))

-- ---- exactly 1

-- the phase from 0, after k samples at 44,100
abbrev pub full_rate : ℕ → Float
full_rate zero = zero_f
full_rate (suc k) = phase_after f44100 (full_rate k)

full : increment f44100 ≡ f1
unfolding increment div
full = refl

-- it goes 0, 1, 1, ..
pub one_stays : (k : ℕ) → full_rate (suc k) ≡ f1
one_stays zero = ap (advance zero_f) full ∙ worked.phase_one
one_stays (suc k) = ap (phase_after f44100) (one_stays k) ∙ ap (advance f1) full ∙ worked.phase_one_stays
