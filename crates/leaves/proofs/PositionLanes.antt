-- Where a modulated all-pass reads its lines, four samples at once: what a lane holds. Assumes nothing.
use mathlib.Core.Path.{◌≡◌, refl, sym, ap, ◌∙◌}
use mathlib.Core.Bool.{Bool, true, false, cond, ◌||◌}
use Prim.Native.Nat.{◌-◌, ◌^◌}
use lib.Lanes.{top}
use lib.Bits.{bit_or}
use lib.Ieee.{Float, binary32, ne, lt, neg, add, is_nan}
use Rattle.values.specs.Floors.{zero_f}
use Rattle.values.proofs.Patterns.{nan_test, no_nan_test}
use Rattle.values.proofs.FourLanes.{chosen}
use Rattle.leaves.specs.Position.{kept, turned}

-- a lane of a comparison, and of either of two
chosen_is : (b : Bool) → chosen b ≡ b
chosen_is true = refl
chosen_is false = refl

abbrev pub either : Bool → Bool → Bool
either a b = top 31 (bit_or (cond a (2 ^ 32 - 1) 0) (cond b (2 ^ 32 - 1) 0))

either_is : (a b : Bool) → either a b ≡ (a || b)
either_is true true = refl
either_is true false = refl
either_is false true = refl
either_is false false = refl

-- what differs from itself is a NaN
self_differs : (w : Float) → ne w w ≡ is_nan w
self_differs w = go (ne w w) refl
  where
    go : (b : Bool) → ne w w ≡ b → b ≡ is_nan w
    go true e = sym (nan_test w e)
    go false e = sym (no_nan_test w e)

pub kept_lane : (high w : Float) → cond (either (ne w w) (lt w zero_f)) zero_f (cond (chosen (lt high w)) high w) ≡ kept high w
kept_lane high w =
    let low : either (ne w w) (lt w zero_f) ≡ (is_nan w || lt w zero_f) = either_is (ne w w) (lt w zero_f) ∙ ap (λ (b : Bool). b || lt w zero_f) (self_differs w) in
    λ i. cond (low i) zero_f (cond (chosen_is (lt high w) i) high w)

pub turned_lane : (high w : Float) → cond (chosen (lt (neg w) zero_f)) (add binary32 (neg w) high) (neg w) ≡ turned high w
turned_lane high w i = cond (chosen_is (lt (neg w) zero_f) i) (add binary32 (neg w) high) (neg w)
