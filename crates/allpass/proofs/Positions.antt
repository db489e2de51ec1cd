-- The positions that a second source gives, split into floors and rests. Assumes nothing.
use mathlib.Core.Path.{◌≡◌, sym, ap, ◌∙◌, subst}
use mathlib.Core.List.{List}
use Prim.Native.Nat.{ℕ, ◌^◌, ◌≤◌, ◌<◌}
use native.Mathlib.Omega.{arith}
use lib.ListN.{length, get_or}
use lib.Ieee.{Float}
use Rattle.values.specs.Floors.{Upto}
use Rattle.leaves.specs.Position.{position_of}
use Rattle.values.proofs.Floors.{upto-more, floor-le}
use Rattle.leaves.proofs.Place.{position_upto}
use Rattle.effects.specs.Block.{sample, fill, positioned, Split}
use Rattle.effects.proofs.Filled.{fill_at}

-- floors and rests are those of the positions that the second source m gives
abbrev pub Of : ℕ → ℕ → List ℕ → List Float → List Float → Type 0
Of n size floors rests m = (j : ℕ) → j < size → Split (position_of (sample m j) n) (get_or floors j 0) (sample rests j)

module _ (n size : ℕ) (m p : List Float) (long : size ≤ length m) (e : p ≡ fill (positioned m n) size m) where
  pub position_at : (j : ℕ) → j < size → sample p j ≡ position_of (sample m j) n
  position_at j h = ap (λ (u : List Float). sample u j) e ∙ fill_at (positioned m n) size m long j h

  pub split_all : (floors : List ℕ) (rests : List Float) → ((j : ℕ) → j < size → Split (sample p j) (get_or floors j 0) (sample rests j)) → Of n size floors rests m
  split_all floors rests s j h = subst (λ (pos : Float). Split pos (get_or floors j 0) (sample rests j)) (position_at j h) (s j h)

  pub small : n ≤ 132300 → (j : ℕ) → j < size → Upto (2 ^ 24) (sample p j)
  small few j h = subst (Upto (2 ^ 24)) (sym (position_at j h)) (upto-more n (2 ^ 24) (position_of (sample m j) n) (omega arith) (position_upto (sample m j) n (omega arith)))

pub floor_in : (n size : ℕ) (floors : List ℕ) (rests m : List Float) → n ≤ 132300 → Of n size floors rests m → (j : ℕ) → j < size → get_or floors j 0 ≤ n
floor_in n size floors rests m few s j h = omega (arith, (s j h).0, floor-le (position_of (sample m j) n) n (position_upto (sample m j) n (omega arith)))
