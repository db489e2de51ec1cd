-- A loop over four samples at once stores four values to one block of a cell, then four to the next, where the rule stores sample by sample. The
-- blocks lie apart, so that the values are the same, and what a later sample reads is what was there before the first store.
--     stored_four              what `store_four` stores, as a block of four
--     woven_two, woven_three   blocks stored one after the other, or sample by sample
--     kept_two, kept_three     a place to which none of them stores
-- Assumes nothing.
use mathlib.Core.Path.{◌≡◌, refl, ap, ◌∙◌}
use mathlib.Core.List.{List, [], ◌∷◌, map}
use mathlib.Core.Logic.{◌≢◌}
use Prim.Native.Nat.{ℕ, zero, suc, ◌+◌, ◌<◌}
use native.Mathlib.Omega.{arith}
use lib.ListN.{get_or, set}
use lib.Seq.{set_comm, get_or-set_other}
use lib.Ieee.{Float, binary32, to_bits}
use Rattle.values.specs.Floats.{set_float, set_four}
use Rattle.kinds.specs.Iter.{iter}
use Rattle.effects.specs.Block.{stored}

pub stored_four : (y : ℕ → Float) (k : ℕ) (ws : List ℕ) {p q r s : Float} → p ≡ y 0 → q ≡ y 1 → r ≡ y 2 → s ≡ y 3
    → set_four ws k (map (to_bits binary32) (p ∷ q ∷ r ∷ s ∷ [])) ≡ stored y k 4 ws
unfolding stored iter
stored_four y k ws ep eq er es =
    let first : k ≡ k + 0 = omega arith in
    λ j. set_float (set_float (set_float (set_float ws (first j) (ep j)) (k + 1) (eq j)) (k + 2) (er j)) (k + 3) (es j)

-- ---- any turns

-- a change before a block is stored, or after it, where it does not meet the block
past : (f : List ℕ → List ℕ) (y : ℕ → Float) (at n : ℕ) (ws : List ℕ) → ((j v : ℕ) (vs : List ℕ) → j < n → set (f vs) (at + j) v ≡ f (set vs (at + j) v))
    → stored y at n (f ws) ≡ f (stored y at n ws)
unfolding stored iter
past f y at zero ws apart = refl
past f y at (suc n) ws apart =
    ap (λ (l : List ℕ). set_float l (at + n) (y n)) (past f y at n ws (λ j v vs h. apart j v vs (omega arith)))
    ∙ apart n (to_bits binary32 (y n)) (stored y at n ws) (omega arith)

module _ (turn : ℕ → List ℕ → List ℕ) where
  -- a block stored after turns that do not meet it, or one sample of it after each turn
  woven : (y : ℕ → Float) (at n : ℕ) (ws : List ℕ) → ((i j v : ℕ) (vs : List ℕ) → i < n → j < n → set (turn i vs) (at + j) v ≡ turn i (set vs (at + j) v))
      → stored y at n (iter turn n ws) ≡ iter (λ i vs. set_float (turn i vs) (at + i) (y i)) n ws
  unfolding stored iter
  woven y at zero ws apart = refl
  woven y at (suc n) ws apart =
      ap (λ (l : List ℕ). set_float l (at + n) (y n))
      (past (turn n) y at n (iter turn n ws) (λ j v vs h. apart n j v vs (omega arith) (omega arith))
      ∙ ap (turn n) (woven y at n ws (λ i j v vs h k. apart i j v vs (omega arith) (omega arith))))

  -- a place to which no turn stores
  kept : (j n : ℕ) (ws : List ℕ) → ((i : ℕ) (vs : List ℕ) → i < n → get_or (turn i vs) j 0 ≡ get_or vs j 0) → get_or (iter turn n ws) j 0 ≡ get_or ws j 0
  unfolding iter
  kept j zero ws other = refl
  kept j (suc n) ws other = other n (iter turn n ws) (omega arith) ∙ kept j n ws (λ i vs h. other i vs (omega arith))

-- ---- two blocks, and three

-- the n places from a on and those from b on have none in common
abbrev pub Apart : ℕ → ℕ → ℕ → Type 0
Apart n a b = (i j : ℕ) → i < n → j < n → a + i ≢ b + j

-- the stores of sample i, to two blocks and to three: x from a on, y from b on, z from c on
abbrev pub two_at : (ℕ → Float) → ℕ → (ℕ → Float) → ℕ → ℕ → List ℕ → List ℕ
two_at x a y b i vs = set_float (set_float vs (a + i) (x i)) (b + i) (y i)

abbrev pub three_at : (ℕ → Float) → ℕ → (ℕ → Float) → ℕ → (ℕ → Float) → ℕ → ℕ → List ℕ → List ℕ
three_at x a y b z c i vs = set_float (two_at x a y b i vs) (c + i) (z i)

module _ (x : ℕ → Float) (a : ℕ) (y : ℕ → Float) (b n : ℕ) (ws : List ℕ) where
  pub woven_two : Apart n a b → stored y b n (stored x a n ws) ≡ iter (two_at x a y b) n ws
  unfolding stored
  woven_two ab = woven (λ i vs. set_float vs (a + i) (x i)) y b n ws (λ i j v vs h k. set_comm vs (a + i) (b + j) (to_bits binary32 (x i)) v (ab i j h k))

  pub kept_two : (j : ℕ) → ((i : ℕ) → i < n → j ≢ a + i) → ((i : ℕ) → i < n → j ≢ b + i) → get_or (iter (two_at x a y b) n ws) j 0 ≡ get_or ws j 0
  kept_two j off-a off-b =
      kept (two_at x a y b) j n ws (λ i vs h. get_or-set_other (set_float vs (a + i) (x i)) (b + i) j _ 0 (off-b i h) ∙ get_or-set_other vs (a + i) j _ 0 (off-a i h))

  module _ (z : ℕ → Float) (c : ℕ) where
    pub woven_three : Apart n a b → Apart n a c → Apart n b c → stored z c n (stored y b n (stored x a n ws)) ≡ iter (three_at x a y b z c) n ws
    woven_three ab ac bc =
        ap (stored z c n) (woven_two ab)
        ∙ woven (two_at x a y b) z c n ws (λ i j v vs h k.
        set_comm (set_float vs (a + i) (x i)) (b + i) (c + j) (to_bits binary32 (y i)) v (bc i j h k)
        ∙ ap (λ (l : List ℕ). set_float l (b + i) (y i)) (set_comm vs (a + i) (c + j) (to_bits binary32 (x i)) v (ac i j h k)))

    pub kept_three : (j : ℕ) → ((i : ℕ) → i < n → j ≢ a + i) → ((i : ℕ) → i < n → j ≢ b + i) → ((i : ℕ) → i < n → j ≢ c + i)
        → get_or (iter (three_at x a y b z c) n ws) j 0 ≡ get_or ws j 0
    kept_three j off-a off-b off-c =
        kept (three_at x a y b z c) j n ws (λ i vs h.
        get_or-set_other (two_at x a y b i vs) (c + i) j _ 0 (off-c i h)
        ∙ get_or-set_other (set_float vs (a + i) (x i)) (b + i) j _ 0 (off-b i h)
        ∙ get_or-set_other vs (a + i) j _ 0 (off-a i h))
