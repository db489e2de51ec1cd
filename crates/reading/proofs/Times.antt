-- How times step through blocks.
-- Assumes nothing.
use mathlib.Core.Path.{◌≡◌, ap, ◌∙◌}
use mathlib.Core.Logic.{◌⊎◌, inl, inr}
use Prim.Native.Nat.{ℕ, zero, suc, ◌+◌, ◌*◌, ◌/◌, ◌%◌, ◌<◌}
use native.Mathlib.Nat.{mul-mod_left, mul-div_cancel, div-add-mod', mod-lt}
use native.Mathlib.Omega.{arith}
use native.Mathlib.Decide.{ℕ_discrete}
use lib.Arith.{digits_div, digits_mod}

-- of blocks of n, the time after t starts the next block, or stands in t's
pub next_time : (n t : ℕ) → zero < n
    → ((suc t / n ≡ suc (t / n)) × (suc t % n ≡ 0) × (suc (t % n) ≡ n)) ⊎ ((suc t / n ≡ t / n) × (suc t % n ≡ suc (t % n)))
next_time n t pos = go (ℕ_discrete (suc (t % n)) n)
  where
    go : Dec (suc (t % n) ≡ n)
        → ((suc t / n ≡ suc (t / n)) × (suc t % n ≡ 0) × (suc (t % n) ≡ n)) ⊎ ((suc t / n ≡ t / n) × (suc t % n ≡ suc (t % n)))
    go (yes e) =
        let whole : suc t ≡ suc (t / n) * n = omega (arith, div-add-mod' t n) in
        inl (ap (λ (m : ℕ). m / n) whole ∙ mul-div_cancel (suc (t / n)) pos, ap (λ (m : ℕ). m % n) whole ∙ mul-mod_left (suc (t / n)) n, e)
    go (no a) =
        let small : suc (t % n) < n = omega (arith, mod-lt t pos) in
        let part : suc t ≡ t / n * n + suc (t % n) = omega (arith, div-add-mod' t n) in
        inr (ap (λ (m : ℕ). m / n) part ∙ digits_div (t / n) small, ap (λ (m : ℕ). m % n) part ∙ digits_mod (t / n) small)
