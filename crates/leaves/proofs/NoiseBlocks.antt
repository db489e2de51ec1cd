-- What the loop over a block of noise has written: the samples of the first so many steps, and of one more. Assumes nothing.
use Prim.Native.Nat.{ℕ, zero, suc, ◌+◌, ◌<◌}
use mathlib.Core.Path.{◌≡◌, refl, sym, ap, ◌∙◌}
use mathlib.Core.List.{List, [], ◌∷◌, ◌++◌}
use native.Mathlib.Nat.{le_of_eq}
use native.Mathlib.Numerals.{add-one}
use lib.Ieee.{binary32, to_bits}
use lib.ListN.{length, set, take}
use lib.Seq.{take_all, take-suc-set}
use Rattle.leaves.specs.Noise.{xorshift, state_after, sample_of, samples}

-- a step more
last_step : (n s : ℕ) → state_after (suc n) s ≡ xorshift (state_after n s)
unfolding state_after
last_step zero s = refl
last_step (suc n) s = last_step n (xorshift s)

last_sample : (n s : ℕ) → samples (suc n) s ≡ samples n s ++ (to_bits binary32 (sample_of (state_after (suc n) s)) ∷ [])
unfolding samples state_after
last_sample zero s = refl
last_sample (suc n) s = ap (λ (l : List ℕ). to_bits binary32 (sample_of (xorshift s)) ∷ l) (last_sample n (xorshift s))

pub state-next : (i s : ℕ) → xorshift (state_after i s) ≡ state_after (i + 1) s
state-next i s = sym (last_step i s) ∙ ap (λ (k : ℕ). state_after k s) (sym (add-one i))

pub filled_next : (ws ws' : List ℕ) (i s : ℕ) → i < length ws → take i ws ≡ samples i s → ws' ≡ set ws i (to_bits binary32 (sample_of (state_after (i + 1) s)))
    → take (i + 1) ws' ≡ samples (i + 1) s
filled_next ws ws' i s h e g =
    let x = to_bits binary32 (sample_of (state_after (suc i) s)) in
    rw (add-one i) (ap (take (suc i)) (rw (add-one i) at g) ∙ take-suc-set ws i x h ∙ ap (λ (l : List ℕ). l ++ (x ∷ [])) e ∙ sym (last_sample i s))

pub filled_all : (ws : List ℕ) (n s : ℕ) → length ws ≡ n → take n ws ≡ samples n s → ws ≡ samples n s
filled_all ws n s h e = sym (take_all n ws (le_of_eq h)) ∙ e
