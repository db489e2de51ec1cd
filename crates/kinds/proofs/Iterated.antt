-- Laws of iterated turns: one more turn, how stretches join, and what turns keep.
-- Assumes nothing.
use mathlib.Core.Path.{◌≡◌, refl, ap, ◌∙◌}
use Prim.Native.Nat.{ℕ, zero, suc, ◌+◌, ◌<◌}
use native.Mathlib.Omega.{arith}
use native.Mathlib.Numerals.{add-one}
use Rattle.kinds.specs.Iter.{iter, from}

module _ {S : Type 0} (turn : ℕ → S → S) where
  -- one more turn: t is the state after i turns, and t' what the next turn makes of it
  pub iter_then : (i : ℕ) (s t t' : S) → t ≡ iter turn i s → t' ≡ turn i t → t' ≡ iter turn (i + 1) s
  unfolding iter
  iter_then i s t t' e f = f ∙ rw (add-one i) (ap (turn i) e)

  -- b turns after a turns are a + b turns
  pub iter_join : (a b : ℕ) (s : S) → iter (from a turn) b (iter turn a s) ≡ iter turn (a + b) s
  unfolding iter
  iter_join a zero s = let k : a ≡ a + zero = omega arith in ap (λ (j : ℕ). iter turn j s) k
  iter_join a (suc b) s =
      let k : suc (a + b) ≡ a + suc b = omega arith in
      ap (turn (a + b)) (iter_join a b s) ∙ ap (λ (j : ℕ). iter turn j s) k

  -- what a turn keeps holds after any number of them
  pub iter_keeps : (P : S → Type 0) → ((i : ℕ) (s : S) → P s → P (turn i s)) → (n : ℕ) (s : S) → P s → P (iter turn n s)
  unfolding iter
  iter_keeps P k zero s p = p
  iter_keeps P k (suc n) s p = k n (iter turn n s) (iter_keeps P k n s p)

  -- the same, where what holds speaks of the number of turns
  pub iter_builds : (P : ℕ → S → Type 0) (s : S) (n : ℕ) → P 0 s → ((i : ℕ) → i < n → (t : S) → P i t → P (suc i) (turn i t)) → P n (iter turn n s)
  unfolding iter
  iter_builds P s zero p k = p
  iter_builds P s (suc n) p k = k n (omega arith) (iter turn n s) (iter_builds P s n p (λ i h. k i (omega arith)))

-- turns that agree on the states that come about lead to the same
pub iter_same : {S : Type 0} (f g : ℕ → S → S) (n : ℕ) (s : S) → ((i : ℕ) → i < n → f i (iter f i s) ≡ g i (iter f i s)) → iter f n s ≡ iter g n s
unfolding iter
iter_same f g zero s h = refl
iter_same f g (suc n) s h = h n (omega arith) ∙ ap (g n) (iter_same f g n s (λ i b. h i (omega arith)))
