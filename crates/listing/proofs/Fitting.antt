-- A visiting list fits 64 places: its nodes are below 64, and each stands there once. Assumes nothing.
use mathlib.Core.Path.{◌≡◌, refl, ap}
use mathlib.Core.Bool.{Bool, true, false, ◌||◌}
use mathlib.Core.List.{List, [], ◌∷◌}
use Prim.Native.Nat.{ℕ, zero, suc, ◌<◌, ◌≤◌}
use native.Mathlib.Omega.{arith}
use borrow.Author.Tests.{eq-eqb, ltb-true, ltb-false}
use lib.Dec.{eqb, ltb}
use lib.ListN.{length, get_or}
use Rattle.reading.specs.Table.{mem}
use Rattle.reading.specs.Order.{Wire}
use Rattle.graph.specs.Visit.{visiting_list}
use Rattle.graph.specs.Listed.{SourcesBelow}
use Rattle.graph.proofs.Listed.{lists_reached, mem_at}
use Rattle.boards.proofs.RoundSources.{fewer}

-- the numbers below n
down : ℕ → List ℕ
down zero = []
down (suc n) = n ∷ down n

down_long : (n : ℕ) → length (down n) ≡ n
unfolding down
down_long zero = refl
down_long (suc n) = ap suc (down_long n)

down_has : (n k : ℕ) → k < n → mem k (down n) ≡ true
unfolding down
down_has zero k h = absurd (omega arith)
down_has (suc n) k h = go (ltb k n) refl (λ l. down_has n k l)
  where
    right : (b : Bool) → mem k (down n) ≡ true → (b || mem k (down n)) ≡ true
    right true e = refl
    right false e = e

    go : (b : Bool) → ltb k n ≡ b → (k < n → mem k (down n) ≡ true) → (eqb k n || mem k (down n)) ≡ true
    go true e rest = right (eqb k n) (rest (ltb-true k n e))
    go false e rest = ap (λ (b : Bool). b || mem k (down n)) (eq-eqb k n (omega (arith, ltb-false k n e)))

pub list_few : (ws : List Wire) → SourcesBelow ws 64 → length (visiting_list ws) ≤ 64
list_few ws below = let r = lists_reached ws below in omega (arith, fewer (visiting_list ws) (down 64) r.once (λ k e. down_has 64 k (r.below 64 (omega arith) below k e)), down_long 64)

pub list_below : (ws : List Wire) → SourcesBelow ws 64 → (j : ℕ) → j < length (visiting_list ws) → get_or (visiting_list ws) j 0 < 64
list_below ws below j h = (lists_reached ws below).below 64 (omega arith) below (get_or (visiting_list ws) j 0) (mem_at (visiting_list ws) j h)
