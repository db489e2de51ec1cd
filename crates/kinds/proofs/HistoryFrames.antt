-- A function over a table. Assumes nothing.
use mathlib.Core.Path.{◌≡◌, refl, ap}
use mathlib.Core.List.{List, ◌∷◌, map}
use Prim.Native.Nat.{ℕ, zero, suc}
use Rattle.reading.specs.Table.{tab}

pub map_tab : {A B : Type 0} (f : A → B) (n : ℕ) (g : ℕ → A) → map f (tab n g) ≡ tab n (λ i. f (g i))
map_tab f zero g = refl
map_tab {B = B} f (suc n) g = ap (λ (l : List B). f (g zero) ∷ l) (map_tab f n (λ i. g (suc i)))
