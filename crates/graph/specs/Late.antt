-- Late wires (document 01, "Visiting list"), of any list of nodes. Definitions only.
use Rattle.std.specs.Prelude.{◌≡◌, ℕ, ◌<◌, Bool, cond, ◌&&◌, List, [], ◌∷◌, length, get_or}
use Rattle.reading.specs.Table.{mem}
use Rattle.reading.specs.Order.{Wire, before, late}

-- a wire between listed nodes is late if its source is not earlier in the list
unfoldable pub is_late : List ℕ → Wire → Bool
is_late l w = mem w.source l && mem w.target l && late l w.source w.target

-- the late wires in wire order, a repeated one each time
unfoldable pub late_wires : List ℕ → List Wire → List Wire
late_wires l [] = []
late_wires l (w ∷ ws) = cond (is_late l w) (w ∷ late_wires l ws) (late_wires l ws)

-- the place of v in a list, from 0: the list's length if v is not in it
abbrev pub place : List ℕ → ℕ → ℕ
place l v = length (before l v)

-- r holds at each node below 64 its place in l
pub record Placed (l r : List ℕ) : Type 0 where
  pub size : length r ≡ 64
  pub at : (v : ℕ) → v < 64 → get_or r v 0 ≡ place l v
