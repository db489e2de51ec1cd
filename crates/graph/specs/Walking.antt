-- The walk as the code takes it, in arrays: what `visit` asks and gives. Definitions only.
use Rattle.std.specs.Prelude.{◌≡◌, ℕ, zero, suc, ◌+◌, ◌*◌, ◌<◌, ◌≤◌, Bool, true, false, List, [], ◌∷◌, length, get_or, take}
use Rattle.reading.specs.Table.{mem}
use Rattle.reading.specs.Order.{Wire}
use Rattle.reading.specs.Visit.{Walk, go}
use Rattle.sources.specs.Sources.{distinct_sources}

-- ---- the sources gathered in two arrays: node v's stand in `lists` from 8 v on, as many as `counts` says

-- each node has at most 8 sources, and they are nodes below 64
pub record Table (counts lists : List ℕ) : Type 0 where
  pub few : (v : ℕ) → v < 64 → get_or counts v 0 ≤ 8
  pub nodes : (v j : ℕ) → v < 64 → j < get_or counts v 0 → get_or lists (8 * v + j) 0 < 64

-- they are the distinct sources of the wires ws, by first wire
pub record Gathered (ws : List Wire) (counts lists : List ℕ) : Type 0 where
  pub size : (v : ℕ) → v < 64 → get_or counts v 0 ≡ length (distinct_sources ws v)
  pub source : (v j : ℕ) → v < 64 → j < get_or counts v 0 → get_or lists (8 * v + j) 0 ≡ get_or (distinct_sources ws v) j 0

-- ---- a walk under way, in arrays

-- the marks m, and the first c nodes of l, stand for the walk w
pub record Stands (m : List Bool) (l : List ℕ) (c : ℕ) (w : Walk) : Type 0 where
  pub marks : (u : ℕ) → u < 64 → get_or m u false ≡ mem u w.marked
  pub list : take c l ≡ w.listed

-- the nodes that are not marked yet
unfoldable pub unmarked : List Bool → ℕ
unmarked [] = zero
unmarked (false ∷ m) = suc (unmarked m)
unmarked (true ∷ m) = unmarked m

-- what `visit` asks of the sources, the node v, the marks and the list
pub record Ready (counts lists : List ℕ) (v : ℕ) (m : List Bool) (l : List ℕ) (count : ℕ) : Type 0 where
  pub table : Table counts lists
  pub marks_size : length m ≡ 64
  pub node : v < 64
  pub unseen : get_or m v false ≡ false
  pub room : count + unmarked m ≤ 64

-- what `visit` leaves
pub record Visited (counts lists : List ℕ) (v : ℕ) (m : List Bool) (l : List ℕ) (count : ℕ) (m' : List Bool) (l' : List ℕ) (count' : ℕ) : Type 0 where
  pub marks_kept : length m' ≡ length m
  pub fewer : unmarked m' ≤ unmarked m
  pub total : count' + unmarked m' ≡ count + unmarked m
  -- the walk goes on as `go` says, at every depth that suffices
  pub walk : (ws : List Wire) → Gathered ws counts lists → (k : ℕ) → unmarked m ≤ k → (w : Walk) → Stands m l count w → Stands m' l' count' (go ws k v w)
