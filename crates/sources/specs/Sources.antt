-- A node's sources (document 01, the table of types): distinct ones count, by first wire; first and second are the sources of the first
-- and second wire. Definitions only.
use Rattle.std.specs.Prelude.{ℕ, ◌+◌, ◌*◌, min, ◌<◌, ◌≡◌, cond, List, [], ◌∷◌, ◌++◌, length, get_or}
use Rattle.reading.specs.Table.{mem}
use Rattle.reading.specs.Order.{Wire, sources}

-- one source more, unless it is there already
abbrev pub add_new : List ℕ → ℕ → List ℕ
add_new l x = cond (mem x l) l (l ++ (x ∷ []))

abbrev pub add_all : List ℕ → List ℕ → List ℕ
add_all l [] = l
add_all l (x ∷ xs) = add_all (add_new l x) xs

-- each number of a list once, where it first stands
unfoldable pub distinct : List ℕ → List ℕ
distinct xs = add_all [] xs

-- the distinct sources of node v, by first wire
abbrev pub distinct_sources : List Wire → ℕ → List ℕ
distinct_sources ws v = distinct (sources ws v)

-- the source of the second wire into v
abbrev pub second_source : List Wire → ℕ → ℕ
second_source ws v = get_or (sources ws v) 1 0

-- the table of each node's sources: how many, nine standing for more than eight; the first eight of node v, from 8 v on; and the source
-- of the second wire
pub record Tabled (ws : List Wire) (counts lists seconds : List ℕ) : Type 0 where
  pub counts_long : length counts ≡ 64
  pub lists_long : length lists ≡ 512
  pub seconds_long : length seconds ≡ 64
  pub counted : (v : ℕ) → v < 64 → get_or counts v 0 ≡ min 9 (length (distinct_sources ws v))
  pub listed : (v j : ℕ) → v < 64 → j < 8 → j < length (distinct_sources ws v) → get_or lists (8 * v + j) 0 ≡ get_or (distinct_sources ws v) j 0
  pub second : (v : ℕ) → v < 64 → get_or seconds v 0 ≡ second_source ws v
