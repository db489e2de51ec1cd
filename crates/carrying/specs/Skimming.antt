-- The carried walk as the code takes it, in arrays, over a table of sources that has the wire: the new board's table when a wire is added,
-- the old board's when one is pulled. Definitions only.
use Rattle.std.specs.Prelude.{◌≡◌, ℕ, zero, suc, ◌+◌, ◌*◌, ◌<◌, ◌≤◌, Bool, true, false, ◌&&◌, List, [], eqb, length, get_or, take, drop}
use Rattle.reading.specs.Table.{mem}
use Rattle.reading.specs.Order.{Wire, sources, Once}
use Rattle.reading.specs.Visit.{choose}
use Rattle.boards.specs.Wires.{Within}
use Rattle.graph.specs.Walking.{Table, Gathered, unmarked}
use Rattle.graph.specs.Visit.{visiting_list, Lists}
use Rattle.graph.specs.Listed.{SourcesBelow}
use Rattle.graph.specs.Late.{Placed}
use Rattle.carrying.specs.Carried.{Way, Carried, Change, mark, enter, through, lay, on_way, copies, copy, turn, added, wired, pulled}
use Rattle.carrying.specs.declared.carried.Ground.{Ground}
use Rattle.carrying.specs.declared.carried.Walk.{Walk}

-- ---- the walk over one table T, in which the target has the source once

abbrev pub edit : Bool → ℕ → ℕ → Change
edit adding s t = record { adding = adding; source = s; target = t; front = []; back = [] }

-- to the source x of node k: the change itself is where the target meets the source
abbrev pub go_at : (ℕ → Carried → Carried) → Change → ℕ → ℕ → Carried → Carried
go_at g d k x c = choose (eqb k d.target && eqb x d.source) (λ _. turn g d c) (λ _. g x c)

abbrev pub skim_all : (ℕ → List ℕ) → Change → ℕ → ℕ → Carried → Carried
skim_all T d zero k c = c
skim_all T d (suc f) k c =
    choose (c.way.marks k) (λ _. c)
    (λ _. choose (copies d k c) (λ _. copy k c) (λ _. on_way (enter k) (through (go_at (skim_all T d f) d k) (T k) (on_way (mark k) c))))

-- ---- arrays

-- the table of the two arrays
pub record Holds (T : ℕ → List ℕ) (counts lists : List ℕ) : Type 0 where
  pub size : (v : ℕ) → v < 64 → get_or counts v 0 ≡ length (T v)
  pub source : (v j : ℕ) → v < 64 → j < get_or counts v 0 → get_or lists (8 * v + j) 0 ≡ get_or (T v) j 0

-- the marks m, and the first c nodes of l, stand for a walk under way
pub record Shows (m : List Bool) (l : List ℕ) (c : ℕ) (w : Way) : Type 0 where
  pub marks : (u : ℕ) → u < 64 → get_or m u false ≡ w.marks u
  pub list : take c l ≡ w.listed

-- and with the old list from the place at on for a carried one
pub record Stands (old : List ℕ) (size : ℕ) (m : List Bool) (l : List ℕ) (count at : ℕ) (c : Carried) : Type 0 where
  pub shows : Shows m l count c.way
  pub rest : c.rest ≡ drop at (take size old)

-- the old list in its array, and each node's place there
pub record Old (old places : List ℕ) (size : ℕ) : Type 0 where
  pub long : length old ≡ 64
  pub fits : size ≤ 64
  pub below : Within 64 old size
  pub once : Once (take size old)
  pub placed : Placed (take size old) places

-- marks that the list has room for
pub record Room (m : List Bool) (count : ℕ) : Type 0 where
  pub marks_size : length m ≡ 64
  pub room : count + unmarked m ≤ 64

-- from m, count to m', count'
pub record Grown (m : List Bool) (count : ℕ) (m' : List Bool) (count' : ℕ) : Type 0 where
  pub marks_kept : length m' ≡ length m
  pub fewer : unmarked m' ≤ unmarked m
  pub total : count' + unmarked m' ≡ count + unmarked m

-- what `lay_part` leaves: the part of the old list from a place to another is copied
pub record LaidPart (old : List ℕ) (start end : ℕ) (m : List Bool) (l : List ℕ) (count : ℕ) (m' : List Bool) (l' : List ℕ) (count' : ℕ) : Type 0 where
  pub grown : Grown m count m' count'
  pub shows : (w : Way) → Shows m l count w → Shows m' l' count' (lay (drop start (take end old)) w)

-- what `skim` asks
pub record Asks (counts lists old places : List ℕ) (size source target node : ℕ) (m : List Bool) (count at : ℕ) : Type 0 where
  pub table : Table counts lists
  pub was : Old old places size
  pub node_in : node < 64
  pub source_in : source < 64
  pub target_in : target < 64
  pub room : Room m count
  pub unseen : get_or m node false ≡ false
  pub at_in : at ≤ size

-- what `skim` leaves: the carried walk, at every depth that suffices
pub record Skimmed (counts lists old : List ℕ) (size : ℕ) (adding : Bool) (source target node : ℕ) (m : List Bool) (l : List ℕ) (count at : ℕ) (m' : List Bool) (l' : List ℕ)
    (count' at' : ℕ) : Type 0 where
  pub grown : Grown m count m' count'
  pub at_in : at' ≤ size
  pub walk : (T : ℕ → List ℕ) → Holds T counts lists → (k : ℕ) → unmarked m ≤ k → (c : Carried) → Stands old size m l count at c
      → Stands old size m' l' count' at' (skim_all T (edit adding source target) k node c)

-- both of the code's structs
abbrev pub AsksOf : Ground → ℕ → Walk → Type 0
AsksOf g node w =
    Asks g.sources.now.counts g.sources.now.lists g.old.now.nodes g.places.now.at g.old.now.count g.change.source g.change.target node w.marks w.order.count w.at

abbrev pub SkimmedBy : Ground → ℕ → Walk → Walk → Type 0
SkimmedBy g node w w' =
    Skimmed g.sources.now.counts g.sources.now.lists g.old.now.nodes g.old.now.count g.change.adding g.change.source g.change.target node
    w.marks w.order.nodes w.order.count w.at w'.marks w'.order.nodes w'.order.count w'.at

-- ---- the call

-- what `carried_list` gives, in an array and a count: with a wire that is no repetition added, from the table of the board with it; or
-- with the only such wire pulled, from the table of the board that still has it
pub record Carries (counts lists old : List ℕ) (size : ℕ) (adding : Bool) (s t : ℕ) (nodes : List ℕ) (count : ℕ) : Type 0 where
  pub added_list : adding ≡ true → (ws : List Wire) → SourcesBelow ws 64 → mem s (sources ws t) ≡ false → Gathered (added ws s t) counts lists
      → take size old ≡ visiting_list ws → Lists (visiting_list (added ws s t)) nodes count
  pub pulled_list : adding ≡ false → (ws : List Wire) → wired ws s t ≡ true → mem s (sources (pulled ws s t) t) ≡ false → Gathered ws counts lists
      → take size old ≡ visiting_list ws → Lists (visiting_list (pulled ws s t)) nodes count
