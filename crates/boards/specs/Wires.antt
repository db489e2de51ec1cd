-- Arrays that are filled from the front: node numbers, and wires as pairs of a source and a target. Definitions only.
use Rattle.std.specs.Prelude.{ℕ, ◌<◌, List, map, take, get_or}
use Rattle.reading.specs.Order.{Wire, wire}

-- the first w numbers of l are below n
abbrev pub Within : ℕ → List ℕ → ℕ → Type 0
Within n l w = (j : ℕ) → j < w → get_or l j 0 < n

-- the first w wires of l join nodes below n
abbrev pub Joined : ℕ → List (ℕ × ℕ) → ℕ → Type 0
Joined n l w = (j : ℕ) → j < w → ((get_or l j (0, 0)).0 < n) × ((get_or l j (0, 0)).1 < n)

abbrev pub wire_of : ℕ × ℕ → Wire
wire_of p = wire p.0 p.1

-- the first n wires
abbrev pub wires_of : List (ℕ × ℕ) → ℕ → List Wire
wires_of l n = map wire_of (take n l)
