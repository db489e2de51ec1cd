-- Arrays filled from the front, with one more: numbers within a limit, and wires. Assumes nothing.
use Rattle.std.specs.Prelude.{map}
use Prim.Native.Nat.{ℕ, ◌+◌, ◌≤◌, ◌<◌}
use mathlib.Core.Path.{◌≡◌, ap, ◌∙◌}
use mathlib.Core.List.{List, [], ◌∷◌, ◌++◌}
use native.Mathlib.Omega.{arith}
use borrow.Author.Count.{below_more}
use lib.ListN.{length, get_or, set, take}
use lib.Seq.{get_or-set_same, get_or-set_other, length-take-le}
use Rattle.std.proofs.lemmas.List.{map-append, length-map, take_more, take_more_set}
use Rattle.reading.specs.Order.{wire}
use Rattle.boards.specs.Wires.{Within, Joined, wire_of, wires_of}

-- a number stored at the next place
pub within_more : (n : ℕ) (l : List ℕ) (w a : ℕ) → w < length l → a < n → Within n l w → Within n (set l w a) (w + 1)
within_more n l w a p q h =
    below_more _ _
    (λ j b. let other : j ≡ w → ⊥ = λ e. omega arith in rw (get_or-set_other l w j a 0 other) (h j b))
    (rw (get_or-set_same l w a 0 p) q)

-- a wire stored at the next place
pub joined_more : (n : ℕ) (l : List (ℕ × ℕ)) (w a t : ℕ) → w < length l → a < n → t < n → Joined n l w → Joined n (set l w (a, t)) (w + 1)
joined_more n l w a t p qa qt h =
    below_more _ _
    (λ j b. let other : j ≡ w → ⊥ = λ e. omega arith in rw (get_or-set_other l w j (a, t) (0, 0) other) (h j b))
    (rw (get_or-set_same l w (a, t) (0, 0) p) (qa, qt))

-- the wire at place n, after those before it
pub wires_snoc : (l : List (ℕ × ℕ)) (n : ℕ) → n < length l → wires_of l (n + 1) ≡ wires_of l n ++ (wire_of (get_or l n (0, 0)) ∷ [])
wires_snoc l n h = ap (map wire_of) (take_more l n (0, 0) h) ∙ map-append wire_of (take n l) (get_or l n (0, 0) ∷ [])

-- one wire more is stored
pub wires_stored : (l : List (ℕ × ℕ)) (w a t : ℕ) → w < length l → wires_of (set l w (a, t)) (w + 1) ≡ wires_of l w ++ (wire a t ∷ [])
wires_stored l w a t h = ap (map wire_of) (take_more_set l w (a, t) h) ∙ map-append wire_of (take w l) ((a, t) ∷ [])

pub wires_length : (l : List (ℕ × ℕ)) (n : ℕ) → n ≤ length l → length (wires_of l n) ≡ n
wires_length l n h = length-map (take n l) wire_of ∙ length-take-le n l h
