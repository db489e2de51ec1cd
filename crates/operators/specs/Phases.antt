-- The phases of a sine's block, and the samples of them. Definitions only.
use Rattle.std.specs.Prelude.{ℕ, suc, ◌<◌, ◌≡◌, List, T, get_or, Float}
use Rattle.values.specs.Floors.{f1, within}
use Rattle.leaves.specs.Phase.{advance}
use Rattle.leaves.specs.Sine.{sine_of, phase_units, over23}

-- a phase from 0 to 1 that moves by `by` stays there
abbrev pub Stays : Float → Type 0
Stays by = (p : Float) → T (within f1 p) → T (within f1 (advance p by))

-- p has the phase at each place: each is the one before it, moved by `by`
abbrev pub Moves : Float → (ℕ → Float) → Type 0
Moves by p = (i : ℕ) → p (suc i) ≡ advance (p i) by

-- the first n of us are those phases in units of 2^-24
abbrev pub Units : (ℕ → Float) → ℕ → List ℕ → Type 0
Units p n us = (j : ℕ) → j < n → get_or us j 0 ≡ phase_units (p j)

-- the sample at place i, where us has the phases
abbrev pub sine_at : List ℕ → ℕ → Float
sine_at us i = over23 (sine_of (get_or us i 0))
