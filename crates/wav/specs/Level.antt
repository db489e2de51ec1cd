-- Samples that are infinite or NaN, and samples above full scale: how many, and where the first is. Definitions only.
use Rattle.std.specs.Prelude.{◌≡◌, ℕ, zero, suc, ◌+◌, ◌<◌, Bool, cond, not, ◌&&◌, ◌||◌, List, Option, None, Some, Float}
use Rattle.std.specs.Float.Ieee.{lt, neg}
use Rattle.values.specs.Floors.{f1, finite_f}
use Rattle.values.specs.Floats.{float_at}
use Rattle.wav.specs.declared.level.Count.{Count}

-- infinite or NaN
abbrev pub not_finite_f : Float → Bool
not_finite_f x = not (finite_f x)

-- finite, and above 1 or below -1
unfoldable pub loud_f : Float → Bool
loud_f x = finite_f x && (lt f1 x || lt x (neg f1))

-- the first of the places: the one that was found before, else this
abbrev pub first_of : Option ℕ → ℕ → Option ℕ
first_of None at = Some at
first_of (Some first) at = Some first

-- one sample more, at a place: it is counted if it is what is looked for, and its place is kept if it is the first
abbrev pub more : Bool → ℕ → Count → Count
more found at c = cond found (record { count = c.count + 1; first = first_of c.first at }) c

-- the first n of some values, of which value i stands at the place from + i, after what was counted before them
unfoldable pub counted : (Float → Bool) → List ℕ → ℕ → Count → ℕ → Count
counted faulty values from before zero = before
counted faulty values from before (suc n) = more (faulty (float_at values n)) (from + n) (counted faulty values from before n)

-- a test that answers at the first n of some values as the predicate says
abbrev pub Tells : (Float → Bool → Type 0) → (Float → Bool) → List ℕ → ℕ → Type 0
Tells answers faulty values n = (k : ℕ) (r : Bool) → k < n → answers (float_at values k) r → r ≡ faulty (float_at values k)
