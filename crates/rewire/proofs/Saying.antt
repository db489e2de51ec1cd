-- What a line says, by its words. Assumes nothing.
use mathlib.Core.Path.{◌≡◌, refl}
use mathlib.Core.List.{List, [], ◌∷◌}
use Prim.Native.Nat.{ℕ}
use native.Mathlib.Omega.{arith}
use lib.ListN.{length, get_or}
use Rattle.std.specs.Prelude.{Option, Ok, None}
use Rattle.rewire.specs.Change.{no_change, by_numbers, by_words}

module _ (s t : Option ℕ) where
  pub no_words : (w more : List ℕ) → length w ≡ 0 → Ok None ≡ by_words w s t more
  no_words [] more e = refl
  no_words (c ∷ w) more e = absurd (omega arith)

  pub long_sign : (w more : List ℕ) → (length w ≡ 0 → ⊥) → (length w ≡ 1 → ⊥) → no_change ≡ by_words w s t more
  long_sign [] more a b = absurd (a refl)
  long_sign (c ∷ []) more a b = absurd (b refl)
  long_sign (c ∷ d ∷ w) more a b = refl

  pub more_words : (w more : List ℕ) → length w ≡ 1 → (length more ≡ 0 → ⊥) → no_change ≡ by_words w s t more
  more_words [] more e a = absurd (omega arith)
  more_words (c ∷ []) [] e a = absurd (a refl)
  more_words (c ∷ []) (d ∷ more) e a = refl
  more_words (c ∷ d ∷ w) more e a = absurd (omega arith)

  pub three_words : (w more : List ℕ) → length w ≡ 1 → length more ≡ 0 → by_words w s t more ≡ by_numbers (get_or w 0 0) s t
  three_words [] more e a = absurd (omega arith)
  three_words (c ∷ []) [] e a = refl
  three_words (c ∷ []) (d ∷ more) e a = absurd (omega arith)
  three_words (c ∷ d ∷ w) more e a = absurd (omega arith)
