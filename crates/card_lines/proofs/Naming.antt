-- No name of a card's lines is the empty word. Assumes nothing.
use Rattle.std.proofs.Common.{◌≡◌, refl, ℕ, List, [], ◌∷◌, true, length, arith}
use Rattle.std.specs.Prelude.{None}
use borrow.Author.Tests.{eqb-true}
use lib.Dec.{eqb}
use Rattle.card_lines.specs.Names.{named}

pub no_word : (word : List ℕ) → eqb (length word) 0 ≡ true → named word ≡ None
unfolding named
no_word [] e = refl
no_word (c ∷ word) e = absurd (omega (arith, eqb-true (length (c ∷ word)) 0 e))
