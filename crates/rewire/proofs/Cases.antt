-- Lines of changes by computation: "+ 3 0", "- 12 65535", a node's number that is too large, a word too many, and an empty line. Assumes
-- nothing.
use mathlib.Core.Path.{◌≡◌, refl}
use mathlib.Core.List.{[], ◌∷◌}
use Rattle.decimals.specs.Number.{digit_of, read_from, whole_of}
use Rattle.text.specs.Words.{ahead, nth_word}
use Rattle.std.specs.Prelude.{Some, None, Ok}
use Rattle.rewire.specs.declared.change.Request.TheVariants.{Add, Pull}
use Rattle.rewire.specs.Change.{no_change, change_of}

pub adds : change_of (43 ∷ 32 ∷ 51 ∷ 32 ∷ 48 ∷ []) ≡ Ok (Some (Add 3 0))
unfolding change_of nth_word ahead whole_of read_from digit_of
adds = refl

pub pulls : change_of (45 ∷ 32 ∷ 49 ∷ 50 ∷ 32 ∷ 54 ∷ 53 ∷ 53 ∷ 51 ∷ 53 ∷ []) ≡ Ok (Some (Pull 12 65535))
unfolding change_of nth_word ahead whole_of read_from digit_of
pulls = refl

pub too_large : change_of (43 ∷ 32 ∷ 54 ∷ 53 ∷ 53 ∷ 51 ∷ 54 ∷ 32 ∷ 48 ∷ []) ≡ no_change
unfolding change_of nth_word ahead whole_of read_from digit_of
too_large = refl

pub word_behind : change_of (43 ∷ 32 ∷ 51 ∷ 32 ∷ 48 ∷ 32 ∷ 43 ∷ []) ≡ no_change
unfolding change_of nth_word ahead whole_of read_from digit_of
word_behind = refl

pub nothing : change_of (32 ∷ 13 ∷ []) ≡ Ok None
unfolding change_of nth_word ahead
nothing = refl
