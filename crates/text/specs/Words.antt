-- Words of a line: what parts them, which is which, and how many there are; and the lines of a text. Definitions only.
use Rattle.std.specs.Prelude.{◌≡◌, Bool, false, cond, not, ◌||◌, List, [], ◌∷◌, ℕ, zero, suc, ◌+◌, eqb, take, drop}
use Rattle.text.specs.declared.words.Word.{Word}

-- a space, a tab or a carriage return
abbrev pub is_space : ℕ → Bool
is_space c = (eqb c 32 || eqb c 9) || eqb c 13

-- any other byte
abbrev pub is_word : ℕ → Bool
is_word c = not (is_space c)

-- the byte b
abbrev pub is_byte : ℕ → ℕ → Bool
is_byte b c = eqb c b

-- each call answers what p gives
abbrev pub Tests : (ℕ → Bool → Type 0) → (ℕ → Bool) → Type 0
Tests post p = (c : ℕ) (r : Bool) → post c r → r ≡ p c

-- how many bytes stand before the first that passes
unfoldable pub ahead : (ℕ → Bool) → List ℕ → ℕ
ahead p [] = 0
ahead p (c ∷ s) = cond (p c) 0 (suc (ahead p s))

-- the first word from a place on: where it starts and where it ends
abbrev pub word_from : List ℕ → ℕ → Word
word_from s from = record { from = from; to = from + ahead is_space (drop from s) }

unfoldable pub next_word : List ℕ → ℕ → Word
next_word s at = word_from s (at + ahead is_word (drop at s))

-- a text without the spaces at its start
abbrev pub unspaced : List ℕ → List ℕ
unspaced s = drop (ahead is_word s) s

-- word k of a text, from 0; an empty one where there are fewer
unfoldable pub nth_word : ℕ → List ℕ → List ℕ
nth_word zero s = take (ahead is_space (unspaced s)) (unspaced s)
nth_word (suc k) s = nth_word k (drop (ahead is_space (unspaced s)) (unspaced s))

-- one more if a byte that is no space starts a word: it follows a space, or nothing
abbrev pub begins : Bool → Bool → ℕ
begins inside space = cond (inside || space) 0 1

-- how many words start in a text, of which the first byte may stand inside one
unfoldable pub count_from : Bool → List ℕ → ℕ
count_from inside [] = 0
count_from inside (c ∷ s) = begins inside (is_space c) + count_from (not (is_space c)) s

-- how many words a text has
abbrev pub word_count : List ℕ → ℕ
word_count = count_from false

-- a byte in front of the first of some lines
abbrev pub on_first : ℕ → List (List ℕ) → List (List ℕ)
on_first c [] = (c ∷ []) ∷ []
on_first c (l ∷ ls) = (c ∷ l) ∷ ls

-- the lines of a text, each up to a line feed or to the text's end
unfoldable pub lines_of : List ℕ → List (List ℕ)
lines_of [] = []
lines_of (c ∷ s) = cond (eqb c 10) ([] ∷ lines_of s) (on_first c (lines_of s))
