-- A converter's words (document 02, [1]): signed whole numbers of 24 bits, and the samples that they stand for. Definitions only.
--     as_number, as_pattern    a number and its pattern of 24 bits, in which the negative ones stand from 2^23 on
--     of_word                 going in: a word w is the float w / 2^23
--     to_word                 going out: the whole number nearest to 2^23 × x, of two the even one, held at -2^23 and 2^23 - 1; a NaN gives 0
--     triples, floats_of, words_of    blocks of words, three bytes each, the least significant first, and float blocks, four bytes a sample
use Rattle.std.specs.Prelude.{ℕ, suc, ◌+◌, ◌-◌, ◌*◌, ◌^◌, min, Bool, cond, List, [], ◌∷◌, ◌++◌, map, ltb, ℤ, pos, negsuc, neg_ℤ, Float}
use Rattle.std.specs.Float.{nan, inf, fin, binary32}
use Rattle.std.specs.Float.Ieee.{of_bits, to_bits, up, down}
use Rattle.std.specs.Float.Ieee.Nearest.{closest}
use Rattle.values.specs.Bytes.{u24_bytes}
use Rattle.values.specs.Words.{unwords}
use Rattle.leaves.specs.Sine.{over23}

-- the number that a pattern below 2^24 stands for, and the pattern of a number from -2^23 to 2^23 - 1
abbrev pub as_number : ℕ → ℤ
as_number u = cond (ltb u (2 ^ 23)) (pos u) (neg_ℤ (pos (2 ^ 24 - u)))

abbrev pub as_pattern : ℤ → ℕ
as_pattern (pos n) = n
as_pattern (negsuc n) = 2 ^ 24 - suc n

-- the sample of a word's pattern
unfoldable pub of_word : ℕ → Float
of_word u = over23 (as_number u)

-- the size of 2^23 × x for an x of m × 2^e, to the nearest whole number: `closest` of the kit takes numerator and denominator, a tie goes to
-- the even one
abbrev pub nearest_size : ℕ → ℤ → ℕ
nearest_size m e = closest (m * up e * 2 ^ 23) (down e)

-- a size, held at what a word has room for on its side of zero
abbrev pub clipped : Bool → ℕ → ℤ
clipped negative n = cond negative (neg_ℤ (pos (min n (2 ^ 23)))) (pos (min n (2 ^ 23 - 1)))

-- the number that a sample goes out as; an infinity is past every limit
abbrev pub nearest_number : Float → ℤ
nearest_number nan = pos 0
nearest_number (inf s) = clipped s (2 ^ 23)
nearest_number (fin s m e) = clipped s (nearest_size m e)

-- the size of a sample's word, its sign aside: at most 2^23
abbrev pub word_size : Float → ℕ
word_size nan = 0
word_size (inf s) = 2 ^ 23
word_size (fin s m e) = min (nearest_size m e) (2 ^ 23)

-- the pattern of a sample's word
unfoldable pub to_word : Float → ℕ
to_word x = as_pattern (nearest_number x)

-- ---- blocks of words

-- each three bytes as the pattern of a word; one or two bytes at the end stand for no word
unfoldable pub triples : List ℕ → List ℕ
triples [] = []
triples (a ∷ []) = []
triples (a ∷ b ∷ []) = []
triples (a ∷ b ∷ c ∷ m) = (a + b * 256 + c * 65536) ∷ triples m

-- going in: the float block of a packed one, each word as its sample
abbrev pub floats_of : List ℕ → List ℕ
floats_of x = unwords (map (λ u. to_bits binary32 (of_word u)) (triples x))

-- going out: the bytes of the words of samples
unfoldable pub words_of : List ℕ → List ℕ
words_of [] = []
words_of (w ∷ ws) = u24_bytes (to_word (of_bits binary32 w)) ++ words_of ws
