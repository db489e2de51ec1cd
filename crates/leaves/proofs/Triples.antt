-- Words of three bytes in a list of bytes.
--     length-triples, triples_at    how many there are, and which; triples_lt, and they have 24 bits
--     floats_long                   the length of the float block
--     triples_words                 the words in a block that was given
--     words_back                    a block of words that is taken and straight given comes back unchanged
-- Assumes nothing.
use Prim.Native.Nat.{ℕ, zero, suc, ◌+◌, ◌*◌, ◌/◌, ◌%◌, ◌^◌, ◌≤◌, ◌<◌}
use mathlib.Core.Path.{◌≡◌, refl, ap, ◌∙◌}
use mathlib.Core.List.{List, [], ◌∷◌, ◌++◌, map}
use native.Mathlib.Omega.{arith}
use lib.Dec.{lit<}
use lib.Ieee.{binary32, of_bits, to_bits}
use lib.Ieee.Bits.{of_bits-to_bits}
use lib.ListN.{length, get_or, length-map}
use Rattle.values.specs.Bytes.{u24_at, u24_bytes}
use Rattle.values.specs.Words.{Bytes, words, words-unwords, length-unwords}
use Rattle.leaves.specs.Converter.{of_word, to_word, triples, floats_of, words_of}
use Rattle.leaves.proofs.WordLaws.{word_fits, word_lt, word_back}

pub length-triples : (x : List ℕ) → length (triples x) ≡ length x / 3
unfolding triples
length-triples [] = refl
length-triples (a ∷ []) = refl
length-triples (a ∷ b ∷ []) = refl
length-triples (a ∷ b ∷ c ∷ x) = omega (arith, length-triples x)

pub floats_long : (x : List ℕ) (n : ℕ) → length x ≡ 3 * n → length (floats_of x) ≡ 4 * n
floats_long x n e =
    let ws = map (λ u. to_bits binary32 (of_word u)) (triples x) in
    omega (arith, length-unwords ws, length-map (triples x) (λ u. to_bits binary32 (of_word u)), length-triples x)

-- the bytes of word k + 1 lie three places on from those of word k
three_on : (k j : ℕ) → 3 * suc k + j ≡ suc (suc (suc (3 * k + j)))
three_on k j = omega arith

three : (k : ℕ) → 3 * suc k ≡ suc (suc (suc (3 * k)))
three k = omega arith

pub triples_at : (x : List ℕ) (k : ℕ) → 3 * k + 3 ≤ length x → get_or (triples x) k 0 ≡ u24_at x (3 * k)
unfolding triples
triples_at [] k h = absurd (omega arith)
triples_at (a ∷ []) k h = absurd (omega arith)
triples_at (a ∷ b ∷ []) k h = absurd (omega arith)
triples_at (a ∷ b ∷ c ∷ x) zero h = refl
triples_at (a ∷ b ∷ c ∷ x) (suc k) h = rw (three_on k 1, three_on k 2, three k) (triples_at x k (omega arith))

-- each is a word
pub triples_lt : (x : List ℕ) → Bytes x → (k : ℕ) → get_or (triples x) k 0 < 2 ^ 24
unfolding triples
triples_lt [] h k = lit< tt
triples_lt (a ∷ []) h k = lit< tt
triples_lt (a ∷ b ∷ []) h k = lit< tt
triples_lt (a ∷ b ∷ c ∷ x) h zero = omega (arith, h 0, h 1, h 2)
triples_lt (a ∷ b ∷ c ∷ x) h (suc k) = triples_lt x (λ j. h (suc (suc (suc j)))) k

-- the words that stand in a block that was given
pub triples_words : (ws : List ℕ) → triples (words_of ws) ≡ map (λ w. to_word (of_bits binary32 w)) ws
unfolding triples words_of
triples_words [] = refl
triples_words (w ∷ ws) =
    let u = to_word (of_bits binary32 w) in
    let whole : u % 256 + u / 256 % 256 * 256 + u / 65536 % 256 * 65536 ≡ u = omega (arith, word_lt (of_bits binary32 w)) in
    λ i. whole i ∷ triples_words ws i

-- the word of a word's sample, by way of its pattern
sent_back : (u : ℕ) → u < 2 ^ 24 → to_word (of_bits binary32 (to_bits binary32 (of_word u))) ≡ u
sent_back u h = ap to_word (of_bits-to_bits binary32 (of_word u) (word_fits u)) ∙ word_back u h

back : (x : List ℕ) → Bytes x → (n : ℕ) → length x ≡ 3 * n → words_of (map (λ u. to_bits binary32 (of_word u)) (triples x)) ≡ x
unfolding triples words_of
back [] h n e = refl
back (a ∷ []) h n e = absurd (omega arith)
back (a ∷ b ∷ []) h n e = absurd (omega arith)
back (a ∷ b ∷ c ∷ x) h zero e = absurd (omega arith)
back (a ∷ b ∷ c ∷ x) h (suc n) e =
    let u = a + b * 256 + c * 65536 in
    let small : u < 2 ^ 24 = omega (arith, h 0, h 1, h 2) in
    let low : u % 256 ≡ a = omega (arith, h 0, h 1, h 2) in
    let middle : u / 256 % 256 ≡ b = omega (arith, h 0, h 1, h 2) in
    let high : u / 65536 % 256 ≡ c = omega (arith, h 0, h 1, h 2) in
    ap (λ (v : ℕ). u24_bytes v ++ words_of (map (λ w. to_bits binary32 (of_word w)) (triples x))) (sent_back u small)
    ∙ (λ i. low i ∷ middle i ∷ high i ∷ back x (λ k. h (suc (suc (suc k)))) n (omega arith) i)

pub words_back : (x : List ℕ) → Bytes x → (n : ℕ) → length x ≡ 3 * n → words_of (words (floats_of x)) ≡ x
words_back x h n e = ap words_of (words-unwords (map (λ u. to_bits binary32 (of_word u)) (triples x))) ∙ back x h n e
