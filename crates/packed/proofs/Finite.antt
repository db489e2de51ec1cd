-- The samples of words are finite (`word_finite`), so a block of them passes check 10 (`words_finite`). Assumes nothing.
use Prim.Native.Nat.{ℕ, suc, ◌+◌, ◌*◌, ◌^◌, ◌<◌}
use mathlib.Core.Path.{◌≡◌, refl, ◌∙◌}
use mathlib.Core.Bool.{Bool, true}
use mathlib.Core.List.{List, [], ◌∷◌, map}
use native.Mathlib.Omega.{arith}
use lib.Ieee.{Float, nan, inf, fin, binary32, to_bits}
use lib.Ieee.Exact.{HasValue}
use Rattle.values.specs.Words.{Bytes, words, words-unwords}
use Rattle.values.specs.Floats.{finite_bits}
use Rattle.values.specs.Floors.{finite_f}
use Rattle.values.proofs.Patterns.{pattern_finite}
use Rattle.leaves.specs.Converter.{of_word, triples, floats_of}
use Rattle.leaves.proofs.WordLaws.{word_exact, word_fits}
use Rattle.memory.specs.Memory.{passed}
use Rattle.context.specs.Block.{check_samples}

-- ---- one word

-- what has a value is finite
valued : (x : Float) (s : Bool) (a c : ℕ) → HasValue x s a c → finite_f x ≡ true
valued nan s a c v = absurd v
valued (inf t) s a c v = absurd v
valued (fin t m e) s a c v = refl

pub word_finite : (u : ℕ) → u < 2 ^ 24 → finite_bits (to_bits binary32 (of_word u)) ≡ true
word_finite u h = pattern_finite (of_word u) (word_fits u) ∙ valued (of_word u) _ _ _ (word_exact u h)

-- ---- a block

samples_finite : (x : List ℕ) → Bytes x → (i : ℕ) → check_samples i (map (λ u. to_bits binary32 (of_word u)) (triples x)) ≡ passed
unfolding triples check_samples
samples_finite [] h i = refl
samples_finite (a ∷ []) h i = refl
samples_finite (a ∷ b ∷ []) h i = refl
samples_finite (a ∷ b ∷ c ∷ x) h i =
    let small : a + b * 256 + c * 65536 < 2 ^ 24 = omega (arith, h 0, h 1, h 2) in
    rw (word_finite (a + b * 256 + c * 65536) small) (samples_finite x (λ k. h (suc (suc (suc k)))) (suc i))

pub words_finite : (x : List ℕ) → Bytes x → check_samples 0 (words (floats_of x)) ≡ passed
words_finite x h = rw words-unwords (samples_finite x h 0)
