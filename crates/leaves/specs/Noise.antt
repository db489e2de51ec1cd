-- The noise of the end-of-line rig (document 02, [2]): the 32-bit xorshift generator of Marsaglia's paper, on whole numbers, and the sample of
-- each of its steps. Definitions only.
--     default_start, start_of    the start that is meant where none is given, or zero
--     xorshift                   a step: left 13, right 17, left 5
--     state_after                the state after so many steps
--     sample_of                  a state's sample
--     samples, noise_block       the samples of so many steps, as patterns and as the bytes of a float block
--     Proper                     what is shown of a state and its sample after any number of steps from any start
use Rattle.std.specs.Prelude.{ℕ, zero, suc, ◌-◌, ◌*◌, ◌/◌, ◌%◌, ◌^◌, ◌<◌, cond, eqb, ltb, List, [], ◌∷◌, pos, ◌-ℤ◌, bit_xor, Float}
use Rattle.std.specs.Float.{binary32, minus_one, ◌≤ᶠ◌, ◌<ᶠ◌}
use Rattle.std.specs.Float.Ieee.{to_bits}
use Rattle.std.specs.Float.Ieee.Exact.{HasValue}
use Rattle.values.specs.Floors.{f1}
use Rattle.values.specs.Words.{unwords}
use Rattle.leaves.specs.Sine.{over23}

-- ---- the state, a number below 2^32

abbrev pub default_start : ℕ
default_start = 2463534242

abbrev pub start_of : ℕ → ℕ
start_of given = cond (eqb given 0) default_start given

-- a state's bits, each turned where the one k places below it, or above it, is set
abbrev pub left : ℕ → ℕ → ℕ
left k s = bit_xor s (s * 2 ^ k % 2 ^ 32)

abbrev pub right : ℕ → ℕ → ℕ
right k s = bit_xor s (s / 2 ^ k)

unfoldable pub xorshift : ℕ → ℕ
xorshift s = left 5 (right 17 (left 13 s))

unfoldable pub state_after : ℕ → ℕ → ℕ
state_after zero s = s
state_after (suc n) s = state_after n (xorshift s)

-- ---- the samples

-- the upper 24 bits
abbrev pub upper : ℕ → ℕ
upper s = s / 2 ^ 8

-- less 2^23, over 2^23
unfoldable pub sample_of : ℕ → Float
sample_of s = over23 (pos (upper s) -ℤ pos (2 ^ 23))

-- a step, and then its sample
unfoldable pub samples : ℕ → ℕ → List ℕ
samples zero s = []
samples (suc n) s = to_bits binary32 (sample_of (xorshift s)) ∷ samples n (xorshift s)

abbrev pub noise_block : ℕ → ℕ → List ℕ
noise_block n s = unwords (samples n s)

-- ---- what is shown of them

-- how far k is from 2^23
abbrev pub apart : ℕ → ℕ
apart k = cond (ltb k (2 ^ 23)) (2 ^ 23 - k) (k - 2 ^ 23)

pub record Proper (s : ℕ) : Type 0 where
  pub not_zero : 0 < s
  pub in_32_bits : s < 2 ^ 32
  pub at_least : minus_one ≤ᶠ sample_of s
  pub below : sample_of s <ᶠ f1
  -- nothing is lost: with the sign of the difference, its size over 2^23 is the sample's value
  pub exact : HasValue (sample_of s) (ltb (upper s) (2 ^ 23)) (apart (upper s)) (2 ^ 23)
