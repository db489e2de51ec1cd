-- Samples, frames and blocks: the float of a sample's bytes, the one that a frame becomes, the block of 4-byte values that a board takes, and the frames
-- that are made of the two blocks that it gives. Definitions only.
use Rattle.std.specs.Prelude.{ℕ, zero, suc, ◌+◌, ◌-◌, ◌*◌, ◌/◌, ◌^◌, false, cond, List, [], ◌∷◌, ◌++◌, length, get_or, ltb, negsuc, Float, Option, None, Some}
use Rattle.std.specs.Float.{fin, binary32}
use Rattle.std.specs.Float.Ieee.{of_bits, to_bits, round, add, mul, neg}
use Rattle.values.specs.Bytes.{u16_at, u24_at, u32_at}
use Rattle.values.specs.Floors.{zero_f, finite_f}
use Rattle.leaves.specs.Converter.{of_word}
use Rattle.wav.specs.Format.{width_of, frame_of}
use Rattle.wav.specs.declared.format.Format.{Format}
use Rattle.wav.specs.declared.format.Coding.{Coding}
use Rattle.wav.specs.declared.format.Coding.TheVariants.{Whole8, Whole16, Whole24, Whole32, Float32}
use Rattle.wav.specs.declared.format.Channels.{Channels}
use Rattle.wav.specs.declared.format.Channels.TheVariants.{Mono, Stereo}
use Rattle.wav.specs.declared.format.Taken.{Taken}
use Rattle.wav.specs.declared.format.Taken.TheVariants.{Mean, Left, Right}

-- a byte, in which 128 is zero, over 128
unfoldable pub byte_of : ℕ → Float
byte_of b = cond (ltb b 128) (neg (round binary32 false (128 - b) 128)) (round binary32 false (b - 128) 128)

-- a whole number of 32 bits, negative from 2^31 on, over 2^31: the nearest float, and of two the even one
unfoldable pub long_of : ℕ → Float
long_of w = cond (ltb w (2 ^ 31)) (round binary32 false w (2 ^ 31)) (neg (round binary32 false (2 ^ 32 - w) (2 ^ 31)))

-- the sample at a byte; one of 24 bits is a converter's word, and one of 16 the upper 16 of 24, so its w over 2^15 is 256 × w over 2^23
abbrev pub sample_of : Coding → List ℕ → ℕ → Float
sample_of Whole8 s at = byte_of (get_or s at 0)
sample_of Whole16 s at = of_word (u16_at s at * 256)
sample_of Whole24 s at = of_word (u24_at s at)
sample_of Whole32 s at = long_of (u32_at s at)
sample_of Float32 s at = of_bits binary32 (u32_at s at)

-- 0.5
abbrev pub f_half : Float
f_half = fin false 1 (negsuc 0)

unfoldable pub halved : Float → Float → Float
halved left right = mul binary32 (add binary32 left right) f_half

-- what two samples are taken as
abbrev pub taken_of : Taken → Float → Float → Float
taken_of Mean left right = halved left right
taken_of Left left right = left
taken_of Right left right = right

-- the one sample that the frame at a byte becomes
abbrev pub sample_as : Channels → Coding → List ℕ → ℕ → Float
sample_as Mono c s at = sample_of c s at
sample_as (Stereo taken) c s at = taken_of taken (sample_of c s at) (sample_of c s (at + width_of c))

unfoldable pub frame_at : Format → List ℕ → ℕ → Float
frame_at f s at = sample_as f.channels f.coding s at

-- ---- the block that a board takes

-- sample i of the frames in s, and zero after the last whole one
abbrev pub sample_in : Format → List ℕ → ℕ → Float
sample_in f s i = cond (ltb i (length s / frame_of f)) (frame_at f s (i * frame_of f)) zero_f

-- of n samples from i on, the first that is infinite or NaN
unfoldable pub first_bad : Format → List ℕ → ℕ → ℕ → Option ℕ
first_bad f s i zero = None
first_bad f s i (suc n) = cond (finite_f (sample_in f s i)) (first_bad f s (suc i) n) (Some i)

-- the values f 0, f 1, .. f (n - 1)
unfoldable pub listed : (ℕ → ℕ) → ℕ → List ℕ
listed f zero = []
listed f (suc n) = listed f n ++ (f n ∷ [])

-- a block of n samples, as 4-byte values
abbrev pub block_of : Format → List ℕ → ℕ → List ℕ
block_of f s n = listed (λ i. to_bits binary32 (sample_in f s i)) n

-- ---- the frames that are made of the two blocks that it gives: left, right, left, right ..

unfoldable pub interleaved : List ℕ → List ℕ → List ℕ
interleaved (l ∷ ls) (r ∷ rs) = l ∷ r ∷ interleaved ls rs
interleaved [] rs = []
interleaved (l ∷ ls) [] = []
