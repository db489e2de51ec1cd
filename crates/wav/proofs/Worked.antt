-- Worked values, under one statement: the ends of the whole numbers, a stereo frame, and the formats of the files that are written, which are read again.
-- Assumes nothing.
use mathlib.Core.Path.{◌≡◌, refl}
use mathlib.Core.Bool.{true, false}
use Rattle.std.proofs.Common.{Ok}
use mathlib.Core.List.{[], ◌∷◌}
use lib.IntN.{pos, negsuc}
use lib.Ieee.{fin, add, mul, neg, round}
use Rattle.leaves.specs.Sine.{over23}
use Rattle.leaves.specs.Converter.{of_word}
use Rattle.wav.specs.Format.{judged_coding, judged_as, format_of}
use Rattle.wav.specs.Frames.{byte_of, long_of, sample_of, halved, frame_at}
use Rattle.wav.specs.Header.{float_format, word_format}
use Rattle.wav.specs.declared.format.Coding.TheVariants.{Whole8, Whole16, Whole24, Whole32, Float32}
use Rattle.wav.specs.declared.format.Taken.TheVariants.{Mean, Right}
use Rattle.wav.specs.declared.format.Channels.TheVariants.{Stereo}

pub record Worked : Type 0 where
  -- 8000 is -1, FFFFFF is -1 / 2^23, 400000 is 1/2
  pub lowest : sample_of Whole16 (0 ∷ 128 ∷ []) 0 ≡ fin true 1 (pos 0)
  pub below-zero : sample_of Whole24 (255 ∷ 255 ∷ 255 ∷ []) 0 ≡ fin true 1 (negsuc 22)
  pub middle : sample_of Whole24 (0 ∷ 0 ∷ 64 ∷ []) 0 ≡ fin false 1 (negsuc 0)
  -- a byte of 0 is -1, and of 128 zero
  pub lowest_byte : sample_of Whole8 (0 ∷ []) 0 ≡ fin true 1 (pos 0)
  pub zero_byte : sample_of Whole8 (128 ∷ []) 0 ≡ fin false 0 (pos 0)
  -- 80000000 is -1, and 7FFFFFFF is nearest to 1
  pub lowest_long : sample_of Whole32 (0 ∷ 0 ∷ 0 ∷ 128 ∷ []) 0 ≡ fin true 1 (pos 0)
  pub highest_long : sample_of Whole32 (255 ∷ 255 ∷ 255 ∷ 127 ∷ []) 0 ≡ fin false 1 (pos 0)
  -- 1/2 and -1 become -1/4, and -1 if the right is taken alone
  pub mean : frame_at (record { coding = Whole16; channels = Stereo Mean }) (0 ∷ 64 ∷ 0 ∷ 128 ∷ []) 0 ≡ fin true 1 (negsuc 1)
  pub right_alone : frame_at (record { coding = Whole16; channels = Stereo Right }) (0 ∷ 64 ∷ 0 ∷ 128 ∷ []) 0 ≡ fin true 1 (pos 0)
  pub floats_are_read : format_of float_format ≡ Ok (record { coding = Float32; channels = Stereo Mean })
  pub words_are_read : format_of word_format ≡ Ok (record { coding = Whole24; channels = Stereo Mean })

pub worked : Worked
unfolding of_word byte_of long_of over23 neg round frame_at halved add mul format_of judged_as judged_coding
worked =
    record {
      lowest = refl;
      below-zero = refl;
      middle = refl;
      lowest_byte = refl;
      zero_byte = refl;
      lowest_long = refl;
      highest_long = refl;
      mean = refl;
      right_alone = refl;
      floats_are_read = refl;
      words_are_read = refl;
    }
