-- The body of a fmt chunk: what the samples are, or why they are not read. Definitions only.
use Rattle.std.specs.Prelude.{ℕ, ◌*◌, cond, List, Result, Ok, Err, length, eqb, ltb}
use Rattle.values.specs.Bytes.{u16_at, u32_at}
use Rattle.wav.specs.declared.format.Format.{Format}
use Rattle.wav.specs.declared.format.Coding.{Coding}
use Rattle.wav.specs.declared.format.Coding.TheVariants.{Whole8, Whole16, Whole24, Whole32, Float32}
use Rattle.wav.specs.declared.format.Channels.{Channels}
use Rattle.wav.specs.declared.format.Channels.TheVariants.{Mono, Stereo}
use Rattle.wav.specs.declared.format.Taken.TheVariants.{Mean}
use Rattle.wav.specs.declared.format.FormatError.{FormatError}
use Rattle.wav.specs.declared.format.FormatError.TheVariants.{Short, Tag, Channels as Channels', Rate, Bits, Frame}

-- the bytes of a sample and of a frame
abbrev pub width_of : Coding → ℕ
width_of Whole8 = 1
width_of Whole16 = 2
width_of Whole24 = 3
width_of Whole32 = 4
width_of Float32 = 4

abbrev pub frame_width : Channels → ℕ → ℕ
frame_width Mono w = w
frame_width (Stereo t) w = 2 * w

abbrev pub frame_of : Format → ℕ
frame_of f = frame_width f.channels (width_of f.coding)

-- tag 1 is whole numbers of 8, 16, 24 or 32 bits, tag 3 floats of 32
abbrev pub whole_coded : ℕ → Result Coding FormatError
whole_coded bits =
    cond (eqb bits 8) (Ok Whole8)
    (cond (eqb bits 16) (Ok Whole16) (cond (eqb bits 24) (Ok Whole24) (cond (eqb bits 32) (Ok Whole32) (Err (Bits bits)))))

abbrev pub coded_of : ℕ → ℕ → Result Coding FormatError
coded_of tag bits =
    cond (eqb tag 1) (whole_coded bits)
    (cond (eqb tag 3) (cond (eqb bits 32) (Ok Float32) (Err (Bits bits))) (Err (Tag tag)))

-- ---- the body: tag (bytes 0, 1), channels (2, 3), rate (4 to 7), bytes a frame (12, 13), bits a sample (14, 15); two channels are taken as their mean

abbrev pub judged_frame : Format → ℕ → Result Format FormatError
judged_frame f frame = cond (eqb frame (frame_of f)) (Ok f) (Err (Frame frame))

abbrev pub judged_coded : List ℕ → Channels → Result Coding FormatError → Result Format FormatError
judged_coded s channels (Ok c) = judged_frame (record { coding = c; channels = channels }) (u16_at s 12)
judged_coded s channels (Err e) = Err e

unfoldable pub judged_coding : List ℕ → ℕ → Channels → Result Format FormatError
judged_coding s tag channels = judged_coded s channels (coded_of tag (u16_at s 14))

abbrev pub judged_channels : List ℕ → ℕ → Result Format FormatError
judged_channels s tag =
    cond (eqb (u16_at s 2) 1) (judged_coding s tag Mono)
    (cond (eqb (u16_at s 2) 2) (judged_coding s tag (Stereo Mean)) (Err (Channels' (u16_at s 2))))

unfoldable pub judged_as : List ℕ → ℕ → Result Format FormatError
judged_as s tag = cond (eqb (u32_at s 4) 44100) (judged_channels s tag) (Err (Rate (u32_at s 4)))

-- the tag FFFE, of a body of 40 bytes, has the true tag in bytes 24 and 25
unfoldable pub format_of : List ℕ → Result Format FormatError
format_of s =
    cond (ltb (length s) 16) (Err Short)
    (cond (eqb (u16_at s 0) 65534) (cond (ltb (length s) 40) (Err Short) (judged_as s (u16_at s 24))) (judged_as s (u16_at s 0)))
