-- What is written of a board's frames. Definitions only.
use Rattle.std.specs.Prelude.{ℕ, List}
use Rattle.values.specs.Words.{words}
use Rattle.leaves.specs.Converter.{words_of}
use Rattle.wav.specs.Header.{header_of, word_header_of}
use Rattle.render.specs.declared.written.Written.{Written}
use Rattle.render.specs.declared.written.Written.TheVariants.{Floats, Words}

-- the most frames of two samples that a file has room for: its length after the first 8 bytes is below 2^32
abbrev pub most_frames : Written → ℕ
most_frames Floats = 536870905
most_frames Words = 715827876

-- the bytes before so many frames
abbrev pub head_of : Written → ℕ → List ℕ
head_of Floats frames = header_of frames
head_of Words frames = word_header_of frames

-- the bytes of some frames of floats: as they are, or each float as its word of 24 bits
abbrev pub written_of : Written → List ℕ → List ℕ
written_of Floats frames = frames
written_of Words frames = words_of (words frames)
