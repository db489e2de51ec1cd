-- What stands before the frames of a WAV file that is written, in floats of 32 bits or in words of 24, both in stereo at 44,100 Hz. Definitions only.
use Rattle.std.specs.Prelude.{ℕ, ◌+◌, ◌*◌, List, ◌++◌, length}
use Rattle.values.specs.Bytes.{u16_bytes, u32_bytes}
use Rattle.wav.specs.Chunk.{RIFF, WAVE, fmt, fact, data'}

-- ---- common to both

-- a format by its tag: 2 channels; 44,100 frames a second, of so many bytes; so many bits a sample
abbrev pub format_body : ℕ → ℕ → ℕ → List ℕ
format_body tag frame bits = u16_bytes tag ++ u16_bytes 2 ++ u32_bytes 44100 ++ u32_bytes (44100 * frame) ++ u16_bytes frame ++ u16_bytes bits

-- a chunk: its name, the length of its body, and the body
abbrev pub chunk : ℕ → List ℕ → List ℕ
chunk name body = u32_bytes name ++ u32_bytes (length body) ++ body

-- a file down to its data, so many bytes, which are the last of it: RIFF, the length of all that follows, WAVE, the chunks before the data, and
-- the data's name and length
abbrev pub before_data : List ℕ → ℕ → List ℕ
before_data chunks bytes =
    u32_bytes RIFF ++ u32_bytes (4 + length chunks + 8 + bytes) ++ u32_bytes WAVE ++ chunks ++ u32_bytes data' ++ u32_bytes bytes

-- ---- floats: format 3, 8 bytes a frame, 32 bits, and nothing more; the number of frames in a chunk of its own

abbrev pub float_format : List ℕ
float_format = format_body 3 8 32 ++ u16_bytes 0

-- the first 58 bytes of a file with so many frames of floats
unfoldable pub header_of : ℕ → List ℕ
header_of frames = before_data (chunk fmt float_format ++ chunk fact (u32_bytes frames)) (8 * frames)

-- ---- words: format 1, 6 bytes a frame, 24 bits

abbrev pub word_format : List ℕ
word_format = format_body 1 6 24

-- the first 44 bytes of a file with so many frames of words
unfoldable pub word_header_of : ℕ → List ℕ
word_header_of frames = before_data (chunk fmt word_format) (6 * frames)
