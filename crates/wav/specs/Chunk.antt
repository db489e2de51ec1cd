-- The parts of a WAV file: its first 12 bytes, and the 8 bytes that begin a chunk. A name of four letters is the number of its bytes. Definitions only.
use Rattle.std.specs.Prelude.{ℕ, ◌+◌, ◌%◌, Bool, cond, ◌&&◌, List, eqb}
use Rattle.values.specs.Words.{word}
use Rattle.values.specs.Bytes.{u32_at}
use Rattle.wav.specs.declared.chunk.Chunk.{Chunk}
use Rattle.wav.specs.declared.chunk.ChunkKind.{ChunkKind}
use Rattle.wav.specs.declared.chunk.ChunkKind.TheVariants.{Format, Data, Other}

-- the names, letter by letter
abbrev pub RIFF : ℕ
RIFF = word 82 73 70 70

abbrev pub WAVE : ℕ
WAVE = word 87 65 86 69

abbrev pub fmt : ℕ
fmt = word 102 109 116 32

abbrev pub fact : ℕ
fact = word 102 97 99 116

abbrev pub data' : ℕ
data' = word 100 97 116 97

-- a file that begins with RIFF, a length and WAVE
abbrev pub is_wave : List ℕ → Bool
is_wave s = eqb (u32_at s 0) RIFF && eqb (u32_at s 8) WAVE

-- a chunk by its name, with its length
abbrev pub kind_of : ℕ → ChunkKind
kind_of name = cond (eqb name fmt) Format (cond (eqb name data') Data Other)

abbrev pub chunk_of : List ℕ → Chunk
chunk_of s = record { kind = kind_of (u32_at s 0); length = u32_at s 4 }

-- a body of odd length is followed by one byte
abbrev pub passed : ℕ → ℕ
passed n = n + n % 2
