-- Little-endian numbers at a byte offset of a list of bytes, where bytes past the end count as 0; and the bytes of a number. Definitions only.
use Rattle.std.specs.Prelude.{ℕ, ◌+◌, ◌*◌, ◌/◌, ◌%◌, List, [], ◌∷◌, get_or}
use Rattle.values.specs.Words.{word}

abbrev pub u16_at : List ℕ → ℕ → ℕ
u16_at s at = get_or s at 0 + get_or s (at + 1) 0 * 256

abbrev pub u24_at : List ℕ → ℕ → ℕ
u24_at s at = u16_at s at + get_or s (at + 2) 0 * 65536

abbrev pub u32_at : List ℕ → ℕ → ℕ
u32_at s at = word (get_or s at 0) (get_or s (at + 1) 0) (get_or s (at + 2) 0) (get_or s (at + 3) 0)

-- a number in 2 bytes, in 3 and in 4, the lowest first
abbrev pub u16_bytes : ℕ → List ℕ
u16_bytes v = v % 256 ∷ v / 256 % 256 ∷ []

abbrev pub u24_bytes : ℕ → List ℕ
u24_bytes v = v % 256 ∷ v / 256 % 256 ∷ v / 65536 % 256 ∷ []

abbrev pub u32_bytes : ℕ → List ℕ
u32_bytes v = v % 256 ∷ v / 256 % 256 ∷ v / 65536 % 256 ∷ v / 16777216 % 256 ∷ []
