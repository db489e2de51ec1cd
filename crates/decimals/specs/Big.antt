-- Whole numbers in 16 words of 32 bits, the lowest first. Definitions only.
use Rattle.std.specs.Prelude.{List, ℕ, zero, suc, ◌+◌, ◌*◌, ◌^◌, get_or}
use Rattle.decimals.specs.declared.big.Big.{Big}

-- the number that the first n words say
unfoldable pub lowest : List ℕ → ℕ → ℕ
lowest a zero = 0
lowest a (suc n) = lowest a n + get_or a n 0 * 4294967296 ^ n

-- the number that all words say
abbrev pub value_of : Big → ℕ
value_of a = lowest a.words 16

-- 2^512: all of them are below it
unfoldable pub limit : ℕ
limit = 4294967296 ^ 16
