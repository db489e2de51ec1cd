-- Numbers of a text: what a word says as a whole number, and as a float. Definitions only.
use Rattle.std.specs.Prelude.{Bool, true, false, cond, ◌&&◌, ◌||◌, Option, Some, None, Result, Ok, Err, List, [], ◌∷◌, ℕ, ◌+◌, ◌-◌, ◌*◌, ◌<◌, min, ltb, leb, eqb, length, take, drop, get_or}
use Rattle.std.specs.Float.Ieee as ieee
use Rattle.decimals.specs.Decimal.{nearest_to}
use Rattle.decimals.specs.declared.number.FloatError.{FloatError}
use Rattle.decimals.specs.declared.number.FloatError.TheVariants.{Bad, Long}
use Rattle.decimals.specs.declared.number.Power.{Power}
use Rattle.decimals.specs.declared.number.Run.{Run}

-- a byte from `low` to `high`
abbrev pub within : ℕ → ℕ → ℕ → Bool
within low high c = leb low c && leb c high

-- the value of a digit, of base 16 too, in either case of letters; 16 for any other byte
unfoldable pub digit_of : ℕ → ℕ
digit_of c = cond (within 48 57 c) (c - 48) (cond (within 65 70 c) (c - 55) (cond (within 97 102 c) (c - 87) 16))

-- one decimal digit more; from 42,949,672,960 on a number is read as that
abbrev pub more : ℕ → ℕ → ℕ
more v d = min (v * 10 + d) 42949672960

-- the decimal digits at the start of a text, read after the number v: their number, and the place after them, counted from i
unfoldable pub digits_from : List ℕ → ℕ → ℕ → Run
digits_from [] v i = record { value = v; next = i }
digits_from (c ∷ s) v i = cond (ltb (digit_of c) 10) (digits_from s (more v (digit_of c)) (i + 1)) (record { value = v; next = i })

-- decimal digits and nothing else, read after the number v
unfoldable pub read_from : List ℕ → ℕ → Option ℕ
read_from [] v = Some v
read_from (c ∷ s) v = cond (ltb (digit_of c) 10) (read_from s (more v (digit_of c))) None

abbrev pub upto : ℕ → Option ℕ → Option ℕ
upto most None = None
upto most (Some v) = cond (ltb most v) None (Some v)

-- the whole number that a word says: one digit or more, and at most `most`
unfoldable pub whole_of : List ℕ → ℕ → Option ℕ
whole_of [] most = None
whole_of (c ∷ s) most = upto most (read_from (c ∷ s) 0)

-- digits of base 16 and nothing else, read after the number v
unfoldable pub hex_from : List ℕ → ℕ → Result ℕ FloatError
hex_from [] v = Ok v
hex_from (c ∷ s) v = cond (ltb (digit_of c) 16) (hex_from s (v * 16 + digit_of c)) (Err Bad)

-- a float's bits: 8 digits of base 16
unfoldable pub bits_of : List ℕ → Result ℕ FloatError
bits_of digits = cond (eqb (length digits) 8) (hex_from digits 0) (Err Bad)

-- ---- decimals: 43 is `+`, 45 `-`, 46 the point, 69 `E`, 101 `e`

-- the decimal digits that a text starts with, and what follows them
abbrev pub first_digits : List ℕ → List ℕ
first_digits s = take (digits_from s 0 0).next s

abbrev pub behind_digits : List ℕ → List ℕ
behind_digits s = drop (digits_from s 0 0).next s

-- the parts of a decimal: its digits before the point, those behind it, and what follows them
pub record Parts : Type 0 where
  pub whole : List ℕ
  pub fraction : List ℕ
  pub rest : List ℕ

abbrev pub parts : List ℕ → List ℕ → List ℕ → Parts
parts whole fraction rest = record { whole = whole; fraction = fraction; rest = rest }

abbrev pub pointed : List ℕ → List ℕ → Parts
pointed whole s =
    cond (eqb (get_or s 0 0) 46) (parts whole (first_digits (drop 1 s)) (behind_digits (drop 1 s))) (parts whole [] s)

unfoldable pub digits_of : List ℕ → Parts
digits_of word = pointed (first_digits word) (behind_digits word)

-- decimal digits only
abbrev pub Decimals : List ℕ → Type 0
Decimals s = (k : ℕ) → k < length s → digit_of (get_or s k 0) < 10

-- the number that digits say, read after the number v
unfoldable pub number_from : List ℕ → ℕ → ℕ
number_from [] v = v
number_from (c ∷ s) v = number_from s (v * 10 + digit_of c)

-- the number that all digits of a decimal say, its point left out
unfoldable pub all_of : List ℕ → List ℕ → ℕ
all_of whole fraction = number_from fraction (number_from whole 0)

-- the power of ten behind the digits: none at the end; or an `e` and a whole number, perhaps with a sign
abbrev pub power : ℕ → ℕ → Power
power up down = record { up = up; down = down }

abbrev pub upward : Option ℕ → Option Power
upward None = None
upward (Some v) = Some (power v 0)

abbrev pub downward : Option ℕ → Option Power
downward None = None
downward (Some v) = Some (power 0 v)

abbrev pub exponent_of : List ℕ → Option Power
exponent_of s =
    cond (eqb (get_or s 0 0) 45) (downward (whole_of (drop 1 s) 42949672960))
    (upward (whole_of (cond (eqb (get_or s 0 0) 43) (drop 1 s) s) 42949672960))

unfoldable pub power_of : List ℕ → Option Power
power_of s =
    cond (eqb (length s) 0) (Some (power 0 0))
    (cond (eqb (get_or s 0 0) 101 || eqb (get_or s 0 0) 69) (exponent_of (drop 1 s)) None)

-- a float with a sign in front
abbrev pub signed : Bool → ieee.Float → Result ℕ FloatError
signed minus x = Ok (ieee.to_bits ieee.binary32 (cond minus (ieee.neg x) x))

-- the float nearest to a decimal; with more than 40 digits, or a power of ten that is not from -60 to 60, it is too long
unfoldable pub scaled : Bool → List ℕ → List ℕ → Power → Result ℕ FloatError
scaled minus whole fraction p =
    cond (ltb 40 (length whole + length fraction) || ltb 60 p.up || ltb 60 p.down) (Err Long)
    (signed minus (nearest_to (all_of whole fraction) p.up (length fraction + p.down)))

-- the float of a decimal whose sign stood before it, by its parts and the power of ten that it ends with
abbrev pub powered : Bool → Parts → Option Power → Result ℕ FloatError
powered minus d None = Err Bad
powered minus d (Some p) = scaled minus d.whole d.fraction p

abbrev pub decimal_by : Bool → Parts → Result ℕ FloatError
decimal_by minus d = cond (eqb (length d.whole + length d.fraction) 0) (Err Bad) (powered minus d (power_of d.rest))

unfoldable pub decimal : Bool → List ℕ → Result ℕ FloatError
decimal minus word = decimal_by minus (digits_of word)

-- the float that a word says: an `x` and its bits; or a decimal, perhaps with a sign
unfoldable pub float_of : List ℕ → Result ℕ FloatError
float_of word =
    cond (eqb (get_or word 0 0) 120 || eqb (get_or word 0 0) 88) (bits_of (drop 1 word))
    (cond (eqb (get_or word 0 0) 45) (decimal true (drop 1 word)) (cond (eqb (get_or word 0 0) 43) (decimal false (drop 1 word)) (decimal false word)))
