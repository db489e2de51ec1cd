-- What the board's reader asks of a node's type (document 01, "Board bytes"): what a node record's type t, whole number n and float bits f
-- may say, how many sources it takes, its channels and its line. Definitions only.
use Rattle.std.specs.Prelude.{ℕ, ◌+◌, ◌*◌, Bool, cond, ◌&&◌, leb, eqb, Float, Option, Some, None}
use Rattle.std.specs.Float.Ieee.{of_bits}
use Rattle.std.specs.Float.{binary32}
use Rattle.values.specs.Floors.{zero_f}
use Rattle.kinds.specs.Row.{Line, no_line, line_x, line_xy, Value, unused, coefficient, numbered, in_range, Writes, mono, keeping, stereo, row_of}
use Rattle.kinds.specs.declared.types.Kind.{Kind}
use Rattle.kinds.specs.declared.types.Kind.TheVariants as kind
use Rattle.kinds.specs.declared.kind.NodeKind.{NodeKind}
use Rattle.kinds.specs.declared.kind.NodeKind.TheVariants.{Pass, Sum, Destination, Balance, Mul, Add, Delay, AllPass, OnePole, Sine}

-- ---- by number

abbrev pub type_of : NodeKind → ℕ
type_of k = (row_of k).type

abbrev pub is_pass : NodeKind → Bool
is_pass k = eqb (type_of k) 1

abbrev pub is_destination : NodeKind → Bool
is_destination k = eqb (type_of k) 3

-- ---- sources

abbrev pub fewest : NodeKind → ℕ
fewest k = (row_of k).sources.fewest

abbrev pub most : NodeKind → ℕ
most k = (row_of k).sources.most

abbrev pub sources_fit : NodeKind → ℕ → Bool
sources_fit k n = leb (fewest k) n && leb n (most k)

-- ---- the cell's parts

-- the n of a line, and the values that it takes: n, or x and y of n each
abbrev pub line_length : Line → ℕ
line_length no_line = 0
line_length (line_x n) = n
line_length (line_xy n) = n

abbrev pub line_values : Line → ℕ
line_values no_line = 0
line_values (line_x n) = n
line_values (line_xy n) = n * 2

abbrev pub line_of : NodeKind → ℕ
line_of k = line_values (row_of k).line

abbrev pub channels_by : Writes → ℕ
channels_by (mono l) = 1
channels_by (keeping l) = 1
channels_by (stereo l r) = 2

abbrev pub channels_of : NodeKind → ℕ
channels_of k = channels_by (row_of k).writes

-- the values of a node's cell, in order: number, carry, ring place; from `samples_from` on N samples a channel, channel 0 first; then the line
abbrev pub number_index : ℕ
number_index = 0

abbrev pub carry_index : ℕ
carry_index = 1

abbrev pub place_index : ℕ
place_index = 2

abbrev pub samples_from : ℕ
samples_from = 3

abbrev pub line_from : ℕ → NodeKind → ℕ
line_from N k = samples_from + N * channels_of k

-- at block size N
abbrev pub cell_size : ℕ → NodeKind → ℕ
cell_size N k = line_from N k + line_of k

-- ---- a node record's fields

-- a line has from 1 to 132,300 samples
abbrev pub length_fits : ℕ → Bool
length_fits n = leb 1 n && leb n 132300

-- the whole number n is a line's length, and the float of the bits f is in its range; an unused field is all zero bits
abbrev pub whole_fits : Line → ℕ → Bool
whole_fits no_line n = eqb n 0
whole_fits (line_x l) n = length_fits n
whole_fits (line_xy l) n = length_fits n

abbrev pub float_fits : Value → ℕ → Bool
float_fits unused f = eqb f 0
float_fits (coefficient r b) f = in_range r (of_bits binary32 f)
float_fits (numbered r g) f = in_range r (of_bits binary32 f)

abbrev pub fields_fit : NodeKind → ℕ → ℕ → Bool
fields_fit k n f = whole_fits (row_of k).line n && float_fits (row_of k).value f

-- the kind that a type's number, 1 to 10, names with a whole number and a float
abbrev pub kind_by : ℕ → ℕ → Float → NodeKind
kind_by t n x =
    cond (eqb t 1) Pass
    (cond (eqb t 2) Sum
    (cond (eqb t 3) Destination
    (cond (eqb t 4) Balance
    (cond (eqb t 5) (Mul x)
    (cond (eqb t 6) (Add x)
    (cond (eqb t 7) (Delay n)
    (cond (eqb t 8) (AllPass n x)
    (cond (eqb t 9) (OnePole x)
    (Sine x)))))))))

-- and back: the type's name, its whole number and its float, zero where it has none
abbrev pub fields_of : NodeKind → Kind × ℕ × Float
fields_of Pass = (kind.Pass, 0, zero_f)
fields_of Sum = (kind.Sum, 0, zero_f)
fields_of Destination = (kind.Destination, 0, zero_f)
fields_of Balance = (kind.Balance, 0, zero_f)
fields_of (Mul x) = (kind.Mul, 0, x)
fields_of (Add x) = (kind.Add, 0, x)
fields_of (Delay n) = (kind.Delay, n, zero_f)
fields_of (AllPass n x) = (kind.AllPass, n, x)
fields_of (OnePole x) = (kind.OnePole, 0, x)
fields_of (Sine x) = (kind.Sine, 0, x)

abbrev pub type_known : ℕ → Bool
type_known t = leb 1 t && leb t 10

-- what the three fields say: nothing where one of them is broken
abbrev pub is_if : Bool → NodeKind → Option NodeKind
is_if ok k = cond ok (Some k) None

unfoldable pub rule_of : ℕ → ℕ → ℕ → Option NodeKind
rule_of t n f = let k = kind_by t n (of_bits binary32 f) in is_if (type_known t && fields_fit k n f) k
