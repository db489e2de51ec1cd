-- Document 01's table of types, one row a type, in its order: `row_of`. What depends on a node's type follows from its row: what the board's
-- reader asks (Kind.antt), the cell (Cell.antt), and the rule sample by sample (Rule.antt, History.antt). Floats are IEEE 754 singles, one
-- rounding for each operation, in the order written. Definitions only.
use Rattle.std.specs.Prelude.{ℕ, ◌+◌, Bool, cond, List, [], ◌∷◌, length, get_or, ltb, Float}
use Rattle.std.specs.Float.{nan, binary32}
use Rattle.std.specs.Float.Ieee.{add, sub, mul, neg}
use Rattle.values.specs.Floors.{f1, f44100, zero_f, finite_f, within, floor_of}
use Rattle.leaves.specs.Position.{position_of, rest_of}
use Rattle.leaves.specs.Sine.{sine_of, phase_units, over23}
use Rattle.leaves.specs.OnePole.{one_pole_of, one_pole_step}
use Rattle.kinds.specs.declared.kind.NodeKind.{NodeKind}
use Rattle.kinds.specs.declared.kind.NodeKind.TheVariants.{Pass, Sum, Destination, Balance, Mul, Add, Delay, AllPass, OnePole, Sine}

-- ---- what a row's formula reads at one time

-- what a node's wires bring
pub record Brought : Type 0 where
  -- channel 0 of each distinct source, by first wire
  pub left : List Float
  -- of each, what the destination's channel 1 reads: a stereo source's channel 1, else channel 0
  pub right : List Float
  -- channel 0 of the second wire's source
  pub second : Float

-- the first wire's source
abbrev pub first : Brought → Float
first b = get_or b.left 0 nan

-- there are two distinct sources
abbrev pub two : Brought → Bool
two b = ltb 1 (length b.left)

-- the number, the carry, the lines of x and y by index from the oldest sample, and what the wires bring
pub record Terms : Type 0 where
  pub number : Float
  pub carry : Float
  pub x : ℕ → Float
  pub y : ℕ → Float
  pub wires : Brought

-- ---- the formulas' parts

-- 0 + each, in order
abbrev pub add_to : Float → List Float → Float
add_to t [] = t
add_to t (x ∷ xs) = add_to (add binary32 t x) xs

unfoldable pub total : List Float → Float
total xs = add_to zero_f xs

-- the number, or the second source where there are two
abbrev pub operand : Float → Brought → Float
operand g b = cond (two b) b.second g

-- (−g × x + X) + g × Y
unfoldable pub all_pass : Float → Float → Float → Float → Float
all_pass g x old_x old_y = add binary32 (add binary32 (mul binary32 (neg g) x) old_x) (mul binary32 g old_y)

-- get(i) × r + get(i+1) × (1 − r): the older neighbour has the weight r, as in the Rust
unfoldable pub between : Float → Float → Float → Float
between older newer r = add binary32 (mul binary32 older r) (mul binary32 newer (sub binary32 f1 r))

-- what an all-pass of n reads of a line, whose index 0 is the oldest sample: that one, or with two sources where the second says, of two
-- neighbours by their weights
unfoldable pub tap_by : (Float → Float → Float → Float) → ℕ → Brought → (ℕ → Float) → Float
tap_by weigh n b get =
    let pos = position_of b.second n in
    cond (two b) (weigh (get (floor_of pos)) (get (floor_of pos + 1)) (rest_of pos)) (get 0)

abbrev pub tap : ℕ → Brought → (ℕ → Float) → Float
tap = tap_by between

-- ---- the formulas

abbrev pub source : Terms → Float
source t = first t.wires

abbrev pub sum : Terms → Float
sum t = total t.wires.left

abbrev pub product : Terms → Float
product t = mul binary32 (source t) (operand t.number t.wires)

abbrev pub plus : Terms → Float
plus t = add binary32 (source t) (operand t.number t.wires)

abbrev pub delayed : Terms → Float
delayed t = t.x 0

abbrev pub filtered_by : (Float → Float → Float → Float) → ℕ → Terms → Float
filtered_by weigh n t = all_pass t.number (source t) (tap_by weigh n t.wires t.x) (tap_by weigh n t.wires t.y)

abbrev pub smoothed : Float → Terms → Float
smoothed b t = (one_pole_step (one_pole_of b t.carry) (source t)).y1

abbrev pub wave : Terms → Float
wave t = over23 (sine_of (phase_units t.carry))

-- ---- the columns

-- a float's range: every finite one, or from 0 to 44,100; negative zero counts as zero
pub data Range : Type 0 where
  any_finite : Range
  frequency : Range

abbrev pub in_range : Range → Float → Bool
in_range any_finite x = finite_f x
in_range frequency x = within f44100 x

-- the record's float: unused, a coefficient, or the number with which the cell starts and which messages set
pub data Value : Type 0 where
  unused : Value
  coefficient : Range → Float → Value
  numbered : Range → Float → Value

-- the ring: none, the last n samples of the source, or those and the last n written
pub data Line : Type 0 where
  no_line : Line
  line_x : ℕ → Line
  line_xy : ℕ → Line

-- what is carried from sample to sample: nothing, the last output, or the phase of a sine whose frequency is the number
pub data Carry : Type 0 where
  no_carry : Carry
  last_output : Carry
  running_phase : Carry

-- the sample written: one channel; one channel, or with no source the block kept; or two, the second of what the wires bring
pub data Writes : Type 0 where
  mono : (Terms → Float) → Writes
  keeping : (Terms → Float) → Writes
  stereo : (Terms → Float) → (Brought → Float) → Writes

-- the fewest and the most distinct sources
pub record Sources : Type 0 where
  pub fewest : ℕ
  pub most : ℕ

infix 40 ◌to◌
abbrev pub ◌to◌ : ℕ → ℕ → Sources
a to b = record { fewest = a; most = b }

pub record TypeRow : Type 0 where
  pub type : ℕ
  pub sources : Sources
  pub line : Line
  pub value : Value
  pub carry : Carry
  pub writes : Writes

abbrev pub row : ℕ → Sources → Line → Value → Carry → Writes → TypeRow
row t s l v c w = record { type = t; sources = s; line = l; value = v; carry = c; writes = w }

-- ---- the table: the type's number, its sources, line, float and carry, and the sample written

abbrev pub row_of : NodeKind → TypeRow
row_of Pass = row 1 (0 to 1) no_line unused no_carry (keeping source)
row_of Sum = row 2 (0 to 8) no_line unused no_carry (mono sum)
row_of Destination = row 3 (0 to 8) no_line unused no_carry (stereo sum (λ b. total b.right))
row_of Balance = row 4 (2 to 2) no_line unused no_carry (stereo source (λ b. b.second))
row_of (Mul f) = row 5 (1 to 2) no_line (numbered any_finite f) no_carry (mono product)
row_of (Add f) = row 6 (1 to 2) no_line (numbered any_finite f) no_carry (mono plus)
row_of (Delay n) = row 7 (1 to 1) (line_x n) unused no_carry (mono delayed)
row_of (AllPass n g) = row 8 (1 to 2) (line_xy n) (numbered any_finite g) no_carry (mono (filtered_by between n))
row_of (OnePole b) = row 9 (1 to 1) no_line (coefficient any_finite b) last_output (mono (smoothed b))
row_of (Sine f) = row 10 (0 to 0) no_line (numbered frequency f) running_phase (mono wave)
