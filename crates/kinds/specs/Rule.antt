-- The rule of a node, sample by sample, from its type's row. A node's state and what its wires bring give its sample and its next state; a
-- sample is kept as its pattern, a NaN's as 7FC00000. Definitions only.
use Rattle.std.specs.Prelude.{ℕ, suc, ◌+◌, ◌%◌, Bool, false, cond, List, length, get_or, set, eqb, Float}
use Rattle.std.specs.Float.{binary32}
use Rattle.std.specs.Float.Ieee.{of_bits, to_bits}
use Rattle.values.specs.Floors.{zero_f}
use Rattle.leaves.specs.Phase.{phase_after}
use Rattle.kinds.specs.Row.{Terms, Line, no_line, line_x, line_xy, Carry, no_carry, last_output, running_phase, Writes, mono, keeping, stereo, row_of}
use Rattle.kinds.specs.declared.kind.NodeKind.{NodeKind}
pub use Rattle.kinds.specs.Row.{Brought, first, two, add_to, operand, tap}
unfoldable pub use Rattle.kinds.specs.Row.{total, all_pass, between, tap_by}

-- ---- what a node gives and keeps

-- one sample of a node, as patterns; a node of one channel leaves `right` 0
pub record Frame : Type 0 where
  pub left : ℕ
  pub right : ℕ

-- what a node keeps from sample to sample: the number and the carry as patterns, the ring place, the line (all-pass: x, then y)
pub record State : Type 0 where
  pub number : ℕ
  pub carry : ℕ
  pub place : ℕ
  pub line : List ℕ

-- a state with one value replaced
abbrev pub with_number : State → ℕ → State
with_number s v = record { number = v; carry = s.carry; place = s.place; line = s.line }

abbrev pub with_carry : State → ℕ → State
with_carry s v = record { number = s.number; carry = v; place = s.place; line = s.line }

abbrev pub with_place : State → ℕ → State
with_place s v = record { number = s.number; carry = s.carry; place = v; line = s.line }

abbrev pub with_line : State → List ℕ → State
with_line s l = record { number = s.number; carry = s.carry; place = s.place; line = l }

-- ---- what a row says

-- channel 0: the number g, the carry c, the lines x and y by index from the oldest sample
abbrev pub left_in : Writes → Terms → Float
left_in (mono l) t = l t
left_in (keeping l) t = l t
left_in (stereo l r) t = l t

unfoldable pub left_of : NodeKind → Float → Float → (ℕ → Float) → (ℕ → Float) → Brought → Float
left_of k g c x y b = left_in (row_of k).writes (record { number = g; carry = c; x = x; y = y; wires = b })

-- channel 1 of the two stereo types
abbrev pub right_in : Writes → Brought → Float
right_in (mono l) b = zero_f
right_in (keeping l) b = zero_f
right_in (stereo l r) b = r b

unfoldable pub right_of : NodeKind → Brought → Float
right_of k b = right_in (row_of k).writes b

-- a pass without sources keeps its block
abbrev pub keeps_in : Writes → Brought → Bool
keeps_in (mono l) b = false
keeps_in (keeping l) b = eqb (length b.left) 0
keeps_in (stereo l r) b = false

unfoldable pub keeps : NodeKind → Brought → Bool
keeps k b = keeps_in (row_of k).writes b

-- the carry after the sample y, where the number is g
abbrev pub carried_on : Carry → Float → ℕ → Float → ℕ
carried_on no_carry g c y = c
carried_on last_output g c y = to_bits binary32 y
carried_on running_phase g c y = to_bits binary32 (phase_after g (of_bits binary32 c))

unfoldable pub carry_after : NodeKind → Float → ℕ → Float → ℕ
carry_after k g c y = carried_on (row_of k).carry g c y

-- ---- the line in memory, a ring: the place indexes the oldest sample; a push replaces it and moves on, wrapping

abbrev pub next : ℕ → ℕ → ℕ
next n p = cond (eqb (suc p) n) 0 (suc p)

-- index j of the ring of n values that starts at value `from` of the line
unfoldable pub get : ℕ → ℕ → State → ℕ → Float
get n from s j = of_bits binary32 (get_or s.line (from + (s.place + j) % n) 0)

-- the lines of x and y of a type that has them
abbrev pub x_in : Line → State → ℕ → Float
x_in no_line s j = zero_f
x_in (line_x n) s j = get n 0 s j
x_in (line_xy n) s j = get n 0 s j

abbrev pub y_in : Line → State → ℕ → Float
y_in no_line s j = zero_f
y_in (line_x n) s j = zero_f
y_in (line_xy n) s j = get n n s j

unfoldable pub x_line : NodeKind → State → ℕ → Float
x_line k s j = x_in (row_of k).line s j

unfoldable pub y_line : NodeKind → State → ℕ → Float
y_line k s j = y_in (row_of k).line s j

-- the place after a sample
abbrev pub place_on : Line → ℕ → ℕ
place_on no_line p = p
place_on (line_x n) p = next n p
place_on (line_xy n) p = next n p

unfoldable pub place_after : NodeKind → ℕ → ℕ
place_after k p = place_on (row_of k).line p

-- the line after a sample: x, and of an all-pass y, in place of the oldest
abbrev pub line_on : Line → ℕ → ℕ → ℕ → List ℕ → List ℕ
line_on no_line p x y l = l
line_on (line_x n) p x y l = set l p x
line_on (line_xy n) p x y l = set (set l p x) (n + p) y

unfoldable pub line_after : NodeKind → ℕ → ℕ → ℕ → List ℕ → List ℕ
line_after k p x y l = line_on (row_of k).line p x y l

-- ---- the rule of a node on what memory holds

-- the float that channel 0 takes
abbrev pub left_by : NodeKind → State → Brought → Float
left_by k s b = left_of k (of_bits binary32 s.number) (of_bits binary32 s.carry) (x_line k s) (y_line k s) b

-- its sample; `held` is what stands at its place
unfoldable pub sample_by : NodeKind → State → Frame → Brought → Frame
sample_by k s held b =
    cond (keeps k b) held (record { left = to_bits binary32 (left_by k s b); right = to_bits binary32 (right_of k b) })

-- its next state
unfoldable pub state_by : NodeKind → State → Brought → State
state_by k s b = record {
  number = s.number;
  carry = carry_after k (of_bits binary32 s.number) s.carry (left_by k s b);
  place = place_after k s.place;
  line = line_after k s.place (to_bits binary32 (first b)) (to_bits binary32 (left_by k s b)) s.line;
}
