-- A node's cell (document 01, "Memory"), and a block run over it: the rule, sample by sample. Definitions only.
use Rattle.std.specs.Prelude.{ℕ, ◌+◌, ◌*◌, Bool, true, false, cond, ◌&&◌, List, ◌∷◌, ◌++◌, get_or, set, take, drop, replicate, eqb, ltb, Float}
use Rattle.std.specs.Float.{binary32}
use Rattle.std.specs.Float.Ieee.{of_bits, to_bits}
use Rattle.values.specs.Floors.{f1, zero_f, within}
use Rattle.kinds.specs.Row.{Value, unused, coefficient, numbered, in_range, Line, no_line, line_x, line_xy, Carry, no_carry, last_output, running_phase, row_of}
use Rattle.kinds.specs.Kind.{channels_of, line_of, samples_from, number_index, carry_index, place_index, line_from}
use Rattle.kinds.specs.Iter.{iter}
use Rattle.kinds.specs.Rule.{Brought, Frame, State, sample_by, state_by}
use Rattle.kinds.specs.declared.kind.NodeKind.{NodeKind}

-- the state, and N samples a channel, channel 0 first
pub record Cell : Type 0 where
  pub state : State
  pub samples : List ℕ

-- a cell with one part replaced
abbrev pub with_state : Cell → State → Cell
with_state c s = record { state = s; samples = c.samples }

abbrev pub with_samples : Cell → List ℕ → Cell
with_samples c l = record { state = c.state; samples = l }

-- the values of a cell, in order: number, carry, ring place, the samples, the line
unfoldable pub values_of : Cell → List ℕ
values_of c = c.state.number ∷ c.state.carry ∷ c.state.place ∷ (c.samples ++ c.state.line)

-- the cell of a node of kind k that stands in the values ws, at block size N
unfoldable pub cell_of : ℕ → NodeKind → List ℕ → Cell
cell_of N k ws = record {
  state = record { number = get_or ws number_index 0; carry = get_or ws carry_index 0; place = get_or ws place_index 0; line = drop (line_from N k) ws };
  samples = take (N * channels_of k) (drop samples_from ws);
}

-- ---- fresh

-- the number with which a node starts: f, and 0 but for types 5, 6, 8 and 10
abbrev pub start_in : Value → Float
start_in unused = zero_f
start_in (coefficient r b) = zero_f
start_in (numbered r f) = f

unfoldable pub number_of : NodeKind → Float
number_of k = start_in (row_of k).value

unfoldable pub fresh_cell : ℕ → NodeKind → Cell
fresh_cell N k = record {
  state = record { number = to_bits binary32 (number_of k); carry = 0; place = 0; line = replicate (line_of k) 0 };
  samples = replicate (N * channels_of k) 0;
}

-- ---- the judged values (refusal 8); samples, lines and y1 may hold any bits

-- a value is in the range of the number of a node that takes one
abbrev pub takes_in : Value → Bool
takes_in unused = false
takes_in (coefficient r b) = false
takes_in (numbered r f) = true

abbrev pub value_in : Value → Float → Bool
value_in unused x = false
value_in (coefficient r b) x = false
value_in (numbered r f) x = in_range r x

unfoldable pub takes_number : NodeKind → Bool
takes_number k = takes_in (row_of k).value

unfoldable pub value_fits : NodeKind → Float → Bool
value_fits k x = value_in (row_of k).value x

-- the number's pattern, the carry's, and the ring place
abbrev pub number_in : Value → ℕ → Bool
number_in unused w = eqb w 0
number_in (coefficient r b) w = eqb w 0
number_in (numbered r f) w = in_range r (of_bits binary32 w)

abbrev pub carry_in : Carry → ℕ → Bool
carry_in no_carry w = eqb w 0
carry_in last_output w = true
carry_in running_phase w = within f1 (of_bits binary32 w)

abbrev pub place_in : Line → ℕ → Bool
place_in no_line w = eqb w 0
place_in (line_x n) w = ltb w n
place_in (line_xy n) w = ltb w n

unfoldable pub number_fits : NodeKind → ℕ → Bool
number_fits k w = number_in (row_of k).value w

unfoldable pub carry_fits : NodeKind → ℕ → Bool
carry_fits k w = carry_in (row_of k).carry w

unfoldable pub place_fits : NodeKind → ℕ → Bool
place_fits k w = place_in (row_of k).line w

-- the number, carry and place that stand in the values ws are as they must be
abbrev pub cell_fits : NodeKind → List ℕ → Bool
cell_fits k ws = number_fits k (get_or ws number_index 0) && carry_fits k (get_or ws carry_index 0) && place_fits k (get_or ws place_index 0)

-- ---- a block run

-- place i of the samples of a node of kind k, and the same with a frame written there
unfoldable pub frame_at : ℕ → ℕ → List ℕ → Frame
frame_at N i l = record { left = get_or l i 0; right = get_or l (N + i) 0 }

unfoldable pub put_frame : ℕ → ℕ → ℕ → Frame → List ℕ → List ℕ
put_frame channels N i f l = cond (eqb channels 2) (set (set l i f.left) (N + i) f.right) (set l i f.left)

-- one sample of a node, at place i of its block, from what its wires bring
unfoldable pub step_cell : NodeKind → ℕ → (ℕ → Brought) → ℕ → Cell → Cell
step_cell k N bs i c = record {
  state = state_by k c.state (bs i);
  samples = put_frame (channels_of k) N i (sample_by k c.state (frame_at N i c.samples) (bs i)) c.samples;
}

-- the N samples of a block; `bs i` is what the wires bring at place i
unfoldable pub run_cell : NodeKind → ℕ → (ℕ → Brought) → Cell → Cell
run_cell k N bs c = iter (step_cell k N bs) N c

-- the values of a cell after a block run, from its values before
abbrev pub run_values : NodeKind → ℕ → (ℕ → Brought) → List ℕ → List ℕ
run_values k N bs ws = values_of (run_cell k N bs (cell_of N k ws))
