-- A node as the reading by samples knows it (document 01, "Reading by samples"): its number, its carry and every sample that it has taken,
-- where memory holds the newest n in a ring. The rules are the table's, with the lines read from n ago; `state_of` says what memory holds of
-- it. Definitions only; that both give the same is in proofs/Histories.antt.
use Rattle.std.specs.Prelude.{ℕ, ◌-◌, ◌%◌, cond, List, [], ◌∷◌, ◌++◌, map, length, Float}
use Rattle.std.specs.Float.{binary32}
use Rattle.std.specs.Float.Ieee.{of_bits, to_bits}
use Rattle.values.specs.Floors.{zero_f}
use Rattle.reading.specs.Table.{tab}
use Rattle.reading.specs.Ring.{from, newest}
use Rattle.kinds.specs.Row.{Line, no_line, line_x, line_xy, row_of}
use Rattle.kinds.specs.Kind.{line_length}
use Rattle.kinds.specs.Rule.{Brought, Frame, State, first, left_of, right_of, keeps, carry_after}
use Rattle.kinds.specs.Cell.{number_of}
use Rattle.kinds.specs.declared.kind.NodeKind.{NodeKind}

-- ---- what the reading knows of a node

-- what a node took and gave at one time, as patterns
pub record Taken : Type 0 where
  pub x : ℕ
  pub y : ℕ

-- the number and the carry as patterns, and what the node took and gave so far, newest first
pub record Heard : Type 0 where
  pub number : ℕ
  pub carry : ℕ
  pub past : List Taken

abbrev pub xs : Heard → List ℕ
xs h = map (λ t. t.x) h.past

abbrev pub ys : Heard → List ℕ
ys h = map (λ t. t.y) h.past

-- how many samples the node has taken
abbrev pub count : Heard → ℕ
count h = length h.past

-- before time 0: the number as in fresh memory, phase, y1 and lines 0
unfoldable pub fresh_heard : NodeKind → Heard
fresh_heard k = record { number = to_bits binary32 (number_of k); carry = 0; past = [] }

-- an accepted message sets the number from then on
unfoldable pub set_number : ℕ → Heard → Heard
set_number v h = record { number = v; carry = h.carry; past = h.past }

-- ---- the rule of a node on what the reading knows

-- index j of a line of n, which wraps at n: index 0 is the sample from n ago, index j the one from n - j ago, zero if there is none
unfoldable pub ago_by : ℕ → List ℕ → ℕ → Float
ago_by n l j = of_bits binary32 (from 0 n l (n - j % n))

-- the n of a type with a line; the others read none
abbrev pub length_of : NodeKind → ℕ
length_of k = line_length (row_of k).line

-- the lines of x and y of a type that has them
abbrev pub x_ago : Line → List ℕ → ℕ → Float
x_ago no_line l j = zero_f
x_ago (line_x n) l j = ago_by n l j
x_ago (line_xy n) l j = ago_by n l j

abbrev pub y_ago : Line → List ℕ → ℕ → Float
y_ago no_line l j = zero_f
y_ago (line_x n) l j = zero_f
y_ago (line_xy n) l j = ago_by n l j

-- the float that channel 0 takes
abbrev pub left_heard : NodeKind → Heard → Brought → Float
left_heard k h b =
    left_of k (of_bits binary32 h.number) (of_bits binary32 h.carry) (x_ago (row_of k).line (xs h)) (y_ago (row_of k).line (ys h)) b

-- its sample; `held` is what stands at its place
unfoldable pub sample_heard : NodeKind → Heard → Frame → Brought → Frame
sample_heard k h held b =
    cond (keeps k b) held (record { left = to_bits binary32 (left_heard k h b); right = to_bits binary32 (right_of k b) })

-- what the reading knows afterwards
unfoldable pub heard_after : NodeKind → Heard → Brought → Heard
heard_after k h b = record {
  number = h.number;
  carry = carry_after k (of_bits binary32 h.number) h.carry (left_heard k h b);
  past = record { x = to_bits binary32 (first b); y = to_bits binary32 (left_heard k h b) } ∷ h.past;
}

-- ---- what memory holds of it

-- once the node has taken c samples, the place is c mod n
abbrev pub place_by : Line → ℕ → ℕ
place_by no_line c = 0
place_by (line_x n) c = c % n
place_by (line_xy n) c = c % n

unfoldable pub place_of : NodeKind → ℕ → ℕ
place_of k c = place_by (row_of k).line c

-- place p of a line of n holds the newest sample whose count, from 0, leaves p on division by n, or 0 if there is none
abbrev pub ring : ℕ → List ℕ → List ℕ
ring n l = tab n (newest 0 n l)

-- the line: x, and of an all-pass also y
abbrev pub rings_by : Line → List ℕ → List ℕ → List ℕ
rings_by no_line x y = []
rings_by (line_x n) x y = ring n x
rings_by (line_xy n) x y = ring n x ++ ring n y

unfoldable pub line_heard : NodeKind → List ℕ → List ℕ → List ℕ
line_heard k x y = rings_by (row_of k).line x y

unfoldable pub state_of : NodeKind → Heard → State
state_of k h = record { number = h.number; carry = h.carry; place = place_of k (count h); line = line_heard k (xs h) (ys h) }
