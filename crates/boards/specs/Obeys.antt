-- The rules that a card must obey (document 01, "Board bytes"), without a word on how its bytes are read, and what a reader makes of it.
-- `proofs/Round.antt` shows that the judge accepts exactly the bytes of the cards that obey. Definitions only.
use Rattle.std.specs.Prelude.{ℕ, ◌+◌, ◌<◌, ◌≤◌, ◌≡◌, ◌↔◌, true, List, [], ◌∷◌, length, get_or}
use Rattle.std.specs.Float.Ieee.{of_bits}
use Rattle.std.specs.Float.{binary32}
use Rattle.kinds.specs.Row.{Value, unused, coefficient, numbered, in_range, Line, no_line, line_x, line_xy, row_of}
use Rattle.kinds.specs.Kind.{line_of, channels_of, cell_size, fewest, most, kind_by}
use Rattle.kinds.specs.declared.kind.NodeKind.{NodeKind}
use Rattle.kinds.specs.declared.kind.NodeRecord.{NodeRecord}
use Rattle.reading.specs.Table.{mem}
use Rattle.reading.specs.Order.{Wire, Once}
use Rattle.boards.specs.Board.{Parsed}
use Rattle.records.specs.Write.{NodeCard, Card}

-- ---- what a reader makes of a card

-- the kind of a node
unfoldable pub kind_of : NodeCard → NodeKind
kind_of d = kind_by d.type d.n (of_bits binary32 d.f)

-- the node records at block size N, the first cell at `start`: each cell starts where the one before it ends
abbrev pub records_from : ℕ → ℕ → List NodeCard → List NodeRecord
records_from N start [] = []
records_from N start (d ∷ ds) =
    record { kind = kind_of d; channels = channels_of (kind_of d); cell = start } ∷ records_from N (start + cell_size N (kind_of d)) ds

abbrev pub as_read : Card → Parsed
as_read c = record { size = c.size; input = c.input; nodes = records_from c.size 0 c.nodes; wires = c.wires }

-- ---- the rules

-- P of each element of a list and its number; z stands past the end
abbrev pub EachAt : {A : Type 0} → (ℕ → A → Type 0) → A → List A → Type 0
EachAt P z xs = (i : ℕ) → i < length xs → P i (get_or xs i z)

-- what stands past the end: no type has the number 0
abbrev pub no_node : NodeCard
no_node = record { type = 0; n = 0; f = 0 }

abbrev pub no_wire : Wire
no_wire = record { source = 0; target = 0 }

-- a line's length
abbrev pub LineLength : ℕ → Type 0
LineLength n = (1 ≤ n) × (n ≤ 132300)

-- a kind's whole number is its line's length, its float in its range; an unused field is all zero bits
abbrev pub WholeObeys : Line → ℕ → Type 0
WholeObeys no_line n = n ≡ 0
WholeObeys (line_x _) n = LineLength n
WholeObeys (line_xy _) n = LineLength n

abbrev pub FloatObeys : Value → ℕ → Type 0
FloatObeys unused f = f ≡ 0
FloatObeys (coefficient r _) f = in_range r (of_bits binary32 f) ≡ true
FloatObeys (numbered r _) f = in_range r (of_bits binary32 f) ≡ true

unfoldable pub FieldsObey : NodeKind → ℕ → ℕ → Type 0
FieldsObey k n f = WholeObeys (row_of k).line n × FloatObeys (row_of k).value f

-- node i is of one of the ten types, with the type's fields; node 0, and only it, is type 3. The float's bits fit their 4 bytes; each
-- other number of a card fits its bytes by the range that it obeys
pub record NodeObeys (i : ℕ) (d : NodeCard) : Type 0 where
  pub least_type : 1 ≤ d.type
  pub most_type : d.type ≤ 10
  pub fields : FieldsObey (kind_of d) d.n d.f
  pub float_fits : d.f < 4294967296
  pub destination : (d.type ≡ 3) ↔ (i ≡ 0)

-- one of the wires leads from node x to node i
pub record Leads (ws : List Wire) (x i : ℕ) : Type 0 where
  pub place : ℕ
  pub there : place < length ws
  pub source_is : (get_or ws place no_wire).source ≡ x
  pub target_is : (get_or ws place no_wire).target ≡ i

-- node i has as many distinct sources as its type takes: they are those of a list that has each of them once
pub record SourcesObey (ws : List Wire) (i : ℕ) (d : NodeCard) : Type 0 where
  pub sources : List ℕ
  pub once : Once sources
  pub same : (x : ℕ) → (mem x sources ≡ true) ↔ Leads ws x i
  pub least_sources : fewest (kind_of d) ≤ length sources
  pub most_sources : length sources ≤ most (kind_of d)

-- a wire of a board with so many nodes joins two of them
pub record WireObeys (count : ℕ) (w : Wire) : Type 0 where
  pub source_there : w.source < count
  pub target_there : w.target < count
  pub apart : w.source ≡ w.target → ⊥

-- the values of all lines together
abbrev pub lines_of_cards : List NodeCard → ℕ
lines_of_cards [] = 0
lines_of_cards (d ∷ ds) = line_of (kind_of d) + lines_of_cards ds

-- N is 1 to 128; 1 to 64 nodes, with at most 262,144 values of lines; at most 128 wires; the input node is a pass without wires in
pub record Obeys (c : Card) : Type 0 where
  pub least_size : 1 ≤ c.size
  pub most_size : c.size ≤ 128
  pub some_node : 1 ≤ length c.nodes
  pub few_nodes : length c.nodes ≤ 64
  pub nodes : EachAt NodeObeys no_node c.nodes
  pub few_lines : lines_of_cards c.nodes ≤ 262144
  pub few_wires : length c.wires ≤ 128
  pub wires : EachAt (λ j. WireObeys (length c.nodes)) no_wire c.wires
  pub sources : EachAt (SourcesObey c.wires) no_node c.nodes
  pub input_pass : (get_or c.nodes c.input no_node).type ≡ 1
  pub input_free : EachAt (λ j w. w.target ≡ c.input → ⊥) no_wire c.wires
