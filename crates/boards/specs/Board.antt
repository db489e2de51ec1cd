-- A board as its bytes say it (document 01, "Board bytes"): record by record, from offset 0, until the end record or the first refusal.
-- Definitions only.
use Rattle.std.specs.Prelude.{ℕ, zero, suc, ◌+◌, ◌*◌, List, [], ◌∷◌, ◌++◌, Bool, cond, not, ◌&&◌, length, ltb, leb, eqb, Option, Some, None, Result, Ok, Err}
use Rattle.values.specs.Bytes.{u16_at, u32_at}
use Rattle.kinds.specs.Kind.{rule_of, line_of, channels_of, cell_size, is_destination}
use Rattle.kinds.specs.declared.kind.NodeKind.{NodeKind}
use Rattle.kinds.specs.declared.kind.NodeKind.TheVariants.{Pass}
use Rattle.kinds.specs.declared.kind.NodeRecord.{NodeRecord}
use Rattle.reading.specs.Order.{Wire, wire}
use Rattle.records.specs.Record.{found_at}
use Rattle.records.specs.declared.record.Found.{Found}
use Rattle.records.specs.declared.record.Found.TheVariants.{Head, Node, End}
use Rattle.records.specs.declared.record.Found.TheVariants as found

-- what a board's records say: block size N, input node, nodes, wires
pub record Parsed : Type 0 where
  pub size : ℕ
  pub input : ℕ
  pub nodes : List NodeRecord
  pub wires : List Wire

-- what fills an array of nodes, and stands past its end
abbrev pub blank : NodeRecord
blank = record { kind = Pass; channels = 0; cell = 0 }

-- ---- sums over the nodes

-- the values of all lines together
abbrev pub lines_of : List NodeRecord → ℕ
lines_of [] = 0
lines_of (r ∷ rs) = line_of r.kind + lines_of rs

-- the values of all cells
abbrev pub cells_of : ℕ → List NodeRecord → ℕ
cells_of N [] = 0
cells_of N (r ∷ rs) = cell_size N r.kind + cells_of N rs

-- the memory's length in bytes, 4 a value
abbrev pub memory_length : Parsed → ℕ
memory_length p = 4 * cells_of p.size p.nodes

-- ---- one record more

-- a board whose head alone is read
abbrev pub headed : ℕ → ℕ → Parsed
headed N i = record { size = N; input = i; nodes = []; wires = [] }

-- one more node: its cell starts where those before it end
abbrev pub with_node : Parsed → NodeKind → Parsed
with_node p k = record {
  size = p.size;
  input = p.input;
  nodes = p.nodes ++ (record { kind = k; channels = channels_of k; cell = cells_of p.size p.nodes } ∷ []);
  wires = p.wires;
}

abbrev pub with_wire : Parsed → ℕ → ℕ → Parsed
with_wire p s t = record { size = p.size; input = p.input; nodes = p.nodes; wires = p.wires ++ (wire s t ∷ []) }

-- ---- the rules of a record's body

abbrev pub size_fits : ℕ → Bool
size_fits N = leb 1 N && leb N 128

-- node 0, and only it, is the destination
abbrev pub placed : ℕ → NodeKind → Bool
placed i k = cond (eqb i 0) (is_destination k) (not (is_destination k))

-- whether one more node of kind k may follow i nodes with so many line values
abbrev pub node_fits : ℕ → ℕ → NodeKind → Bool
node_fits i lines k = ltb i 64 && placed i k && leb (lines + line_of k) 262144

-- whether one more wire from s to t may follow w wires, on a board of i nodes
abbrev pub wire_fits : ℕ → ℕ → ℕ → ℕ → Bool
wire_fits i w s t = ltb w 128 && ltb s i && ltb t i && not (eqb s t)

-- ---- record by record

-- going on at an offset, after a record of kind `last`; or refused, with number and place; or read whole
pub data Progress : Type 0 where
  going : ℕ → ℕ → Parsed → Progress
  refused : ℕ → ℕ → Progress
  whole : Parsed → Progress

-- the body of a head, of a node, of a wire
abbrev pub head_by : ℕ → ℕ → ℕ → Progress
head_by at N i = cond (size_fits N) (going (at + 8) 1 (headed N i)) (refused 3 at)

abbrev pub node_by : ℕ → Parsed → Option NodeKind → Progress
node_by at p None = refused 4 at
node_by at p (Some k) = cond (node_fits (length p.nodes) (lines_of p.nodes) k) (going (at + 14) 2 (with_node p k)) (refused 4 at)

abbrev pub wire_by : ℕ → Parsed → ℕ → ℕ → Progress
wire_by at p s t = cond (wire_fits (length p.nodes) (length p.wires) s t) (going (at + 8) 3 (with_wire p s t)) (refused 5 at)

-- the end record is last: a byte after it is refused
abbrev pub end_by : List ℕ → ℕ → Parsed → Progress
end_by s at p = cond (eqb (at + 4) (length s)) (whole p) (refused 1 (at + 4))

-- what the record found at an offset, or its refusal, does to the board p
unfoldable pub take_found : List ℕ → ℕ → Parsed → Result Found ℕ → Progress
take_found s at p (Ok Head) = head_by at (u16_at s (at + 4)) (u16_at s (at + 6))
take_found s at p (Ok Node) = node_by at p (rule_of (u16_at s (at + 4)) (u32_at s (at + 6)) (u32_at s (at + 10)))
take_found s at p (Ok found.Wire) = wire_by at p (u16_at s (at + 4)) (u16_at s (at + 6))
take_found s at p (Ok End) = end_by s at p
take_found s at p (Err n) = refused n at

-- one record more; a reading that is done stays as it is
unfoldable pub step_of : List ℕ → Progress → Progress
step_of s (going at last p) = take_found s at p (found_at s at last)
step_of s (refused n w) = refused n w
step_of s (whole p) = whole p

unfoldable pub run : ℕ → List ℕ → Progress → Progress
run zero s r = r
run (suc n) s r = run n s (step_of s r)

-- checks 1 to 5. Each record has a byte, so as many steps as bytes, and one more, end the reading: it is never left going
-- (`board_ends` of proofs/Ending)
unfoldable pub read_records : List ℕ → Progress
read_records s = run (suc (length s)) s (going 0 0 (headed 0 0))
