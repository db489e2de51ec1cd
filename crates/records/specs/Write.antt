-- A board as document 01, "Board bytes", describes it, without a word on how it is read: a card with a block size, an input node, node
-- descriptions and wires; and the bytes that are written for it. Definitions only.
use Rattle.std.specs.Prelude.{ℕ, List, [], ◌∷◌, ◌++◌}
use Rattle.values.specs.Bytes.{u16_bytes, u32_bytes}
use Rattle.reading.specs.Order.{Wire}

-- a node as its record describes it: type, whole number n, bits of the float f
pub record NodeCard : Type 0 where
  pub type : ℕ
  pub n : ℕ
  pub f : ℕ

pub record Card : Type 0 where
  pub size : ℕ
  pub input : ℕ
  pub nodes : List NodeCard
  pub wires : List Wire

-- ---- the bytes

-- a record: its length, its kind, its body
abbrev pub head_bytes : ℕ → ℕ → List ℕ
head_bytes N i = u16_bytes 8 ++ u16_bytes 1 ++ u16_bytes N ++ u16_bytes i

abbrev pub node_bytes : NodeCard → List ℕ
node_bytes d = u16_bytes 14 ++ u16_bytes 2 ++ u16_bytes d.type ++ u32_bytes d.n ++ u32_bytes d.f

abbrev pub wire_bytes : Wire → List ℕ
wire_bytes w = u16_bytes 8 ++ u16_bytes 3 ++ u16_bytes w.source ++ u16_bytes w.target

abbrev pub end_bytes : List ℕ
end_bytes = u16_bytes 4 ++ u16_bytes 4

abbrev pub nodes_bytes : List NodeCard → List ℕ
nodes_bytes [] = []
nodes_bytes (d ∷ ds) = node_bytes d ++ nodes_bytes ds

abbrev pub wires_bytes : List Wire → List ℕ
wires_bytes [] = []
wires_bytes (w ∷ ws) = wire_bytes w ++ wires_bytes ws

-- records stand in the order of their kinds
unfoldable pub write_board : Card → List ℕ
write_board c = head_bytes c.size c.input ++ nodes_bytes c.nodes ++ wires_bytes c.wires ++ end_bytes
