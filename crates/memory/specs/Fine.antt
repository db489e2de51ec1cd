-- What is known of a board that was read whole. Definitions only.
use Rattle.std.specs.Prelude.{ℕ, ◌≤◌, ◌<◌, ◌≡◌, true, [], length, take}
use Rattle.std.specs.Float.{binary32}
use Rattle.std.specs.Float.Ieee.{to_bits}
use Rattle.kinds.specs.Kind.{channels_of}
use Rattle.kinds.specs.Cell.{number_of, number_fits}
use Rattle.kinds.specs.Node.{LineFits}
use Rattle.kinds.specs.declared.kind.NodeKind.TheVariants.{Pass, Destination}
use Rattle.reading.specs.Order.{sources}
use Rattle.boards.specs.Board.{Parsed, cells_of}
use Rattle.boards.specs.Formed.{Formed}
use Rattle.memory.specs.Memory.{node_at, kind_at}

-- node k's record: its channels, where its cell starts, and what its kind may be
pub record NodeFine (p : Parsed) (k : ℕ) : Type 0 where
  pub channels : (node_at p k).channels ≡ channels_of (kind_at p k)
  pub cell : (node_at p k).cell ≡ cells_of p.size (take k p.nodes)
  pub line : LineFits (kind_at p k)
  pub number : number_fits (kind_at p k) (to_bits binary32 (number_of (kind_at p k))) ≡ true

-- what the crate boards knows of it, `Formed`, speaks of its wires: they join two of its nodes, and give each as many sources as its type
-- takes. Besides, N is 1 to 128; at most 64 nodes, the destination first; the input node is a pass without wires in
pub record Fine (p : Parsed) : Type 0 where
  pub formed : Formed p
  pub least_size : 1 ≤ p.size
  pub most_size : p.size ≤ 128
  pub few_nodes : length p.nodes ≤ 64
  pub nodes : (k : ℕ) → k < length p.nodes → NodeFine p k
  pub destination : kind_at p 0 ≡ Destination
  pub input_there : p.input < length p.nodes
  pub input_pass : kind_at p p.input ≡ Pass
  pub input_free : sources p.wires p.input ≡ []
