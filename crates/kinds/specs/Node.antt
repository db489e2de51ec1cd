-- A node's block run over the whole memory. Definitions only.
use Rattle.std.specs.Prelude.{ℕ, ◌+◌, ◌≤◌, List, map, get_or, Float}
use Rattle.std.proofs.Math.Seq.{paste}
use Rattle.values.specs.Floats.{float_at}
use Rattle.values.specs.Parts.{part}
use Rattle.kinds.specs.Row.{Line, no_line, line_x, line_xy, row_of}
use Rattle.kinds.specs.Kind.{cell_size}
use Rattle.kinds.specs.Rule.{Brought}
use Rattle.kinds.specs.Cell.{run_values}
use Rattle.kinds.specs.declared.kind.NodeKind.{NodeKind}

-- place i of the blocks that start at the values `starts` gives for each node of a list
abbrev pub samples_at : List ℕ → List ℕ → List ℕ → ℕ → List Float
samples_at ws starts list i = map (λ k. float_at ws (get_or starts k 0 + i)) list

-- what the wires bring at place i: `list` has the distinct sources by first wire, `second` is the second wire's source, and `lefts` and
-- `rights` give for each node the value at which its channel 0 starts, and at which what channel 1 reads of it
abbrev pub brought_at : List ℕ → List ℕ → List ℕ → List ℕ → ℕ → ℕ → Brought
brought_at ws lefts rights list second i = record {
  left = samples_at ws lefts list i;
  right = samples_at ws rights list i;
  second = float_at ws (get_or lefts second 0 + i);
}

-- the memory's values after a block run of the node of kind k whose cell starts at value `at`: the cell is replaced by what its rule makes
-- of it, sample by sample
unfoldable pub node_run : NodeKind → ℕ → ℕ → (ℕ → Brought) → List ℕ → List ℕ
node_run k N at bs ws = paste ws at (run_values k N bs (part ws at (cell_size N k))) (cell_size N k)

-- a line has from 1 to 132,300 samples
abbrev pub LengthIn : Line → Type 0
LengthIn no_line = Unit {0}
LengthIn (line_x n) = (1 ≤ n) × (n ≤ 132300)
LengthIn (line_xy n) = (1 ≤ n) × (n ≤ 132300)

abbrev pub LineFits : NodeKind → Type 0
LineFits k = LengthIn (row_of k).line
