-- A block run over a board's memory (document 01, "Memory"), as its list of 4-byte values. Definitions only.
use Rattle.std.specs.Prelude.{ℕ, ◌+◌, ◌-◌, ◌*◌, List, [], ◌∷◌, map}
use Rattle.std.proofs.Math.Seq.{paste}
use Rattle.kinds.specs.Kind.{samples_from}
use Rattle.kinds.specs.Rule.{Brought}
use Rattle.kinds.specs.Node.{brought_at, node_run}
use Rattle.kinds.specs.declared.kind.NodeRecord.{NodeRecord}
use Rattle.sources.specs.Sources.{distinct_sources, second_source}
use Rattle.boards.specs.Board.{Parsed}
use Rattle.memory.specs.Memory.{node_at, kind_at}

-- ---- where samples start

-- the value at which a node's samples start, and at which starts what the destination's channel 1 reads of it: a stereo node's channel 1,
-- else channel 0
abbrev pub left_start : NodeRecord → ℕ
left_start r = r.cell + samples_from

abbrev pub right_start : ℕ → NodeRecord → ℕ
right_start N r = r.cell + samples_from + N * (r.channels - 1)

abbrev pub lefts : Parsed → List ℕ
lefts p = map left_start p.nodes

abbrev pub rights : Parsed → List ℕ
rights p = map (right_start p.size) p.nodes

-- ---- a block run

-- what node k's wires bring: at place i of each source's samples, as they then stand
abbrev pub brought_by : Parsed → List ℕ → ℕ → ℕ → Brought
brought_by p ws k = brought_at ws (lefts p) (rights p) (distinct_sources p.wires k) (second_source p.wires k)

-- node k's block
unfoldable pub run_node : Parsed → ℕ → List ℕ → List ℕ
run_node p k ws = node_run (kind_at p k) p.size (node_at p k).cell (brought_by p ws k) ws

-- the nodes of an order, one after the other
unfoldable pub run_nodes : Parsed → List ℕ → List ℕ → List ℕ
run_nodes p [] ws = ws
run_nodes p (k ∷ o) ws = run_nodes p o (run_node p k ws)

-- the input block goes into the input node's samples, listed or not
unfoldable pub put_input : Parsed → List ℕ → List ℕ → List ℕ
put_input p xs ws = paste ws ((node_at p p.input).cell + samples_from) xs p.size

-- a block run with the nodes taken in the order o
abbrev pub run_block : Parsed → List ℕ → List ℕ → List ℕ → List ℕ
run_block p o xs ws = run_nodes p o (put_input p xs ws)
