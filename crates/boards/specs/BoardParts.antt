-- The reading in three parts, as the code takes them one after the other: head, nodes, wires. Definitions only.
use Rattle.std.specs.Prelude.{ℕ, suc, ◌+◌, ◌*◌, min, ◌≤◌, ◌<◌, ◌≡◌, List, [], Bool, false, cond, ◌&&◌, length, get_or, take, leb, eqb, Option, Some, None, Result, Ok, Err}
use Rattle.std.specs.List.{zip}
use Rattle.values.specs.Bytes.{u16_at, u32_at}
use Rattle.kinds.specs.Kind.{rule_of, fewest, most}
use Rattle.kinds.specs.declared.kind.Bounds.{Bounds as NodeBounds}
use Rattle.kinds.specs.declared.kind.NodeKind.{NodeKind}
use Rattle.kinds.specs.declared.kind.NodeRecord.{NodeRecord}
use Rattle.reading.specs.Order.{Wire}
use Rattle.boards.specs.Board.{Parsed, Progress, going, refused, whole, blank, headed, cells_of, node_fits, wire_fits, end_by, step_of, run}
use Rattle.sources.specs.Sources.{distinct_sources}
use Rattle.boards.specs.Wires.{Joined, wires_of}
use Rattle.records.specs.Answer.{answer}
use Rattle.records.specs.declared.answer.Answer.{Answer}
use Rattle.records.specs.declared.record.Found.{Found}
use Rattle.records.specs.declared.record.Found.TheVariants as found
use Rattle.boards.specs.declared.board.Head.{Head}
use Rattle.boards.specs.declared.nodes.Nodes.{Nodes}
use Rattle.boards.specs.declared.board.Wires.{Wires}

-- a reading, unless the answer is a refusal
abbrev pub or_refused : Answer → Progress → Progress
or_refused a r = cond (eqb a.number 0) r (refused a.number a.place)

-- a reading that is refused with this answer
abbrev pub Refuses : Progress → Answer → Type 0
Refuses v a = (0 < a.number) × (v ≡ refused a.number a.place)

-- what a check comes to: it passes, and the reading is the board p, or it is refused with that answer
abbrev pub Decides : Progress → Parsed → Result (Unit {0}) Answer → Type 0
Decides v p (Ok _) = v ≡ whole p
Decides v p (Err a) = Refuses v a

-- a board of these nodes, without wires
abbrev pub noded : ℕ → ℕ → List NodeRecord → Parsed
noded N i ns = record { size = N; input = i; nodes = ns; wires = [] }

-- the board with these wires
abbrev pub wired : Parsed → List Wire → Parsed
wired p ws = record { size = p.size; input = p.input; nodes = p.nodes; wires = ws }

-- the board that the three parts make
abbrev pub made_of : Head → Nodes → List Wire → Parsed
made_of h n ws = wired (noded h.size h.input (take n.count n.nodes)) ws

-- ---- one record of each part

-- a record of length z and kind k, with all its bytes, stands at an offset
abbrev pub starts_with : List ℕ → ℕ → ℕ → ℕ → Bool
starts_with s at z k = leb (at + z) (length s) && eqb (u16_at s at) z && eqb (u16_at s (at + 2)) k

-- what a record of the nodes says: a node, nothing where another kind follows, or its refusal

abbrev pub node_body : ℕ → ℕ → ℕ → Option NodeKind → Result (Option NodeKind) Answer
node_body at i lines None = Err (answer 4 at)
node_body at i lines (Some k) = cond (node_fits i lines k) (Ok (Some k)) (Err (answer 4 at))

unfoldable pub node_read : List ℕ → ℕ → ℕ → ℕ → Result Found ℕ → Result (Option NodeKind) Answer
node_read s at i lines (Ok found.Head) = Ok None
node_read s at i lines (Ok found.Node) = node_body at i lines (rule_of (u16_at s (at + 4)) (u32_at s (at + 6)) (u32_at s (at + 10)))
node_read s at i lines (Ok found.Wire) = Ok None
node_read s at i lines (Ok found.End) = Ok None
node_read s at i lines (Err n) = Err (answer n at)

-- the record found at an offset is a wire that may follow w wires, on a board of i nodes
abbrev pub is_wire : List ℕ → ℕ → ℕ → ℕ → Result Found ℕ → Bool
is_wire s at i w (Ok found.Head) = false
is_wire s at i w (Ok found.Node) = false
is_wire s at i w (Ok found.Wire) = wire_fits i w (u16_at s (at + 4)) (u16_at s (at + 6))
is_wire s at i w (Ok found.End) = false
is_wire s at i w (Err n) = false

-- what ends the nodes, where the record found is none of theirs: the next part, or a refusal
abbrev pub nodes_end : ℕ → Result Found ℕ → Result (Option NodeKind) Answer
nodes_end at (Ok f) = Ok None
nodes_end at (Err n) = Err (answer n at)

-- what ends the wires, where the record found is none that may follow: the end record, or a refusal; a wire there is refused with 5
abbrev pub wires_end : ℕ → Result Found ℕ → Result (Unit {0}) Answer
wires_end at (Ok found.Head) = Ok tt
wires_end at (Ok found.Node) = Ok tt
wires_end at (Ok found.Wire) = Err (answer 5 at)
wires_end at (Ok found.End) = Ok tt
wires_end at (Err n) = Err (answer n at)

-- ---- what each part gives

-- the bounds of a place of no node
abbrev pub no_bounds : NodeBounds
no_bounds = record { few = 0; many = 0 }

-- b has the fewest and the most sources that a node takes
abbrev pub Bounds : NodeRecord → NodeBounds → Type 0
Bounds r b = (b.few ≡ fewest r.kind) × (b.many ≡ most r.kind)

-- the head that the reading v comes to
pub record Headed (v : Progress) (h : Head) : Type 0 where
  pub reads : v ≡ going 8 1 (headed h.size h.input)
  pub small : h.size ≤ 128
  pub input_small : h.input < 65536

abbrev pub HeadRead : Progress → Result Head Answer → Type 0
HeadRead v (Ok h) = Headed v h
HeadRead v (Err a) = Refuses v a

-- from a head with block size N, whatever its input node: so many nodes, and then v of them
pub record Noded (s : List ℕ) (N : ℕ) (r : Nodes) (v : Parsed → Progress) : Type 0 where
  pub reads : (i : ℕ) → run (suc r.count) s (going 8 2 (headed N i)) ≡ v (noded N i (take r.count r.nodes))
  pub long : length r.nodes ≡ 64
  pub few : r.count ≤ 64
  pub bound : (i : ℕ) → i < r.count → Bounds (get_or r.nodes i blank) (get_or r.bounds i no_bounds)
  pub sum : r.values ≡ cells_of N (take r.count r.nodes)
  pub small : r.values ≤ 278720
  pub next_is : r.next ≡ 8 + 14 * r.count
  pub inside : r.next ≤ length s

-- the nodes, and then a step that goes as after a wire, or a refusal
abbrev pub NodesRead : List ℕ → ℕ → Nodes → Result (Unit {0}) Answer → Type 0
NodesRead s N r (Ok _) = Noded s N r (λ p. step_of s (going r.next 3 p))
NodesRead s N r (Err a) = (0 < a.number) × Noded s N r (λ _. refused a.number a.place)

-- from a board of n nodes: so many wires, whether the end record follows or a refusal
pub record Wired (s : List ℕ) (start n : ℕ) (w : Wires) (next : ℕ) (v : Parsed → Progress) : Type 0 where
  pub reads : (p : Parsed) → length p.nodes ≡ n → p.wires ≡ [] → run (suc w.count) s (going start 3 p) ≡ v (wired p (wires_of w.list w.count))
  pub long : length w.list ≡ 128
  pub few : w.count ≤ 128
  pub joined : Joined n w.list w.count
  pub next_is : next ≡ start + 8 * w.count
  pub inside : next ≤ length s

abbrev pub WiresRead : List ℕ → ℕ → ℕ → Wires → Result ℕ Answer → Type 0
WiresRead s start n w (Ok next) = Wired s start n w next (end_by s next)
WiresRead s start n w (Err a) = (0 < a.number) × Wired s start n w a.place (λ _. refused a.number a.place)

-- ---- check 6 on arrays

-- node i's number of sources, nine standing for more than eight, and its bounds, of each node of p
pub record Counts (p : Parsed) (bounds : List NodeBounds) (counts : List ℕ) : Type 0 where
  pub bound : (i : ℕ) → i < length p.nodes → Bounds (get_or p.nodes i blank) (get_or bounds i no_bounds)
  pub counted : (i : ℕ) → i < length p.nodes → get_or counts i 0 ≡ min 9 (length (distinct_sources p.wires i))

-- a count lies within the bounds that it stands beside
abbrev pub fits : NodeBounds × ℕ → Bool
fits p = leb p.0.few p.1 && leb p.1 p.0.many

-- the first n bounds, each beside its count
abbrev pub beside : List NodeBounds → List ℕ → ℕ → List (NodeBounds × ℕ)
beside bounds counts n = zip (take n bounds) counts
