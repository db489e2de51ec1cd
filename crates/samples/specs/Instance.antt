-- A board's nodes as the general theory (crate reading) takes them: its `Board`, and its `Rules` twice, on what memory holds and on what the
-- reading knows. `shown` is the memory that cells stand for. Scaffolding, of which the statements say nothing. Definitions only.
use Rattle.std.specs.Prelude.{ℕ, ◌≡◌, true, cond, List, [], ◌∷◌, map, length, replicate, eqb, ltb}
use Rattle.std.specs.Float.{nan, binary32}
use Rattle.std.specs.Float.Ieee.{of_bits}
use Rattle.values.specs.Words.{unwords}
use Rattle.kinds.specs.Kind.{channels_of, line_of}
use Rattle.kinds.specs.declared.kind.NodeKind.{NodeKind}
use Rattle.kinds.specs.Rule.{Brought, Frame, State, with_number, sample_by, state_by}
use Rattle.kinds.specs.Cell.{Cell, values_of, fresh_cell, number_fits, carry_fits, place_fits}
use Rattle.kinds.specs.History.{Heard, fresh_heard, set_number, sample_heard, heard_after}
use Rattle.reading.specs.Table.{joined}
use Rattle.reading.specs.Order.{Wire, sources}
use Rattle.reading.specs.Effect.{Effect}
use Rattle.reading.specs.Board as theory
use Rattle.reading.specs.Blocks as blocks
use Rattle.sources.specs.Sources.{distinct_sources, second_source}
use Rattle.boards.specs.Board.{Parsed}
use Rattle.boards.specs.BoardParts.{wired as with_wires}
use Rattle.graph.specs.Visit.{visiting_list}
use Rattle.memory.specs.Memory.{kind_at, listed}
use Rattle.samples.specs.Reading.{mono, silence, right_sample, samples_of}

-- ---- the board

-- under the wiring that p has
abbrev pub net_of : Parsed → theory.Net Frame
net_of p = record { size = p.size; wires = p.wires; input = p.input; visit = listed p; silence = silence }

-- with p's nodes, and a wiring W that calls C may change
abbrev pub board_with : {C W : Type 0} → Parsed → W → (W → List Wire) → (W → C → List (Effect W ℕ ℕ)) → theory.Board C W ℕ Frame ℕ
board_with p first wires does = record {
  size = p.size;
  input = p.input;
  sink = 0;
  enter = mono;
  quiet = 0;
  first = first;
  wires = wires;
  visit = λ w. visiting_list (wires w);
  effects = does;
}

-- ---- the rules

-- of frames in wire order, the one that node a brings
abbrev pub frame_of : List ℕ → List Frame → ℕ → Frame
frame_of [] fs a = silence
frame_of (s ∷ ss) [] a = silence
frame_of (s ∷ ss) (f ∷ fs) a = cond (eqb a s) f (frame_of ss fs a)

-- what node k's wires bring, where source a brings get a; the second source counts only where there are two
abbrev pub brought_with : Parsed → ℕ → (ℕ → Frame) → Brought
brought_with p k get = record {
  left = map (λ a. of_bits binary32 (get a).left) (distinct_sources p.wires k);
  right = map (λ a. of_bits binary32 (right_sample p a (get a))) (distinct_sources p.wires k);
  second = cond (ltb 1 (length (distinct_sources p.wires k))) (of_bits binary32 (get (second_source p.wires k)).left) nan;
}

abbrev pub brought_from : Parsed → ℕ → List Frame → Brought
brought_from p k fs = brought_with p k (frame_of (sources p.wires k) fs)

-- on what memory holds
unfoldable pub memory_rules : Parsed → theory.Rules Frame State ℕ
memory_rules p = record {
  fresh = λ k. (fresh_cell p.size (kind_at p k)).state;
  step = λ k i s h fs. (sample_by (kind_at p k) s h (brought_from p k fs), state_by (kind_at p k) s (brought_from p k fs));
  set = λ k v s. with_number s v;
}

-- on what the reading knows
unfoldable pub reading_rules : Parsed → theory.Rules Frame Heard ℕ
reading_rules p = record {
  fresh = λ k. fresh_heard (kind_at p k);
  step = λ k i h f fs. (sample_heard (kind_at p k) h f (brought_from p k fs), heard_after (kind_at p k) h (brought_from p k fs));
  set = λ k v h. set_number v h;
}

-- under each wiring
abbrev pub memory_with : {W : Type 0} → Parsed → (W → List Wire) → W → theory.Rules Frame State ℕ
memory_with p wires w = memory_rules (with_wires p (wires w))

abbrev pub reading_with : {W : Type 0} → Parsed → (W → List Wire) → W → theory.Rules Frame Heard ℕ
reading_with p wires w = reading_rules (with_wires p (wires w))

-- ---- what holds all along

-- of the state of a node: its line's length, and that its judged values are as they must be
pub record Held (k : NodeKind) (s : State) : Type 0 where
  pub long : length s.line ≡ line_of k
  pub number : number_fits k s.number ≡ true
  pub carry : carry_fits k s.carry ≡ true
  pub place : place_fits k s.place ≡ true

-- ---- the memory that cells stand for

abbrev pub Cells : Type 0
Cells = blocks.Cells Frame State

abbrev pub fresh_cells : Parsed → Cells
fresh_cells p k = record { state = (memory_rules p).fresh k; samples = replicate p.size silence }

abbrev pub cell_in : Parsed → Cells → ℕ → Cell
cell_in p c k = record { state = (c k).state; samples = samples_of (channels_of (kind_at p k)) (c k).samples }

-- the values of the first n cells, in node order, and of the whole memory; its bytes
abbrev pub shown_to : Parsed → Cells → ℕ → List ℕ
shown_to p c n = joined n (λ k. values_of (cell_in p c k))

abbrev pub shown : Parsed → Cells → List ℕ
shown p c = shown_to p c (length p.nodes)

abbrev pub memory_of : Parsed → Cells → List ℕ
memory_of p c = unwords (shown p c)
