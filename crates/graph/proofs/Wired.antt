-- What a call knows of an accepted board's wires: they are as the visiting list, the late wires and the tail ask. Assumes nothing.
use mathlib.Core.Path.{◌≡◌, refl, subst}
use Prim.Native.Nat.{ℕ, zero, suc, ◌<◌}
use native.Mathlib.Nat.{le_trans}
use native.Mathlib.Omega.{arith}
use mathlib.Core.List.{List, [], ◌∷◌}
use Rattle.std.specs.Prelude.{Ok}
use Rattle.reading.specs.Order.{Wire, Each}
use Rattle.reading.proofs.Order.{each-source}
use Rattle.boards.specs.Judge.{read_board}
use Rattle.boards.specs.Wires.{Within, Joined, wires_of}
use Rattle.boards.specs.Read.{parsed_of, Read}
use Rattle.graph.specs.Visit.{visiting_list, Lists}
use Rattle.graph.specs.Walking.{Table, Gathered}
use Rattle.graph.specs.Listed.{SourcesBelow}
use Rattle.graph.specs.Tail.{tail_if, LinesFit}
use Rattle.boards.specs.declared.board.Board.{Board}
use Rattle.graph.proofs.Accepted.{joins_below, accepted_formed, count_is, table_at}
use Rattle.graph.proofs.Listed.{listed-within}
use Rattle.graph.proofs.Lines.{tail_front, lines_fit}

-- wires in an array, with every source below m
each_below : (l : List (ℕ × ℕ)) (m n : ℕ) → Joined m l n → Each (λ w. w.source < m) (wires_of l n)
each_below [] m zero h = tt
each_below [] m (suc n) h = tt
each_below (p ∷ l) m zero h = tt
each_below (p ∷ l) m (suc n) h = ((h 0 (omega arith)).0, each_below l m n (λ j b. h (suc j) (omega arith)))

pub arrays_below : (l : List (ℕ × ℕ)) (n m : ℕ) → Joined m l n → SourcesBelow (wires_of l n) m
arrays_below l n m h k s e =
    let f = each-source (λ w. w.source < m) (wires_of l n) (each_below l m n h) k s e in
    subst (λ (i : ℕ). i < m) f.2 f.1

-- the board's wires
abbrev wires_in : Board → List Wire
wires_in b = (parsed_of b).wires

module _ (s : List ℕ) (b : Board) (read : Read (read_board s) (Ok b)) where
  pub some_nodes : 0 < b.count
  some_nodes = subst (λ (n : ℕ). 0 < n) (count_is s b read) (accepted_formed s b read).some_nodes

  pub sources_below : SourcesBelow (wires_in b) b.count
  sources_below = subst (SourcesBelow (wires_in b)) (count_is s b read) (joins_below _ (wires_in b) (accepted_formed s b read).joins)

  -- the two ends of the wires, in their array
  pub wires_within : Joined 64 b.wires.list b.wires.count
  wires_within = b.wires.joined

  -- the table of sources is whole
  pub table : Table b.sources.counts b.sources.lists
  table = record {
    few = λ v h. (table_at s b read v h).few;
    nodes = λ v j h l. le_trans ((table_at s b read v h).source_in j l) b.few;
  }

  pub gathered : Gathered (wires_in b) b.sources.counts b.sources.lists
  gathered = record { size = λ v h. (table_at s b read v h).count_is; source = λ v j h l. (table_at s b read v h).source_is j l }

  module _ (nodes : List ℕ) (count : ℕ) (l : Lists (visiting_list (wires_in b)) nodes count) where
    -- listed nodes are the board's
    pub listed_in : Within b.count nodes count
    listed_in = listed-within (wires_in b) nodes count l b.count some_nodes b.few sources_below

    pub lines_listed : LinesFit b.nodes nodes count
    lines_listed = lines_fit (parsed_of b) b.nodes b.count refl some_nodes b.few sources_below (accepted_formed s b read).few_lines nodes count listed_in

  pub board_tail : tail_if b.nodes (wires_in b) (visiting_list (wires_in b)) ≡ tail_if (parsed_of b).nodes (wires_in b) (visiting_list (wires_in b))
  board_tail = tail_front (parsed_of b) b.nodes b.count refl some_nodes b.few sources_below
