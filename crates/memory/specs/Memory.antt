-- A board's memory (document 01, "Memory"), as its list of 4-byte values: cells in node order. Definitions only.
use Rattle.std.specs.Prelude.{ℕ, suc, cond, List, [], ◌∷◌, ◌++◌, map, get_or, drop}
use Rattle.kinds.specs.Cell.{values_of, fresh_cell, cell_fits}
use Rattle.kinds.specs.declared.kind.NodeKind.{NodeKind}
use Rattle.kinds.specs.declared.kind.NodeRecord.{NodeRecord}
use Rattle.records.specs.Answer.{answer}
use Rattle.boards.specs.Board.{Parsed, blank}
use Rattle.graph.specs.Visit.{visiting_list}
use Rattle.records.specs.declared.answer.Answer.{Answer}

-- ---- nodes by number

-- node k of a list; past the end a pass at 0, which is never used
abbrev pub node_in : List NodeRecord → ℕ → NodeRecord
node_in nodes k = get_or nodes k blank

abbrev pub node_at : Parsed → ℕ → NodeRecord
node_at p k = node_in p.nodes k

abbrev pub kind_at : Parsed → ℕ → NodeKind
kind_at p k = (node_at p k).kind

-- what the nodes are
abbrev pub kinds : Parsed → List NodeKind
kinds p = map (λ r. r.kind) p.nodes

-- the visiting list
abbrev pub listed : Parsed → List ℕ
listed p = visiting_list p.wires

-- ---- fresh

abbrev pub fresh_from : ℕ → List NodeRecord → List ℕ
fresh_from N [] = []
fresh_from N (r ∷ rs) = values_of (fresh_cell N r.kind) ++ fresh_from N rs

-- the values of fresh memory
unfoldable pub fresh_values : Parsed → List ℕ
fresh_values p = fresh_from p.size p.nodes

-- ---- check 8: the lowest node with a judged value that is not as it must be

abbrev pub passed : Answer
passed = answer 0 0

unfoldable pub check_cells : List ℕ → ℕ → List NodeRecord → Answer
check_cells ws i [] = passed
check_cells ws i (r ∷ rs) = cond (cell_fits r.kind (drop r.cell ws)) (check_cells ws (suc i) rs) (answer 8 i)
