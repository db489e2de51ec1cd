-- Check 6 and the board judge (document 01, "Answers by number"). Definitions only.
use Rattle.std.specs.Prelude.{ℕ, zero, suc, List, [], ◌∷◌, Bool, false, cond, ◌&&◌, length, eqb}
use Rattle.kinds.specs.Kind.{is_pass, sources_fit}
use Rattle.kinds.specs.declared.kind.NodeRecord.{NodeRecord}
use Rattle.reading.specs.Order.{sources}
use Rattle.records.specs.Answer.{answer}
use Rattle.sources.specs.Sources.{distinct_sources}
use Rattle.boards.specs.Board.{Parsed, Progress, going, refused, whole, read_records, memory_length}
use Rattle.records.specs.declared.answer.Answer.{Answer}

-- node i is there and is a pass
abbrev pub pass_at : List NodeRecord → ℕ → Bool
pass_at [] i = false
pass_at (r ∷ rs) zero = is_pass r.kind
pass_at (r ∷ rs) (suc i) = pass_at rs i

-- the input node is a pass without wires in
abbrev pub input_fits : Parsed → Bool
input_fits p = pass_at p.nodes p.input && eqb (length (sources p.wires p.input)) 0

-- the nodes from i on: the first with a wrong number of distinct sources is refused
unfoldable pub check_sources : Parsed → ℕ → List NodeRecord → Progress
check_sources p i [] = whole p
check_sources p i (r ∷ rs) = cond (sources_fit r.kind (length (distinct_sources p.wires i))) (check_sources p (suc i) rs) (refused 6 i)

-- no node 0; then a bad input node; then the lowest node with a wrong source count
abbrev pub check_six : Parsed → Progress
check_six p =
    cond (eqb (length p.nodes) 0) (refused 6 0)
    (cond (input_fits p) (check_sources p 0 p.nodes) (refused 6 p.input))

-- check 6 of a board whose records are read whole
abbrev pub then_six : Progress → Progress
then_six (going at last p) = going at last p
then_six (refused n w) = refused n w
then_six (whole p) = check_six p

-- checks 1 to 6: an accepted board is whole
unfoldable pub read_board : List ℕ → Progress
read_board s = then_six (read_records s)

-- ---- a call's answer: the refusal, or 0 and f of the board; the judge's place is the memory's length

abbrev pub answer_by : (Parsed → ℕ) → Progress → Answer
answer_by f (going at last p) = answer 1 at
answer_by f (refused n w) = answer n w
answer_by f (whole p) = answer 0 (f p)

unfoldable pub judge_of : List ℕ → Answer
judge_of s = answer_by memory_length (read_board s)
