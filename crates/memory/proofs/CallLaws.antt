-- What a change within one cell keeps of a fine board's memory. The values ws are as many as the memory holds.
--     judged_passed, passed_judged                   check 8 passes exactly where every cell fits
--     memory_passed, memory_told                     and checks 7 and 8 where the memory has its length besides
--     paste_long, paste_other                        the length, and every other cell
-- Assumes nothing.
use Prim.Native.Nat.{ℕ, zero, suc, ◌+◌, ◌≤◌, ◌<◌}
use borrow.Author.Tests.{eq-eqb}
use mathlib.Core.Path.{◌≡◌, refl, sym, ap, ◌∙◌}
use mathlib.Core.Logic.{◌≢◌}
use mathlib.Core.Bool.{true}
use mathlib.Core.List.{List, [], ◌∷◌}
use native.Mathlib.Omega.{arith}
use native.Mathlib.Decide.{dec_lt}
use lib.ListN.{length, drop}
use lib.Seq.{paste, length-paste}
use Rattle.values.specs.Words.{words}
use Rattle.values.specs.Parts.{part, part_before, part_after}
use Rattle.kinds.specs.Kind.{cell_size}
use Rattle.kinds.specs.Cell.{cell_fits}
use Rattle.kinds.specs.declared.kind.NodeRecord.{NodeRecord}
use Rattle.kinds.proofs.Kept.{fits_part}
use Rattle.records.specs.Answer.{answer}
use Rattle.boards.specs.Board.{Parsed, cells_of, memory_length}
use Rattle.memory.specs.Memory.{node_in, passed, node_at, kind_at, check_cells}
use Rattle.memory.specs.Calls.{and_then, check_length, check_values, check_memory}
use Rattle.memory.specs.Fine.{Fine}
use Rattle.records.specs.declared.answer.Answer.{Answer}
use Rattle.memory.proofs.CallCells.{cell_in, cell_apart}
use Rattle.memory.proofs.CallChecks.{passes, needed_long, then_both}

-- ---- the cells in the values

-- node k's cell
abbrev pub cell_at : Parsed → List ℕ → ℕ → List ℕ
cell_at p ws k = part ws (node_at p k).cell (cell_size p.size (kind_at p k))

-- so many values as the memory holds
abbrev pub Whole : Parsed → List ℕ → Type 0
Whole p ws = length ws ≡ cells_of p.size p.nodes

-- every judged value is as it must be
abbrev pub Judged : Parsed → List ℕ → Type 0
Judged p ws = (k : ℕ) → k < length p.nodes → cell_fits (kind_at p k) (cell_at p ws k) ≡ true

-- ---- check 8, node by node

module _ (ws : List ℕ) where
  abbrev Fitting : List NodeRecord → Type 0
  Fitting rs = (k : ℕ) → k < length rs → cell_fits (node_in rs k).kind (drop (node_in rs k).cell ws) ≡ true

  check_passed : (i : ℕ) (rs : List NodeRecord) → Fitting rs → check_cells ws i rs ≡ passed
  unfolding check_cells
  check_passed i [] h = refl
  check_passed i (r ∷ rs) h = rw (h 0 (omega arith)) (check_passed (suc i) rs (λ k l. h (suc k) (omega arith)))

  check_fitting : (i : ℕ) (rs : List NodeRecord) → (check_cells ws i rs).number ≡ 0 → Fitting rs
  unfolding check_cells
  check_fitting i [] z k l = absurd (omega arith)
  check_fitting i (r ∷ rs) z zero l = (passes (cell_fits r.kind (drop r.cell ws)) (check_cells ws (suc i) rs) (answer 8 i) (λ e. omega arith) z).0
  check_fitting i (r ∷ rs) z (suc k) l =
      let rest = (passes (cell_fits r.kind (drop r.cell ws)) (check_cells ws (suc i) rs) (answer 8 i) (λ e. omega arith) z).1 in
      check_fitting (suc i) rs rest k (omega arith)

module _ (p : Parsed) (ws : List ℕ) where
  pub judged_passed : Judged p ws → check_cells ws 0 p.nodes ≡ passed
  judged_passed h = check_passed ws 0 p.nodes (λ k l. sym (fits_part (kind_at p k) p.size (node_at p k).cell ws) ∙ h k l)

  pub passed_judged : (check_cells ws 0 p.nodes).number ≡ 0 → Judged p ws
  passed_judged e k l = fits_part (kind_at p k) p.size (node_at p k).cell ws ∙ check_fitting ws 0 p.nodes e k l

-- checks 7 and 8 pass exactly where the memory has its length and every cell fits
module _ (p : Parsed) (m : List ℕ) (a : Answer) where
  pub memory_passed : length m ≡ memory_length p → Judged p (words m) → check_memory p m a ≡ a
  memory_passed long judged = rw (eq-eqb (length m) (memory_length p) long) (ap (λ (b : Answer). and_then b a) (judged_passed p (words m) judged))

  pub memory_told : (check_memory p m a).number ≡ 0 → (length m ≡ memory_length p) × Judged p (words m) × (a.number ≡ 0)
  memory_told z =
      let seven = then_both (check_length p m) (and_then (check_values p m) a) z in
      let eight = then_both (check_values p m) a seven.1 in
      (needed_long (memory_length p) (length m) seven.0, passed_judged p (words m) eight.0, eight.1)

-- ---- a change within one cell

module _ (p : Parsed) (fine : Fine p) (ws : List ℕ) (long : Whole p ws) where
  module _ (k : ℕ) (there : k < length p.nodes) (at : ℕ) (vs : List ℕ) (n : ℕ)
      (from : (node_at p k).cell ≤ at) (to : at + n ≤ (node_at p k).cell + cell_size p.size (kind_at p k)) (enough : n ≤ length vs) where
    pub inside : at + n ≤ length ws
    inside = omega (arith, cell_in p fine k there)

    pub paste_long : length (paste ws at vs n) ≡ length ws
    paste_long = length-paste ws at vs n inside enough

    pub paste_other : (j : ℕ) → j < length p.nodes → j ≢ k → cell_at p (paste ws at vs n) j ≡ cell_at p ws j
    paste_other j l other = go (dec_lt j k)
      where
        go : Dec (j < k) → cell_at p (paste ws at vs n) j ≡ cell_at p ws j
        go (yes b) = part_before ws at vs n inside enough (node_at p j).cell (cell_size p.size (kind_at p j)) (omega (arith, cell_apart p fine j k b there))
        go (no b) =
            let after : k < j = later (λ (q : j ≡ k). other q) b in
            part_after ws at vs n inside enough (node_at p j).cell (cell_size p.size (kind_at p j)) (omega (arith, cell_apart p fine k j after l))
          where
            later : (j ≡ k → ⊥) → (j < k → ⊥) → k < j
            later a c = omega arith
