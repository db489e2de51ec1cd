-- The number message.
--     number_missing, number_there            checks 11 and 12 on the code's arrays
--     number_told                             what holds where they pass
--     set_long, set_other, set_judged         what a number that is set leaves
-- Assumes nothing.
use Prim.Native.Nat.{ℕ, ◌+◌, ◌≤◌, ◌<◌}
use mathlib.Core.Path.{◌≡◌, sym, ap, ◌∙◌}
use mathlib.Core.Logic.{◌≢◌}
use mathlib.Core.Bool.{Bool, true, false, cond, ◌&&◌}
use mathlib.Core.List.{List, [], ◌∷◌, ◌++◌}
use native.Mathlib.Decide.{ℕ_discrete}
use native.Mathlib.Numerals.{add-one}
use native.Mathlib.Omega.{arith}
use borrow.Author.Tests.{ltb-true, lt-ltb, le-ltb}
use lib.Dec.{T, ltb}
use lib.Ieee.{Float, binary32, to_bits, fits}
use lib.ListN.{length, set, take, drop, length-set}
use lib.Seq.{drop-set-add, take-set-lt, set_split, append_snoc, paste}
use Rattle.kinds.specs.Kind.{cell_size, number_index}
use Rattle.kinds.specs.Cell.{takes_number, value_fits, cell_fits}
use Rattle.kinds.specs.declared.kind.NodeKind.{NodeKind}
use Rattle.kinds.specs.declared.kind.NodeRecord.{NodeRecord}
use Rattle.kinds.proofs.Kept.{message_fits}
use Rattle.records.specs.Answer.{answer}
use Rattle.boards.specs.Board.{Parsed}
use Rattle.memory.specs.Memory.{node_in, passed, node_at, kind_at}
use Rattle.memory.specs.Calls.{check_number, put_number}
use Rattle.boards.specs.Read.{parsed_of}
use Rattle.memory.specs.Fine.{Fine}
use Rattle.records.specs.declared.answer.Answer.{Answer}
use Rattle.boards.specs.declared.board.Board.{Board}
use Rattle.memory.proofs.CallCells.{node_in_lem, count_nodes, cell_in}
use Rattle.memory.proofs.CallChecks.{passes}
use Rattle.memory.proofs.CallLaws.{cell_at, Whole, Judged, paste_other}
use Rattle.reading.proofs.Choice.{both}

-- ---- checks 11 and 12 on the code's arrays

-- the two checks by their tests
abbrev by : ℕ → Bool → Bool → Bool → Answer
by k there takes right = cond (there && takes) (cond right passed (answer 12 k)) (answer 11 k)

module _ (b : Board) (k : ℕ) (x : Float) where
  abbrev p : Parsed
  p = parsed_of b

  pub number_missing : b.count ≤ k → check_number p k x ≡ answer 11 k
  number_missing h =
      let gone : ltb k (length p.nodes) ≡ false = le-ltb k (length p.nodes) (omega (arith, count_nodes b)) in
      λ i. by k (gone i) (takes_number (kind_at p k)) (value_fits (kind_at p k) x)

  module _ (here : k < b.count) where
    there : ltb k (length p.nodes) ≡ true
    there = lt-ltb k (length p.nodes) (omega (arith, count_nodes b))

    same : {A : Type 0} (f : NodeKind → A) {r : A} → f (node_in b.nodes k).kind ≡ r → f (kind_at p k) ≡ r
    same f e = ap (λ (n : NodeRecord). f n.kind) (node_in_lem b k here) ∙ e

    -- by what the node's kind says
    pub number_there : {t f : Bool} → takes_number (node_in b.nodes k).kind ≡ t → value_fits (node_in b.nodes k).kind x ≡ f
        → check_number p k x ≡ cond t (cond f passed (answer 12 k)) (answer 11 k)
    number_there takes right = λ i. by k (there i) (same takes_number takes i) (same (λ (d : NodeKind). value_fits d x) right i)

-- ---- where they pass

module _ (p : Parsed) (k : ℕ) (x : Float) where
  pub number_told : (check_number p k x).number ≡ 0 → (k < length p.nodes) × (value_fits (kind_at p k) x ≡ true) × (check_number p k x ≡ passed)
  number_told z =
      let t = passes (ltb k (length p.nodes) && takes_number (kind_at p k)) (cond (value_fits (kind_at p k) x) passed (answer 12 k)) (answer 11 k) (λ e. omega arith) z in
      let f = passes (value_fits (kind_at p k) x) passed (answer 12 k) (λ e. omega arith) t.1 in
      (ltb-true k (length p.nodes) (both (ltb k (length p.nodes)) (takes_number (kind_at p k)) t.0).0, f.0, t.2 ∙ f.2)

-- ---- what a number that is set leaves

-- a store is a part of one value
set-paste : (l : List ℕ) (i v : ℕ) → i < length l → set l i v ≡ paste l i (v ∷ []) 1
set-paste l i v h =
    set_split l i v h ∙ ap (λ (n : ℕ). take i l ++ v ∷ drop n l) (sym (add-one i)) ∙ sym (append_snoc (take i l) v (drop (i + 1) l))

module _ (p : Parsed) (fine : Fine p) (ws : List ℕ) (long : Whole p ws) (k : ℕ) (x : Float) (there : k < length p.nodes) where
  pub set_long : length (put_number p k x ws) ≡ length ws
  set_long = length-set ws _ _

  inside : (node_at p k).cell + number_index < length ws
  inside = omega (arith, cell_in p fine k there)

  set_own : cell_at p (put_number p k x ws) k ≡ set (cell_at p ws k) number_index (to_bits binary32 x)
  set_own =
      let at = (node_at p k).cell in
      let v = to_bits binary32 x in
      ap (take (cell_size p.size (kind_at p k))) (drop-set-add at ws number_index v)
      ∙ take-set-lt (cell_size p.size (kind_at p k)) (drop at ws) number_index v (omega arith)

  set_other : (j : ℕ) → j < length p.nodes → j ≢ k → cell_at p (put_number p k x ws) j ≡ cell_at p ws j
  set_other j l other =
      ap (λ (r : List ℕ). cell_at p r j) (set-paste ws ((node_at p k).cell + number_index) (to_bits binary32 x) inside)
      ∙ paste_other p fine ws long k there ((node_at p k).cell + number_index) (to_bits binary32 x ∷ []) 1 (omega arith) (omega arith) (omega arith) j l other

  pub set_judged : T (fits binary32 x) → value_fits (kind_at p k) x ≡ true → Judged p ws → Judged p (put_number p k x ws)
  set_judged f v h j l = go (ℕ_discrete j k)
    where
      own : cell_fits (kind_at p k) (cell_at p (put_number p k x ws) k) ≡ true
      own = ap (cell_fits (kind_at p k)) set_own ∙ message_fits (kind_at p k) x (cell_at p ws k) f v (h k there)

      go : Dec (j ≡ k) → cell_fits (kind_at p j) (cell_at p (put_number p k x ws) j) ≡ true
      go (yes e) = rw e own
      go (no n) = ap (cell_fits (kind_at p j)) (set_other j l n) ∙ h j l
