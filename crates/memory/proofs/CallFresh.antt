-- Fresh memory: each node's number stored in zeros.
--     numbers_next, numbers_end    node by node
--     numbers_fresh                of a fine board, the values of fresh memory
--     words_zeros                  the words of zeros
-- Assumes nothing.
use Prim.Native.Nat.{ℕ, zero, suc, ◌+◌, ◌*◌, ◌≤◌, ◌<◌}
use mathlib.Core.Path.{◌≡◌, refl, sym, ap, ◌∙◌}
use mathlib.Core.List.{List, [], ◌∷◌, ◌++◌, append_assoc}
use native.Mathlib.Numerals.{add-one}
use native.Mathlib.Omega.{arith}
use lib.ListN.{length, set, take, drop, replicate, length-append, replicate-append-replicate, drop_of_length-le}
use lib.Seq.{drop-cons}
use lib.Ieee.{binary32, to_bits}
use Rattle.values.specs.Words.{words}
use Rattle.values.specs.Floats.{set_float}
use Rattle.kinds.specs.Kind.{channels_of, line_of, cell_size, number_index}
use Rattle.kinds.specs.Cell.{values_of, fresh_cell, number_of}
use Rattle.kinds.specs.declared.kind.NodeKind.{NodeKind}
use Rattle.kinds.specs.declared.kind.NodeRecord.{NodeRecord}
use Rattle.kinds.proofs.Cells.{set_append_right}
use Rattle.kinds.proofs.Fresh.{fresh_long}
use Rattle.boards.specs.Board.{blank, Parsed, cells_of}
use Rattle.memory.specs.Memory.{node_in, fresh_from, fresh_values}
use Rattle.memory.specs.Fine.{Fine}
use Rattle.memory.specs.Stages.{put_numbers}

module _ (nodes : List NodeRecord) (ws : List ℕ) (i : ℕ) where
  pub numbers_next : i < length nodes
      → put_numbers (drop (i + 1) nodes) (set_float ws ((node_in nodes i).cell + number_index) (number_of (node_in nodes i).kind)) ≡ put_numbers (drop i nodes) ws
  unfolding put_numbers
  numbers_next within = rw (add-one, drop-cons nodes i blank within)

  pub numbers_end : length nodes ≤ i → put_numbers (drop i nodes) ws ≡ ws
  unfolding put_numbers
  numbers_end past = rw (drop_of_length-le nodes past)

-- a number stored in a cell's zeros is the fresh cell
fresh_cell_lem : (N : ℕ) (k : NodeKind) (rest : ℕ)
    → set (replicate (cell_size N k + rest) 0) number_index (to_bits binary32 (number_of k)) ≡ values_of (fresh_cell N k) ++ replicate rest 0
unfolding values_of fresh_cell
fresh_cell_lem N k rest =
    let size : cell_size N k + rest ≡ suc (suc (suc (N * channels_of k + (line_of k + rest)))) = omega arith in
    rw size
    (ap (λ (l : List ℕ). to_bits binary32 (number_of k) ∷ 0 ∷ 0 ∷ l)
    (sym (replicate-append-replicate (N * channels_of k) (line_of k + rest) 0)
    ∙ ap (λ (l : List ℕ). replicate (N * channels_of k) 0 ++ l) (sym (replicate-append-replicate (line_of k) rest 0))
    ∙ sym (append_assoc (replicate (N * channels_of k) 0) (replicate (line_of k) 0) (replicate rest 0))))

-- cells that stand one after the other, from a start
abbrev InRow : ℕ → ℕ → List NodeRecord → Type 0
InRow N start rs = (k : ℕ) → k < length rs → (node_in rs k).cell ≡ start + cells_of N (take k rs)

numbers_row : (N : ℕ) (rs : List NodeRecord) (before : List ℕ) → InRow N (length before) rs
    → put_numbers rs (before ++ replicate (cells_of N rs) 0) ≡ before ++ fresh_from N rs
unfolding put_numbers
numbers_row N [] before row = refl
numbers_row N (r ∷ rs) before row =
    let at : r.cell + number_index ≡ length before + number_index = omega (arith, row 0 (omega arith)) in
    let cell : List ℕ = values_of (fresh_cell N r.kind) in
    let zeros : List ℕ = replicate (cells_of N rs) 0 in
    let stored : set_float (before ++ replicate (cells_of N (r ∷ rs)) 0) (r.cell + number_index) (number_of r.kind) ≡ (before ++ cell) ++ zeros =
    ap (λ (n : ℕ). set_float (before ++ replicate (cells_of N (r ∷ rs)) 0) n (number_of r.kind)) at
    ∙ set_append_right before (replicate (cells_of N (r ∷ rs)) 0) number_index (to_bits binary32 (number_of r.kind))
    ∙ ap (λ (l : List ℕ). before ++ l) (fresh_cell_lem N r.kind (cells_of N rs))
    ∙ sym (append_assoc before cell zeros) in
    ap (put_numbers rs) stored
    ∙ numbers_row N rs (before ++ cell) (λ k h. row (suc k) (omega arith) ∙ omega (arith, length-append before cell, fresh_long N r.kind))
    ∙ append_assoc before cell (fresh_from N rs)

pub numbers_fresh : (p : Parsed) → Fine p → put_numbers p.nodes (replicate (cells_of p.size p.nodes) 0) ≡ fresh_values p
unfolding fresh_values
numbers_fresh p fine = numbers_row p.size p.nodes [] (λ k h. (fine.nodes k h).cell ∙ omega arith)

four_more : (n : ℕ) → 4 * suc n ≡ suc (suc (suc (suc (4 * n))))
four_more n = omega arith

pub words_zeros : (n : ℕ) → words (replicate (4 * n) 0) ≡ replicate n 0
unfolding words
words_zeros zero = refl
words_zeros (suc n) = rw (four_more n) (ap (λ (l : List ℕ). 0 ∷ l) (words_zeros n))
