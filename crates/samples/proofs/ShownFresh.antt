-- Fresh memory shows the theory's fresh cells.
-- Assumes nothing.
use Prim.Native.Nat.{ℕ, zero, suc, ◌+◌, ◌*◌, ◌≤◌}
use mathlib.Core.Path.{◌≡◌, refl, sym, ap, ◌∙◌}
use mathlib.Core.Bool.{Bool, true, false, cond}
use mathlib.Core.List.{List, [], ◌∷◌, ◌++◌, map, append_assoc, append-nil}
use native.Mathlib.Omega.{arith}
use lib.Dec.{eqb}
use lib.ListN.{length, get_or, take, replicate, replicate-append-replicate}
use lib.Seq.{take-suc, take-length}
use Rattle.kinds.specs.Kind.{channels_of}
use Rattle.kinds.specs.Rule.{Frame}
use Rattle.kinds.specs.Cell.{values_of, fresh_cell}
use Rattle.kinds.specs.declared.kind.NodeKind.{NodeKind}
use Rattle.kinds.specs.declared.kind.NodeRecord.{NodeRecord}
use Rattle.boards.specs.Board.{blank, Parsed}
use Rattle.memory.specs.Memory.{kind_at, fresh_from, fresh_values}
use Rattle.samples.specs.Reading.{silence, samples_of}
use Rattle.samples.specs.Instance.{memory_rules, fresh_cells, cell_in, shown_to, shown}
use Rattle.samples.proofs.ShownCells.{channels_are}

-- ---- a fresh cell

map-replicate : (f : Frame → ℕ) (n : ℕ) (a : Frame) → map f (replicate n a) ≡ replicate n (f a)
map-replicate f zero a = refl
map-replicate f (suc n) a = ap (λ (l : List ℕ). f a ∷ l) (map-replicate f n a)

silent : (k : NodeKind) (N : ℕ) → samples_of (channels_of k) (replicate N silence) ≡ replicate (N * channels_of k) 0
silent k N = go (eqb (channels_of k) 2) refl
  where
    ls : map (λ (f : Frame). f.left) (replicate N silence) ≡ replicate N 0
    ls = map-replicate (λ (f : Frame). f.left) N silence

    rs : map (λ (f : Frame). f.right) (replicate N silence) ≡ replicate N 0
    rs = map-replicate (λ (f : Frame). f.right) N silence

    go : (b : Bool) → eqb (channels_of k) 2 ≡ b
        → cond b (map (λ (f : Frame). f.left) (replicate N silence) ++ map (λ (f : Frame). f.right) (replicate N silence)) (map (λ (f : Frame). f.left) (replicate N silence))
        ≡ replicate (N * channels_of k) 0
    go true e =
        let n : N + N ≡ N * channels_of k = rw (channels_are k true e) (omega arith) in
        (λ i. ls i ++ rs i) ∙ replicate-append-replicate N N 0 ∙ ap (λ (j : ℕ). replicate j 0) n
    go false e =
        let n : N ≡ N * channels_of k = rw (channels_are k false e) (omega arith) in
        ls ∙ ap (λ (j : ℕ). replicate j 0) n

-- ---- all of them

fresh-append : (N : ℕ) (rs ts : List NodeRecord) → fresh_from N (rs ++ ts) ≡ fresh_from N rs ++ fresh_from N ts
fresh-append N [] ts = refl
fresh-append N (r ∷ rs) ts =
    ap (λ (l : List ℕ). values_of (fresh_cell N r.kind) ++ l) (fresh-append N rs ts)
    ∙ sym (append_assoc (values_of (fresh_cell N r.kind)) (fresh_from N rs) (fresh_from N ts))

module _ (p : Parsed) where
  pub fresh_cell_lem : (k : ℕ) → fresh_cell p.size (kind_at p k) ≡ cell_in p (fresh_cells p) k
  unfolding fresh_cell memory_rules
  fresh_cell_lem k = λ i. record { state = (fresh_cell p.size (kind_at p k)).state; samples = sym (silent (kind_at p k) p.size) i }

  fresh_to : (m : ℕ) → m ≤ length p.nodes → fresh_from p.size (take m p.nodes) ≡ shown_to p (fresh_cells p) m
  fresh_to zero h = refl
  fresh_to (suc m) h =
      let r : NodeRecord = get_or p.nodes m blank in
      let cell : fresh_from p.size (r ∷ []) ≡ values_of (cell_in p (fresh_cells p) m) = append-nil (values_of (fresh_cell p.size r.kind)) ∙ ap values_of (fresh_cell_lem m) in
      ap (fresh_from p.size) (take-suc p.nodes m blank h)
      ∙ fresh-append p.size (take m p.nodes) (r ∷ [])
      ∙ (λ i. fresh_to m (omega arith) i ++ cell i)

  pub fresh_shown : fresh_values p ≡ shown p (fresh_cells p)
  unfolding fresh_values
  fresh_shown = ap (fresh_from p.size) (sym (take-length p.nodes)) ∙ fresh_to (length p.nodes) (omega arith)
