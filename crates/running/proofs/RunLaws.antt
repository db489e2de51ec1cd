-- What one node's block, and the input block, keep of a fine board's memory. The values ws are as many as the memory holds.
--     node_own, node_other, node_judged    after one node's block: the node's cell, every other cell, and that every cell fits
--     input_other, input_judged            the same of the input block
-- Assumes nothing.
use Prim.Native.Nat.{ℕ, ◌+◌, ◌≤◌, ◌<◌}
use mathlib.Core.Path.{◌≡◌, sym, ap, ◌∙◌}
use mathlib.Core.Logic.{◌≢◌}
use mathlib.Core.Bool.{true}
use mathlib.Core.List.{List}
use native.Mathlib.Omega.{arith}
use native.Mathlib.Decide.{ℕ_discrete}
use lib.ListN.{length, drop, length-drop}
use lib.Seq.{length-take-le}
use Rattle.values.specs.Parts.{part, part_before}
use Rattle.kinds.specs.Kind.{cell_size, samples_from}
use Rattle.kinds.specs.Cell.{cell_fits, run_values}
use Rattle.kinds.specs.Node.{node_run}
use Rattle.kinds.specs.declared.kind.NodeKind.{NodeKind}
use Rattle.kinds.specs.declared.kind.NodeKind.TheVariants.{Pass}
use Rattle.kinds.proofs.Kept.{run_long, run_own, run_fits, fits_part}
use Rattle.boards.specs.Board.{Parsed}
use Rattle.memory.specs.Memory.{node_at, kind_at}
use Rattle.running.specs.Run.{brought_by, run_node, put_input}
use Rattle.memory.specs.Fine.{Fine}
use Rattle.memory.proofs.CallCells.{cell_in}
use Rattle.memory.proofs.CallLaws.{cell_at, Whole, Judged, inside, paste_long, paste_other}

module _ (p : Parsed) (fine : Fine p) (ws : List ℕ) (long : Whole p ws) where
  -- ---- one node's block

  module _ (k : ℕ) (there : k < length p.nodes) where
    abbrev kind : NodeKind
    kind = kind_at p k

    cell_long : length (cell_at p ws k) ≡ cell_size p.size kind
    cell_long = length-take-le (cell_size p.size kind) (drop (node_at p k).cell ws) (omega (arith, length-drop (node_at p k).cell ws, cell_in p fine k there))

    new_long : cell_size p.size kind ≤ length (run_values kind p.size (brought_by p ws k) (cell_at p ws k))
    new_long = omega (arith, run_long kind p.size (brought_by p ws k) (cell_at p ws k) cell_long, cell_long)

    pub node_own : cell_at p (run_node p k ws) k ≡ run_values (kind_at p k) p.size (brought_by p ws k) (cell_at p ws k)
    unfolding run_node
    node_own = run_own kind p.size (brought_by p ws k) (node_at p k).cell ws (omega (arith, cell_in p fine k there))

    pub node_other : (j : ℕ) → j < length p.nodes → j ≢ k → cell_at p (run_node p k ws) j ≡ cell_at p ws j
    unfolding run_node node_run
    node_other = paste_other p fine ws long k there (node_at p k).cell _ (cell_size p.size kind) (omega arith) (omega arith) new_long

    pub node_judged : Judged p ws → Judged p (run_node p k ws)
    node_judged h j l = go (ℕ_discrete j k)
      where
        own : cell_fits kind (cell_at p (run_node p k ws) k) ≡ true
        own = ap (cell_fits kind) node_own ∙ run_fits kind p.size (brought_by p ws k) (cell_at p ws k) (h k there)

        go : Dec (j ≡ k) → cell_fits (kind_at p j) (cell_at p (run_node p k ws) j) ≡ true
        go (yes e) = rw e own
        go (no n) = ap (cell_fits (kind_at p j)) (node_other j l n) ∙ h j l

  -- ---- the input block

  module _ (xs : List ℕ) (block : length xs ≡ p.size) where
    abbrev i : ℕ
    i = p.input

    abbrev start : ℕ
    start = (node_at p p.input).cell + samples_from

    size : cell_size p.size (kind_at p i) ≡ samples_from + p.size
    size = ap (cell_size p.size) fine.input_pass ∙ omega arith

    pub input_long : length (put_input p xs ws) ≡ length ws
    unfolding put_input
    input_long = paste_long p fine ws long i fine.input_there start xs p.size (omega arith) (omega (arith, size)) (omega arith)

    pub input_other : (j : ℕ) → j < length p.nodes → j ≢ p.input → cell_at p (put_input p xs ws) j ≡ cell_at p ws j
    unfolding put_input
    input_other = paste_other p fine ws long i fine.input_there start xs p.size (omega arith) (omega (arith, size)) (omega arith)

    -- its judged values
    before_samples : part (put_input p xs ws) (node_at p i).cell samples_from ≡ part ws (node_at p i).cell samples_from
    unfolding put_input
    before_samples =
        part_before ws start xs p.size (inside p fine ws long i fine.input_there start xs p.size (omega arith) (omega (arith, size)) (omega arith)) (omega arith)
        (node_at p i).cell samples_from (omega arith)

    -- a pass's cell fits as the values before its samples do
    by_head : (vs : List ℕ) → cell_fits (kind_at p i) (cell_at p vs i) ≡ cell_fits Pass (part vs (node_at p i).cell samples_from)
    by_head vs =
        ap (λ (k : NodeKind). cell_fits k (part vs (node_at p i).cell (cell_size p.size k))) fine.input_pass
        ∙ fits_part Pass p.size (node_at p i).cell vs ∙ sym (fits_part Pass 0 (node_at p i).cell vs)

    pub input_judged : Judged p ws → Judged p (put_input p xs ws)
    input_judged h j l = go (ℕ_discrete j i)
      where
        own : cell_fits (kind_at p i) (cell_at p (put_input p xs ws) i) ≡ true
        own = by_head (put_input p xs ws) ∙ ap (cell_fits Pass) before_samples ∙ sym (by_head ws) ∙ h i fine.input_there

        go : Dec (j ≡ i) → cell_fits (kind_at p j) (cell_at p (put_input p xs ws) j) ≡ true
        go (yes e) = rw e own
        go (no n) = ap (cell_fits (kind_at p j)) (input_other j l n) ∙ h j l
