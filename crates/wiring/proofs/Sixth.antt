-- Check 6 of a board whose wires change at one node only: that node decides. Assumes nothing.
use Prim.Native.Nat.{ℕ, zero, suc, ◌+◌, ◌<◌}
use mathlib.Core.Path.{◌≡◌, refl, sym, ap, subst, ◌∙◌}
use mathlib.Core.Bool.{Bool, true, false, cond, ◌&&◌}
use mathlib.Core.List.{List, [], ◌∷◌}
use native.Mathlib.Decide.{ℕ_discrete}
use native.Mathlib.Nat.{add-zero, zero-add}
use native.Mathlib.Omega.{arith}
use borrow.Author.Tests.{ne_eqb}
use lib.Dec.{eqb}
use lib.ListN.{length, get_or}
use Rattle.std.proofs.Math.Bool.{and-false}
use Rattle.kinds.specs.Kind.{sources_fit}
use Rattle.kinds.specs.declared.kind.NodeRecord.{NodeRecord}
use Rattle.reading.specs.Order.{Wire, sources}
use Rattle.boards.specs.Board.{Parsed, Progress, going, refused, whole, blank, read_records}
use Rattle.boards.specs.Formed.{Formed}
use Rattle.boards.specs.Judge.{pass_at, input_fits, check_sources, check_six, then_six, read_board}
use Rattle.boards.specs.BoardParts.{wired as with_wires}
use Rattle.sources.specs.Sources.{distinct_sources}
use Rattle.boards.proofs.Formed.{six_same}
use Rattle.boards.proofs.Run.{refused_is_not_whole, going_is_not_whole}
use Rattle.boards.proofs.Six.{six_walked, six_input}

-- ---- an accepted board's input node

input_passed : (p : Parsed) → check_six p ≡ whole p → input_fits p ≡ true
input_passed p e = go (eqb (length p.nodes) 0) (input_fits p) e
  where
    go : (b f : Bool) → cond b (refused 6 0) (cond f (check_sources p 0 p.nodes) (refused 6 p.input)) ≡ whole p → f ≡ true
    go true f h = refused_is_not_whole 6 0 p h
    go false true h = refl
    go false false h = refused_is_not_whole 6 p.input p h

pub input_fits_lem : (s : List ℕ) (p : Parsed) → read_board s ≡ whole p → input_fits p ≡ true
unfolding read_board
input_fits_lem s p e = go (read_records s) e
  where
    go : (r : Progress) → then_six r ≡ whole p → input_fits p ≡ true
    go (going at last q) h = going_is_not_whole at last q p h
    go (refused n w) h = refused_is_not_whole n w p h
    go (whole q) h = input_passed p (subst (λ (x : Parsed). check_six x ≡ whole p) (six_same q p h) h)

-- ---- the walk over the nodes from i on: all of them fit, or the first that does not is known

module _ (q : Parsed) where
  abbrev FitsAt : ℕ → List NodeRecord → ℕ → Bool
  FitsAt i rs j = sources_fit (get_or rs j blank).kind (length (distinct_sources q.wires (i + j)))

  on : (i : ℕ) (r : NodeRecord) (rs : List NodeRecord) (j : ℕ) (b : Bool) → FitsAt i (r ∷ rs) (suc j) ≡ b → FitsAt (suc i) rs j ≡ b
  on i r rs j b e =
      let next : suc i + j ≡ i + suc j = omega arith in
      rw next e

  here : (i : ℕ) (r : NodeRecord) (rs : List NodeRecord) (b : Bool) → FitsAt i (r ∷ rs) 0 ≡ b → sources_fit r.kind (length (distinct_sources q.wires i)) ≡ b
  here i r rs b e = rw (add-zero i) at e

  walk_fits : (i : ℕ) (rs : List NodeRecord) → ((j : ℕ) → j < length rs → FitsAt i rs j ≡ true) → check_sources q i rs ≡ whole q
  unfolding check_sources
  walk_fits i [] h = refl
  walk_fits i (r ∷ rs) h = rw (here i r rs true (h 0 (omega arith))) (walk_fits (suc i) rs (λ j l. on i r rs j true (h (suc j) (omega arith))))

  walk_wrong : (i : ℕ) (rs : List NodeRecord) (j : ℕ) → j < length rs → ((k : ℕ) → k < j → FitsAt i rs k ≡ true) → FitsAt i rs j ≡ false → check_sources q i rs ≡ refused 6 (i + j)
  unfolding check_sources
  walk_wrong i [] j l h e = absurd (omega arith)
  walk_wrong i (r ∷ rs) zero l h e = rw (here i r rs false e, add-zero i)
  walk_wrong i (r ∷ rs) (suc j) l h e =
      let next : suc i + j ≡ i + suc j = omega arith in
      rw (here i r rs true (h 0 (omega arith)))
      (walk_wrong (suc i) rs j (omega arith) (λ k m. on i r rs k true (h (suc k) (omega arith))) (on i r rs j false e) ∙ ap (refused 6) next)

-- ---- the board p with the wires vs, which are others at node t only

module _ (p : Parsed) (f : Formed p) (input : input_fits p ≡ true) (vs : List Wire) (t : ℕ) (there : t < length p.nodes)
    (others : (k : ℕ) → (k ≡ t → ⊥) → sources vs k ≡ sources p.wires k) where
  some : length p.nodes ≡ 0 → ⊥
  some e = omega (arith, f.some_nodes)

  -- a wire into the input node
  pub six_into : t ≡ p.input → (length (sources vs t) ≡ 0 → ⊥) → check_six (with_wires p vs) ≡ refused 6 t
  six_into e h =
      six_input (with_wires p vs) some (rw (ne_eqb (length (sources vs p.input)) 0 (rw e at h)) (and-false (pass_at p.nodes p.input))) ∙ ap (refused 6) (sym e)

  module _ (apart : t ≡ p.input → ⊥) where
    walked : check_six (with_wires p vs) ≡ check_sources (with_wires p vs) 0 p.nodes
    walked =
        six_walked (with_wires p vs) some
        (ap (λ (l : List ℕ). pass_at p.nodes p.input && eqb (length l) 0) (others p.input (λ e. apart (sym e))) ∙ input)

    else_fits : (k : ℕ) → (k ≡ t → ⊥) → k < length p.nodes → FitsAt (with_wires p vs) 0 p.nodes k ≡ true
    else_fits k h l = rw (zero-add k, others k h) (f.sources_fit_lem blank k l)

    pub six_fits : sources_fit (get_or p.nodes t blank).kind (length (distinct_sources vs t)) ≡ true → check_six (with_wires p vs) ≡ whole (with_wires p vs)
    six_fits e = walked ∙ walk_fits (with_wires p vs) 0 p.nodes (λ j l. at j l (ℕ_discrete j t))
      where
        at : (j : ℕ) → j < length p.nodes → Dec (j ≡ t) → FitsAt (with_wires p vs) 0 p.nodes j ≡ true
        at j l (yes is) = rw (zero-add j, is) e
        at j l (no h) = else_fits j h l

    pub six_wrong : sources_fit (get_or p.nodes t blank).kind (length (distinct_sources vs t)) ≡ false → check_six (with_wires p vs) ≡ refused 6 t
    six_wrong e =
        walked ∙ walk_wrong (with_wires p vs) 0 p.nodes t there (λ k l. else_fits k (λ is. omega arith) (omega arith)) (rw (zero-add t) e)
        ∙ ap (refused 6) (zero-add t)
