-- What a board's kinds and its late wires say of its nodes.
--     kind_in, delay_at, delay_there    a node's kind among the kinds, and that no delay stands past the end
--     line_fits                         a delay's line is 1 to 132,300
--     other_kind, new_kind, old_kinds   boards of which one has another delay in a place
--     late-among, late_are, late-all    what holds of each late wire, or of each wire, holds of the list of late ones; and back
--     one_in                            where one wire is late and leads into a delay, it is the only wire into it
-- Assumes nothing.
use Prim.Native.Nat.{ℕ, zero, suc, ◌≤◌, ◌<◌}
use mathlib.Core.Path.{◌≡◌, refl, sym, ap, subst, ◌∙◌}
use mathlib.Core.Logic.{◌≢◌}
use mathlib.Core.Bool.{Bool, true, false, cond, false≢true, and-eq-true_iff}
use mathlib.Core.List.{List, [], ◌∷◌, map}
use native.Mathlib.Omega.{arith}
use lib.Dec.{eqb, leb}
use lib.ListN.{length, get_or, set, length-map, get_or-map}
use lib.Seq.{set-set, set-get_or, get_or-set_same, get_or-set_other}
use borrow.Author.Tests.{leb-true, eqb-true, eq-eqb, ne_eqb}
use Rattle.kinds.specs.Kind.{sources_fit}
use Rattle.kinds.specs.Node.{LineFits}
use Rattle.kinds.specs.declared.kind.NodeKind.{NodeKind}
use Rattle.kinds.specs.declared.kind.NodeKind.TheVariants.{Pass, Delay}
use Rattle.kinds.specs.declared.kind.NodeRecord.{NodeRecord}
use Rattle.reading.specs.Table.{mem, All}
use Rattle.reading.specs.Order.{Wire, Each, sources, wire}
use Rattle.reading.proofs.Table.{or-false}
use Rattle.boards.specs.Board.{Parsed, blank}
use Rattle.graph.specs.Late.{is_late, late_wires}
use Rattle.sources.specs.Sources.{distinct_sources}
use Rattle.boards.specs.Obeys.{EachAt, no_wire}
use Rattle.boards.proofs.RoundSources.{distinct_leads}
use Rattle.memory.specs.Memory.{kind_at, listed, kinds}
use Rattle.memory.specs.Fine.{Fine}

-- ---- kinds

pub kind_in : (p : Parsed) (k : ℕ) → get_or (kinds p) k Pass ≡ kind_at p k
kind_in p k = get_or-map (λ (r : NodeRecord). r.kind) p.nodes k blank

-- past the end there is no delay
pub delay_at : {A : Type 0} (f : A → NodeKind) (z : A) (l : List A) (k n : ℕ) → get_or (map f l) k Pass ≡ Delay n → (k < length l) × (f (get_or l k z) ≡ Delay n)
delay_at f z [] k n e = let never : ◌≡◌ {A = ℕ} 0 1 = cc in absurd (omega arith)
delay_at f z (x ∷ l) zero n e = (omega arith, e)
delay_at f z (x ∷ l) (suc k) n e = let h = delay_at f z l k n e in (omega arith, h.1)

pub delay_there : (p : Parsed) (k n : ℕ) → kind_at p k ≡ Delay n → k < length p.nodes
delay_there p k n e = (delay_at (λ r. r.kind) blank p.nodes k n (kind_in p k ∙ e)).0

pub line_fits : (p : Parsed) → Fine p → (k n : ℕ) → kind_at p k ≡ Delay n → (1 ≤ n) × (n ≤ 132300)
line_fits p fine k n e = subst LineFits e (fine.nodes k (delay_there p k n e)).line

-- q has a delay of m samples where p has one of n
module _ (p q : Parsed) (k n m : ℕ) (is_delay : kind_at p k ≡ Delay n) (replaced : kinds q ≡ set (kinds p) k (Delay m)) where
  pub other_kind : (j : ℕ) → j ≢ k → kind_at q j ≡ kind_at p j
  other_kind j other =
      sym (kind_in q j)
      ∙ ap (λ (l : List NodeKind). get_or l j Pass) replaced
      ∙ get_or-set_other (kinds p) k j (Delay m) Pass other
      ∙ kind_in p j

  pub new_kind : kind_at q k ≡ Delay m
  new_kind =
      let there : k < length (kinds p) = omega (arith, length-map p.nodes (λ (r : NodeRecord). r.kind), delay_there p k n is_delay) in
      sym (kind_in q k) ∙ ap (λ (l : List NodeKind). get_or l k Pass) replaced ∙ get_or-set_same (kinds p) k (Delay m) Pass there

  pub old_kinds : kinds p ≡ set (kinds q) k (Delay n)
  old_kinds =
      sym (set-get_or (kinds p) k Pass)
      ∙ ap (set (kinds p) k) (kind_in p k ∙ is_delay)
      ∙ sym (set-set (kinds p) k (Delay m) (Delay n))
      ∙ ap (λ (l : List NodeKind). set l k (Delay n)) (sym replaced)

-- ---- the late wires of a list

-- what holds of each late wire of a list holds of the list of them
pub late-among : (P : Wire → Type 0) (l : List ℕ) (ws : List Wire) → EachAt (λ j v. is_late l v ≡ true → P v) no_wire ws → All P (late_wires l ws)
unfolding late_wires
late-among P l [] h = tt
late-among P l (w ∷ ws) h = go (is_late l w) refl (late-among P l ws (λ j q. h (suc j) (omega arith)))
  where
    go : (b : Bool) → is_late l w ≡ b → All P (late_wires l ws) → All P (cond b (w ∷ late_wires l ws) (late_wires l ws))
    go true e ih = (h 0 (omega arith) e, ih)
    go false e ih = ih

each_at : (P : Wire → Type 0) (ws : List Wire) → Each P ws → EachAt (λ j. P) no_wire ws
each_at P [] h j l = absurd (omega arith)
each_at P (w ∷ ws) h zero l = h.0
each_at P (w ∷ ws) h (suc j) l = each_at P ws h.1 j (omega arith)

-- late wires are wires
pub late_are : (P : Wire → Type 0) (l : List ℕ) (ws : List Wire) → Each P ws → All P (late_wires l ws)
late_are P l ws h = late-among P l ws (λ j q e. each_at P ws h j q)

-- and back
pub late-all : (P : Wire → Type 0) (l : List ℕ) (ws : List Wire) → All P (late_wires l ws) → Each (λ w. is_late l w ≡ true → P w) ws
unfolding late_wires
late-all P l [] h = tt
late-all P l (w ∷ ws) h = go (is_late l w) refl h (late-all P l ws)
  where
    go : (b : Bool) → is_late l w ≡ b → All P (cond b (w ∷ late_wires l ws) (late_wires l ws))
        → (All P (late_wires l ws) → Each (λ v. is_late l v ≡ true → P v) ws) → (is_late l w ≡ true → P w) × Each (λ v. is_late l v ≡ true → P v) ws
    go true e h ih = (λ _. h.0, ih h.1)
    go false e h ih = (λ d. absurd (false≢true (sym e ∙ d)), ih h)

-- ---- the one late wire

-- where all wires into k are late, its sources are those of the late wires
late-sources : (l : List ℕ) (k : ℕ) (ws : List Wire) → EachAt (λ j v. v.target ≡ k → is_late l v ≡ true) no_wire ws
    → sources (late_wires l ws) k ≡ sources ws k
unfolding late_wires
late-sources l k [] h = refl
late-sources l k (w ∷ ws) h = go (is_late l w) refl (late-sources l k ws (λ j q. h (suc j) (omega arith)))
  where
    go : (b : Bool) → is_late l w ≡ b → sources (late_wires l ws) k ≡ sources ws k
        → sources (cond b (w ∷ late_wires l ws) (late_wires l ws)) k ≡ cond (eqb w.target k) (w.source ∷ sources ws k) (sources ws k)
    go true e ih = ap (λ (x : List ℕ). cond (eqb w.target k) (w.source ∷ x) x) ih
    go false e ih = rw (ne_eqb w.target k (λ t. false≢true (sym e ∙ h 0 (omega arith) t))) ih

-- a wire's source is among the distinct ones of its target
abbrev InWires : List Wire → Wire → Type 0
InWires ws w = mem w.source (distinct_sources ws w.target) ≡ true

each_in : (ws : List Wire) → EachAt (λ j. InWires ws) no_wire ws
each_in ws j h =
    let w : Wire = get_or ws j no_wire in
    (distinct_leads ws w.target w.source).1 (record { place = j; there = h; source_is = refl; target_is = refl })

-- a list of one number
only_one : (l : List ℕ) (a b : ℕ) → length l ≡ 1 → mem a l ≡ true → mem b l ≡ true → a ≡ b
only_one [] a b e h j = absurd (omega arith)
only_one (x ∷ []) a b e h j = eqb-true a x (sym (or-false (eqb a x)) ∙ h) ∙ sym (eqb-true b x (sym (or-false (eqb b x)) ∙ j))
only_one (x ∷ y ∷ l) a b e h j = absurd (omega arith)

module _ (p : Parsed) (fine : Fine p) where
  one_source : (k n : ℕ) → kind_at p k ≡ Delay n → length (distinct_sources p.wires k) ≡ 1
  one_source k n e =
      let count : ℕ = length (distinct_sources p.wires k) in
      let fit : sources_fit (Delay n) count ≡ true = rw e at (fine.formed.sources_fit_lem blank k (delay_there p k n e)) in
      let two = (and-eq-true_iff (leb 1 count) (leb count 1)).0 fit in
      omega (arith, leb-true 1 count two.0, leb-true count 1 two.1)

  module _ (w : Wire) (n : ℕ) (one_late : late_wires (listed p) p.wires ≡ w ∷ []) (is_delay : kind_at p w.target ≡ Delay n) where
    -- it is late, and one of the board's
    the_late : (is_late (listed p) w ≡ true) × InWires p.wires w
    the_late =
        let P : Wire → Type 0 = λ v. (is_late (listed p) v ≡ true) × InWires p.wires v in
        (subst (All P) one_late (late-among P (listed p) p.wires (λ j h e. (e, each_in p.wires j h)))).0

    -- so is each wire into its target, since there is one source
    all_late : EachAt (λ j v. v.target ≡ w.target → is_late (listed p) v ≡ true) no_wire p.wires
    all_late j h t =
        let once : List ℕ = distinct_sources p.wires w.target in
        let e = only_one once (get_or p.wires j no_wire).source w.source (one_source w.target n is_delay) (rw t at (each_in p.wires j h)) the_late.1 in
        (λ i. is_late (listed p) (wire (e i) (t i))) ∙ the_late.0

    pub one_in : sources p.wires w.target ≡ w.source ∷ []
    one_in =
        sym (late-sources (listed p) w.target p.wires all_late)
        ∙ ap (λ (ws : List Wire). sources ws w.target) one_late
        ∙ ap (λ (b : Bool). cond b (w.source ∷ []) []) (eq-eqb w.target w.target refl)
