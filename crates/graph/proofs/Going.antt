-- The walk of `visit` in its arrays: marks and list stand for a walk of the definition, and the loop goes along v's distinct sources.
-- Assumes nothing.
use mathlib.Core.Path.{◌≡◌, refl, sym, ap, subst, subst⁻¹, ◌∙◌}
use Prim.Native.Nat.{ℕ, zero, suc, ◌+◌, ◌*◌, ◌<◌, ◌≤◌}
use native.Mathlib.Nat.{le_refl, le_trans, not-suc-le-zero, le_of_suc-le-suc}
use native.Mathlib.Numerals.{add-one}
use native.Mathlib.Decide.{ℕ_discrete}
use native.Mathlib.Omega.{arith}
use mathlib.Core.Bool.{Bool, true, false}
use mathlib.Core.List.{List, [], ◌∷◌, ◌++◌}
use lib.ListN.{length, get_or, set, take, length-set}
use lib.Seq.{get_or-set_same, get_or-set_other, take-suc, take-suc-set, take_all}
use Rattle.reading.specs.Table.{mem}
use Rattle.reading.specs.Order.{Wire, sources}
use Rattle.reading.specs.Visit.{Walk, mark_node, list_node, each, go}
use Rattle.reading.proofs.Table.{mem-head, mem_other}
use Rattle.sources.specs.Sources.{distinct_sources}
use Rattle.graph.specs.Walking.{Gathered, Stands, unmarked, Visited}
use Rattle.sources.proofs.Repeats.{each_append, each_distinct, go_skips, go_new}

-- a node that was not marked is marked: there is one unmarked node less
pub unmarked-set : (m : List Bool) (v : ℕ) → v < length m → get_or m v false ≡ false → unmarked m ≡ suc (unmarked (set m v true))
unfolding unmarked
unmarked-set [] v h e = absurd (not-suc-le-zero h)
unmarked-set (false ∷ m) zero h e = refl
unmarked-set (true ∷ m) zero h e = cc
unmarked-set (false ∷ m) (suc v) h e = ap suc (unmarked-set m v (le_of_suc-le-suc h) e)
unmarked-set (true ∷ m) (suc v) h e = unmarked-set m v (le_of_suc-le-suc h) e

-- v is marked
stands-mark : (m : List Bool) (l : List ℕ) (c v : ℕ) (w : Walk) → v < length m → Stands m l c w → Stands (set m v true) l c (mark_node v w)
stands-mark m l c v w h s = record { marks = λ u b. pick u b (ℕ_discrete u v); list = s.list }
  where
    pick : (u : ℕ) → u < 64 → Dec (u ≡ v) → get_or (set m v true) u false ≡ mem u (v ∷ w.marked)
    pick u b (yes p) =
        ap (λ (i : ℕ). get_or (set m v true) i false) p ∙ get_or-set_same m v true false h
        ∙ sym (ap (λ (i : ℕ). mem i (v ∷ w.marked)) p ∙ mem-head v w.marked)
    pick u b (no n) = get_or-set_other m v u true false n ∙ s.marks u b ∙ sym (mem_other w.marked n)

-- v is listed
stands_list : (m : List Bool) (l : List ℕ) (c v : ℕ) (w : Walk) → c < length l → Stands m l c w → Stands m (set l c v) (c + 1) (list_node v w)
stands_list m l c v w h s = record {
  marks = s.marks;
  list = rw add-one (take-suc-set l c v h ∙ ap (λ (x : List ℕ). x ++ (v ∷ [])) s.list);
}

-- the loop over v's sources, of which the first i are done: from the marks m₀, the list l₀ and its count, where it began, to m, l and c
pub record Going (counts lists : List ℕ) (v : ℕ) (m₀ : List Bool) (l₀ : List ℕ) (count : ℕ) (m : List Bool) (l : List ℕ) (c i : ℕ) : Type 0 where
  pub within : i ≤ get_or counts v 0
  pub marks_kept : length m ≡ length m₀
  pub fewer : unmarked m ≤ unmarked m₀
  pub total : c + unmarked m ≡ count + unmarked m₀
  pub walk : (ws : List Wire) → Gathered ws counts lists → (k : ℕ) → unmarked m₀ ≤ k → (w : Walk) → Stands m₀ l₀ count w
      → Stands m l c (each (go ws k) (take i (distinct_sources ws v)) w)

module _ (counts lists : List ℕ) (v : ℕ) (node : v < 64) (m₀ : List Bool) (l₀ : List ℕ) (count : ℕ) where
  pub going_start : Going counts lists v m₀ l₀ count m₀ l₀ count 0
  going_start = record {
    within = omega arith;
    marks_kept = refl;
    fewer = le_refl _;
    total = refl;
    walk = λ ws t k le w s. s;
  }

  module _ (m : List Bool) (l : List ℕ) (c i u : ℕ) (g : Going counts lists v m₀ l₀ count m l c i) (h : i < get_or counts v 0) (is : u ≡ get_or lists (8 * v + i) 0) where
    -- the source u comes after the first i
    one_more : (ws : List Wire) → Gathered ws counts lists → (k : ℕ) (w : Walk)
        → each (go ws k) (take (i + 1) (distinct_sources ws v)) w ≡ go ws k u (each (go ws k) (take i (distinct_sources ws v)) w)
    one_more ws t k w =
        let inside : i < length (distinct_sources ws v) = subst (λ (n : ℕ). i < n) (t.size v node) h in
        let next : get_or (distinct_sources ws v) i 0 ≡ u = sym (is ∙ t.source v i node h) in
        let split : take (i + 1) (distinct_sources ws v) ≡ take i (distinct_sources ws v) ++ (u ∷ []) =
        rw add-one (take-suc (distinct_sources ws v) i 0 inside ∙ ap (λ (x : ℕ). take i (distinct_sources ws v) ++ (x ∷ [])) next) in
        ap (λ (us : List ℕ). each (go ws k) us w) split ∙ each_append (go ws k) (take i (distinct_sources ws v)) (u ∷ []) w

    -- it is marked already
    pub going_past : u < 64 → get_or m u false ≡ true → Going counts lists v m₀ l₀ count m l c (i + 1)
    going_past below seen = record {
      within = omega arith;
      marks_kept = g.marks_kept;
      fewer = g.fewer;
      total = g.total;
      walk = λ ws t k le w s.
          let now = g.walk ws t k le w s in
          let marked : mem u (each (go ws k) (take i (distinct_sources ws v)) w).marked ≡ true = sym (now.marks u below) ∙ seen in
          subst⁻¹ (Stands m l c) (one_more ws t k w ∙ go_skips ws k u _ marked) now;
    }

    -- it is gone to
    pub going_into : (m' : List Bool) (l' : List ℕ) (c' : ℕ) → Visited counts lists u m l c m' l' c' → Going counts lists v m₀ l₀ count m' l' c' (i + 1)
    going_into m' l' c' r = record {
      within = omega arith;
      marks_kept = r.marks_kept ∙ g.marks_kept;
      fewer = le_trans r.fewer g.fewer;
      total = r.total ∙ g.total;
      walk = λ ws t k le w s.
          subst⁻¹ (Stands m' l' c') (one_more ws t k w) (r.walk ws t k (le_trans g.fewer le) _ (g.walk ws t k le w s));
    }

-- the sources are done: v is listed
module _ (counts lists : List ℕ) (v : ℕ) (node : v < 64) (m : List Bool) (l₀ : List ℕ) (count : ℕ) (in_m : v < length m) (unseen : get_or m v false ≡ false)
    (m' : List Bool) (l : List ℕ) (c i : ℕ) (g : Going counts lists v (set m v true) l₀ count m' l c i) (all : get_or counts v 0 ≤ i) (in-l : c < length l) where
  done_walk : (ws : List Wire) → Gathered ws counts lists → (k : ℕ) → unmarked m ≤ k → (w : Walk) → Stands m l₀ count w → Stands m' (set l c v) (c + 1) (go ws k v w)
  done_walk ws t zero h w s = absurd (not-suc-le-zero (subst (λ (x : ℕ). x ≤ 0) (unmarked-set m v in_m unseen) h))
  done_walk ws t (suc k) h w s =
      let less : unmarked (set m v true) ≤ k = le_of_suc-le-suc (subst (λ (x : ℕ). x ≤ suc k) (unmarked-set m v in_m unseen) h) in
      let new : mem v w.marked ≡ false = sym (s.marks v node) ∙ unseen in
      let whole : take i (distinct_sources ws v) ≡ distinct_sources ws v = take_all i (distinct_sources ws v) (subst (λ (n : ℕ). n ≤ i) (t.size v node) all) in
      let same : each (go ws k) (take i (distinct_sources ws v)) (mark_node v w) ≡ each (go ws k) (sources ws v) (mark_node v w) =
      ap (λ (us : List ℕ). each (go ws k) us (mark_node v w)) whole ∙ each_distinct ws k (sources ws v) (mark_node v w) in
      subst⁻¹ (Stands m' (set l c v) (c + 1)) (go_new ws k v w new)
      (stands_list m' l c v _ in-l (subst (Stands m' l c) same (g.walk ws t k less (mark_node v w) (stands-mark m l₀ count v w in_m s))))

  pub going_done : Visited counts lists v m l₀ count m' (set l c v) (c + 1)
  going_done = record {
    marks_kept = g.marks_kept ∙ length-set m v true;
    fewer = omega (arith, g.fewer, unmarked-set m v in_m unseen);
    total = omega (arith, g.total, unmarked-set m v in_m unseen);
    walk = done_walk;
  }
