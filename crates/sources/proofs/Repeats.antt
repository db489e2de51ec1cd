-- A walk goes the same way to each distinct source as along every wire: a source that comes again is marked by then.
-- Assumes nothing.
use mathlib.Core.Path.{◌≡◌, refl, sym, ap, ◌∙◌}
use Prim.Native.Nat.{ℕ, zero, suc}
use native.Mathlib.Decide.{ℕ_discrete}
use mathlib.Core.Bool.{Bool, true, false, cond, false≢true}
use mathlib.Core.List.{List, [], ◌∷◌, ◌++◌}
use lib.Dec.{eqb}
use Rattle.reading.specs.Table.{mem}
use Rattle.reading.specs.Order.{Wire, sources}
use Rattle.reading.specs.Visit.{Walk, mark_node, list_node, choose, each, go}
use Rattle.reading.proofs.Table.{or_right, mem-head, mem_other}
use Rattle.sources.specs.Sources.{add_all, distinct}

-- j is marked
abbrev Marked : ℕ → Walk → Type 0
Marked j w = mem j w.marked ≡ true

-- going to a node takes no mark away
abbrev Keeps : (ℕ → Walk → Walk) → Type 0
Keeps g = (s : ℕ) (w : Walk) (j : ℕ) → Marked j w → Marked j (g s w)

pub each_append : (g : ℕ → Walk → Walk) (ss ts : List ℕ) (w : Walk) → each g (ss ++ ts) w ≡ each g ts (each g ss w)
each_append g [] ts w = refl
each_append g (s ∷ ss) ts w = each_append g ss ts (g s w)

each_keeps : (g : ℕ → Walk → Walk) → Keeps g → (ss : List ℕ) (w : Walk) (j : ℕ) → Marked j w → Marked j (each g ss w)
each_keeps g keeps [] w j e = e
each_keeps g keeps (s ∷ ss) w j e = each_keeps g keeps ss (g s w) j (keeps s w j e)

module _ (g : ℕ → Walk → Walk) (keeps : Keeps g) (marks : (s : ℕ) (w : Walk) → Marked s (g s w)) (skips : (s : ℕ) (w : Walk) → Marked s w → g s w ≡ w) where
  each_marks : (ss : List ℕ) (w : Walk) (s : ℕ) → mem s ss ≡ true → Marked s (each g ss w)
  each_marks [] w s e = absurd (false≢true e)
  each_marks (x ∷ ss) w s e = pick (ℕ_discrete s x) (λ h. each_marks ss (g x w) s h)
    where
      pick : Dec (s ≡ x) → (mem s ss ≡ true → Marked s (each g ss (g x w))) → Marked s (each g ss (g x w))
      pick (yes p) ih = each_keeps g keeps ss (g x w) s (ap (λ (i : ℕ). mem i (g x w).marked) p ∙ marks x w)
      pick (no h) ih = ih (sym (mem_other ss h) ∙ e)

  each_all : (xs l : List ℕ) (w : Walk) → each g (add_all l xs) w ≡ each g xs (each g l w)
  each_all [] l w = refl
  each_all (x ∷ xs) l w = pick (mem x l) refl (λ k. each_all xs k w)
    where
      pick : (b : Bool) → mem x l ≡ b → ((k : List ℕ) → each g (add_all k xs) w ≡ each g xs (each g k w))
          → each g (add_all (cond b l (l ++ (x ∷ []))) xs) w ≡ each g xs (g x (each g l w))
      pick true e ih = ih l ∙ ap (each g xs) (sym (skips x (each g l w) (each_marks l w x e)))
      pick false e ih = ih (l ++ (x ∷ [])) ∙ ap (each g xs) (each_append g l (x ∷ []) w)

module _ (ws : List Wire) where
  go_keeps : (f : ℕ) → Keeps (go ws f)
  go_keeps zero k w j e = e
  go_keeps (suc f) k w j e = pick (mem k w.marked) (go_keeps f)
    where
      pick : (b : Bool) → Keeps (go ws f) → Marked j (choose b (λ _. w) (λ _. list_node k (each (go ws f) (sources ws k) (mark_node k w))))
      pick true ih = e
      pick false ih = each_keeps (go ws f) ih (sources ws k) (mark_node k w) j (or_right (eqb j k) e)

  go_marks : (f s : ℕ) (w : Walk) → Marked s (go ws (suc f) s w)
  go_marks f s w = pick (mem s w.marked) refl
    where
      pick : (b : Bool) → mem s w.marked ≡ b → Marked s (choose b (λ _. w) (λ _. list_node s (each (go ws f) (sources ws s) (mark_node s w))))
      pick true e = e
      pick false e = each_keeps (go ws f) (go_keeps f) (sources ws s) (mark_node s w) s (mem-head s w.marked)

  -- a marked node is left alone
  pub go_skips : (f s : ℕ) (w : Walk) → Marked s w → go ws f s w ≡ w
  go_skips zero s w e = refl
  go_skips (suc f) s w e = ap (λ (b : Bool). choose b (λ _. w) (λ _. list_node s (each (go ws f) (sources ws s) (mark_node s w)))) e

  -- a node that is not marked is marked, its sources are gone to, and it is listed
  pub go_new : (f s : ℕ) (w : Walk) → mem s w.marked ≡ false → go ws (suc f) s w ≡ list_node s (each (go ws f) (sources ws s) (mark_node s w))
  go_new f s w e = ap (λ (b : Bool). choose b (λ _. w) (λ _. list_node s (each (go ws f) (sources ws s) (mark_node s w)))) e

  each_stays : (ss : List ℕ) (w : Walk) → each (go ws zero) ss w ≡ w
  each_stays [] w = refl
  each_stays (s ∷ ss) w = each_stays ss w

  pub each_distinct : (f : ℕ) (ss : List ℕ) (w : Walk) → each (go ws f) (distinct ss) w ≡ each (go ws f) ss w
  unfolding distinct
  each_distinct zero ss w = each_stays (add_all [] ss) w ∙ sym (each_stays ss w)
  each_distinct (suc f) ss w = each_all (go ws (suc f)) (go_keeps (suc f)) (go_marks f) (go_skips (suc f)) ss [] w
