-- A walk that is deep enough: all sources of what it marks are marked.
-- Assumes nothing.
use mathlib.Core.Path.{◌≡◌, refl, sym, ap, ◌∙◌, subst⁻¹}
use mathlib.Core.Logic.{◌≢◌}
use Prim.Native.Nat.{ℕ, zero, suc, ◌≤◌, ◌<◌, suc-le-suc}
use native.Mathlib.Nat.{le_refl, le_trans, not-suc-le-zero}
use native.Mathlib.Omega.{arith}
use native.Mathlib.Decide.{ℕ_discrete}
use mathlib.Core.Bool.{Bool, true, false, cond, ◌||◌, false≢true}
use mathlib.Core.List.{List, [], ◌∷◌}
use lib.Dec.{eqb}
use borrow.Author.Tests.{eq-eqb, ne_eqb, eqb-true}
use Rattle.reading.specs.Table.{mem}
use Rattle.reading.specs.Visit.{choose}
use Rattle.reading.proofs.Table.{or_right, or_left}
use Rattle.carrying.specs.Carried.{Way, mark, enter, through, walk}
use Rattle.carrying.proofs.Lists.{or_one, not_both}
use Rattle.carrying.proofs.ListParts.{walk_keeps, through_keeps}

-- ---- how many nodes below n are not marked

abbrev pub left : ℕ → (ℕ → Bool) → ℕ
left zero m = zero
left (suc n) m = cond (m n) (left n m) (suc (left n m))

left_same : (n k : ℕ) (w : Way) → n ≤ k → left n (mark k w).marks ≡ left n w.marks
left_same zero k w h = refl
left_same (suc n) k w h =
    let apart : n ≢ k = omega arith in
    let ih = left_same n k w (omega arith) in
    λ i. cond (ap (λ (b : Bool). b || w.marks n) (ne_eqb n k apart) i) (ih i) (suc (ih i))

pub left_mark : (n k : ℕ) (w : Way) → k < n → w.marks k ≡ false → suc (left n (mark k w).marks) ≡ left n w.marks
left_mark zero k w h e = absurd (not-suc-le-zero h)
left_mark (suc n) k w h e = pick (ℕ_discrete n k) (λ l. left_mark n k w l e)
  where
    m : ℕ
    m = left n (mark k w).marks

    pick : Dec (n ≡ k) → (k < n → suc m ≡ left n w.marks) → suc (left (suc n) (mark k w).marks) ≡ left (suc n) w.marks
    pick (yes p) ih =
        ap (λ (b : Bool). suc (cond b m (suc m))) (or_left (w.marks n) (eq-eqb n k p))
        ∙ ap suc (left_same n k w (omega arith))
        ∙ ap (λ (b : Bool). cond b (left n w.marks) (suc (left n w.marks))) (sym (ap w.marks p ∙ e))
    pick (no p) ih = ap (λ (b : Bool). suc (cond (b || w.marks n) m (suc m))) (ne_eqb n k p) ∙ flat (w.marks n)
      where
        flat : (b : Bool) → suc (cond b m (suc m)) ≡ cond b (left n w.marks) (suc (left n w.marks))
        flat true = ih (omega arith)
        flat false = ap suc (ih (omega arith))

pub left_grows : (n : ℕ) (v w : Way) → ((j : ℕ) → v.marks j ≡ true → w.marks j ≡ true) → left n w.marks ≤ left n v.marks
left_grows zero v w h = le_refl zero
left_grows (suc n) v w h = flat (v.marks n) (w.marks n) (h n) (left_grows n v w h)
  where
    flat : (a b : Bool) → (a ≡ true → b ≡ true) → left n w.marks ≤ left n v.marks
        → cond b (left n w.marks) (suc (left n w.marks)) ≤ cond a (left n v.marks) (suc (left n v.marks))
    flat true true g ih = ih
    flat true false g ih = absurd (false≢true (g refl))
    flat false true g ih = omega arith
    flat false false g ih = suc-le-suc ih

pub left_all : (n : ℕ) → left n (λ _. false) ≤ n
left_all zero = le_refl zero
left_all (suc n) = suc-le-suc (left_all n)

-- ---- deep enough

module _ (S : ℕ → List ℕ) (n : ℕ) (bounded : (k s : ℕ) → mem s (S k) ≡ true → s < n) where
  pub left_walk : (f u k : ℕ) (w : Way) → left n w.marks ≤ k → left n (walk S f u w).marks ≤ k
  left_walk f u k w h = le_trans (left_grows n w (walk S f u w) (walk_keeps S f u w)) h

  pub left_through : (f k : ℕ) (ss : List ℕ) (w : Way) → left n w.marks ≤ k → left n (through (walk S f) ss w).marks ≤ k
  left_through f k ss w h = le_trans (left_grows n w (through (walk S f) ss w) (through_keeps S f ss w)) h

  -- from v to w: what is marked anew has its sources marked
  abbrev Filled : Way → Way → Type 0
  Filled v w = (x : ℕ) → w.marks x ≡ true → v.marks x ≡ false → (y : ℕ) → mem y (S x) ≡ true → w.marks y ≡ true

  record Deep (to : List ℕ) (v w : Way) : Type 0 where
    there : (k : ℕ) → mem k to ≡ true → w.marks k ≡ true
    filled : Filled v w

  abbrev Goes : ℕ → Type 0
  Goes f = (u : ℕ) (w : Way) → u < n → left n w.marks ≤ f → Deep (u ∷ []) w (walk S f u w)

  deep_join : (f s : ℕ) (ss : List ℕ) (w : Way) → Deep (s ∷ []) w (walk S f s w) → Deep ss (walk S f s w) (through (walk S f) ss (walk S f s w))
      → Deep (s ∷ ss) w (through (walk S f) ss (walk S f s w))
  deep_join f s ss w one two =
      record {
        there = λ k e. or_one (eqb k s) (mem k ss) e
            (λ h. through_keeps S f ss (walk S f s w) k (one.there k (or_left false h)))
            (λ h. two.there k h);
        filled = λ x e m y h. pick x e m y h ((walk S f s w).marks x) refl;
      }
    where
      pick : (x : ℕ) → (through (walk S f) ss (walk S f s w)).marks x ≡ true → w.marks x ≡ false → (y : ℕ) → mem y (S x) ≡ true
          → (b : Bool) → (walk S f s w).marks x ≡ b → (through (walk S f) ss (walk S f s w)).marks y ≡ true
      pick x e m y h true t = through_keeps S f ss (walk S f s w) y (one.filled x t m y h)
      pick x e m y h false t = two.filled x e t y h

  deep_through : (f : ℕ) → Goes f → (ss : List ℕ) (w : Way) → ((s : ℕ) → mem s ss ≡ true → s < n) → left n w.marks ≤ f → Deep ss w (through (walk S f) ss w)
  deep_through f spec [] w below deep = record { there = λ k e. absurd (false≢true e); filled = λ x e m. not_both e m }
  deep_through f spec (s ∷ ss) w below deep =
      deep_join f s ss w (spec s w (below s (or_left (mem s ss) (eq-eqb s s refl))) deep)
      (deep_through f spec ss (walk S f s w) (λ j e. below j (or_right (eqb j s) e)) (left_walk f s f w deep))

  deep_seen : (u : ℕ) (w : Way) → w.marks u ≡ true → Deep (u ∷ []) w w
  deep_seen u w e = record {
    there = λ k h. or_one (eqb k u) false h (λ t. ap w.marks (eqb-true k u t) ∙ e) (λ t. absurd (false≢true t));
    filled = λ x e m. not_both e m;
  }

  deep_new : (u : ℕ) (w v : Way) → (mark u w).marks u ≡ true → Deep (S u) (mark u w) v → ((j : ℕ) → (mark u w).marks j ≡ true → v.marks j ≡ true) → Deep (u ∷ []) w (enter u v)
  deep_new u w v here d keeps = record {
    there = λ k h. or_one (eqb k u) false h (λ t. ap v.marks (eqb-true k u t) ∙ keeps u here) (λ t. absurd (false≢true t));
    filled = λ x e m y h. pick x e m y h (eqb x u) refl;
  }
    where
      pick : (x : ℕ) → v.marks x ≡ true → w.marks x ≡ false → (y : ℕ) → mem y (S x) ≡ true → (b : Bool) → eqb x u ≡ b → v.marks y ≡ true
      pick x e m y h true t = d.there y (ap (λ (i : ℕ). mem y (S i)) (sym (eqb-true x u t)) ∙ h)
      pick x e m y h false t = d.filled x e (ap (λ (b : Bool). b || w.marks x) t ∙ m) y h

  deep_walk : (f : ℕ) → Goes f
  deep_walk zero u w l h = pick (w.marks u) refl
    where
      pick : (b : Bool) → w.marks u ≡ b → Deep (u ∷ []) w w
      pick true e = deep_seen u w e
      pick false e = absurd (not-suc-le-zero (subst⁻¹ (λ (i : ℕ). i ≤ zero) (left_mark n u w l e) h))
  deep_walk (suc f) u w l h = pick (w.marks u) refl (deep_walk f)
    where
      pick : (b : Bool) → w.marks u ≡ b → Goes f → Deep (u ∷ []) w (choose b (λ _. w) (λ _. enter u (through (walk S f) (S u) (mark u w))))
      pick true e spec = deep_seen u w e
      pick false e spec =
          let less : left n (mark u w).marks ≤ f = (let e' = left_mark n u w l e in omega arith) in
          deep_new u w (through (walk S f) (S u) (mark u w)) (or_left (w.marks u) (eq-eqb u u refl))
          (deep_through f spec (S u) (mark u w) (bounded u) less) (through_keeps S f (S u) (mark u w))

  pub walk_filled : (f u : ℕ) (w : Way) → u < n → left n w.marks ≤ f → (x : ℕ) → (walk S f u w).marks x ≡ true → w.marks x ≡ false
      → (y : ℕ) → mem y (S x) ≡ true → (walk S f u w).marks y ≡ true
  walk_filled f u w l h = (deep_walk f u w l h).filled
