-- A node's place in the old list, and where the rest of the list has it. Assumes nothing.
use mathlib.Core.Path.{◌≡◌, refl, sym, ap, ◌∙◌}
use Prim.Native.Nat.{ℕ, zero, suc, ◌<◌, ◌≤◌, suc-le-suc}
use native.Mathlib.Nat.{le_refl, le_trans, not-suc-le-zero, le_of_suc-le-suc}
use native.Mathlib.Decide.{ℕ_discrete}
use native.Mathlib.Omega.{arith}
use mathlib.Core.Bool.{Bool, true, false, cond, not, ◌||◌, ◌&&◌, false≢true, true≢false}
use mathlib.Core.List.{List, [], ◌∷◌}
use borrow.Author.Tests.{eq-eqb, ne_eqb, ltb-true, ltb-false, leb-true, lt-ltb, le-leb}
use lib.Dec.{ltb, leb, eqb}
use lib.ListN.{length, take, drop}
use lib.Seq.{take_all}
use Rattle.std.proofs.Math.Seq.{drop-nil}
use Rattle.std.proofs.lemmas.Bool.{false_from_ne_true}
use Rattle.reading.specs.Table.{mem}
use Rattle.reading.specs.Order.{Once}
use Rattle.reading.proofs.Table.{or_right, or_left, mem_other}
use Rattle.graph.specs.Late.{place}
use Rattle.graph.proofs.Late.{place-head, place_other}
use Rattle.carrying.specs.Carried.{up_to, past}
use Rattle.carrying.proofs.Lists.{or_one, not_both}

-- a node whose place is between two others stands in that part
pub index_in : (l : List ℕ) (a e t : ℕ) → a ≤ place l t → place l t < e → e ≤ length l → mem t (drop a (take e l)) ≡ true
index_in [] a e t h b c = absurd (not-suc-le-zero (le_trans b c))
index_in (x ∷ l) a zero t h b c = absurd (not-suc-le-zero b)
index_in (x ∷ l) zero (suc e) t h b c = pick (ℕ_discrete x t) (λ i. index_in l zero e t (omega arith) i (le_of_suc-le-suc c))
  where
    pick : Dec (x ≡ t) → (place l t < e → mem t (take e l) ≡ true) → mem t (x ∷ take e l) ≡ true
    pick (yes p) ih = or_left (mem t (take e l)) (eq-eqb t x (sym p))
    pick (no n) ih = or_right (eqb t x) (ih (let q = place_other l n in omega arith))
index_in (x ∷ l) (suc a) (suc e) t h b c = pick (ℕ_discrete x t) (λ g i. index_in l a e t g i (le_of_suc-le-suc c))
  where
    pick : Dec (x ≡ t) → (a ≤ place l t → place l t < e → mem t (drop a (take e l)) ≡ true) → mem t (drop a (take e l)) ≡ true
    pick (yes p) ih = absurd (let q = place-head l p in omega arith)
    pick (no n) ih = let q = place_other l n in ih (omega arith) (omega arith)

mem-drop : (a : ℕ) (l : List ℕ) (t : ℕ) → mem t (drop a l) ≡ true → mem t l ≡ true
mem-drop zero l t e = e
mem-drop (suc a) [] t e = e
mem-drop (suc a) (x ∷ l) t e = or_right (eqb t x) (mem-drop a l t e)

mem-take : (n : ℕ) (l : List ℕ) (t : ℕ) → mem t (take n l) ≡ true → mem t l ≡ true
mem-take zero l t e = absurd (false≢true e)
mem-take (suc n) [] t e = e
mem-take (suc n) (x ∷ l) t e = or_one (eqb t x) (mem t (take n l)) e (λ h. or_left (mem t l) h) (λ h. or_right (eqb t x) (mem-take n l t h))

-- and only such a one, where each node stands once
pub index_of : (l : List ℕ) (a e t : ℕ) → Once l → mem t (drop a (take e l)) ≡ true → (a ≤ place l t) × (place l t < e)
index_of l a zero t o m = absurd (false≢true (ap (mem t) (sym (drop-nil a)) ∙ m))
index_of [] a (suc e) t o m = absurd (false≢true (ap (mem t) (sym (drop-nil a)) ∙ m))
index_of (x ∷ l) zero (suc e) t o m = pick (ℕ_discrete x t) (λ i. index_of l zero e t o.1 i)
  where
    pick : Dec (x ≡ t) → (mem t (take e l) ≡ true → (0 ≤ place l t) × (place l t < e)) → (0 ≤ place (x ∷ l) t) × (place (x ∷ l) t < suc e)
    pick (yes p) ih = let q = place-head l p in (omega arith, omega arith)
    pick (no n) ih =
        let q = place_other l n in
        let i = ih (sym (mem_other (take e l) (λ r. n (sym r))) ∙ m) in
        (omega arith, omega (arith, i.1))
index_of (x ∷ l) (suc a) (suc e) t o m = pick (ℕ_discrete x t) (index_of l a e t o.1 m)
  where
    pick : Dec (x ≡ t) → (a ≤ place l t) × (place l t < e) → (suc a ≤ place (x ∷ l) t) × (place (x ∷ l) t < suc e)
    pick (yes p) ih = absurd (true≢false (sym (mem-take e l t (mem-drop a (take e l) t m)) ∙ ap (λ (i : ℕ). mem i l) (sym p) ∙ o.0))
    pick (no n) ih = let q = place_other l n in (omega (arith, ih.0), omega (arith, ih.1))

-- the rest cut at a node's place
pub up_to_index : (l : List ℕ) (a k : ℕ) → a ≤ place l k → place l k < length l → up_to k (drop a l) ≡ drop a (take (suc (place l k)) l)
up_to_index [] a k h b = absurd (not-suc-le-zero b)
up_to_index (x ∷ l) zero k h b = pick (ℕ_discrete x k) (λ i. up_to_index l zero k (omega arith) i)
  where
    pick : Dec (x ≡ k) → (place l k < length l → up_to k l ≡ take (suc (place l k)) l) → up_to k (x ∷ l) ≡ take (suc (place (x ∷ l) k)) (x ∷ l)
    pick (yes p) ih = ap (λ (c : Bool). cond c (x ∷ []) (x ∷ up_to k l)) (eq-eqb k x (sym p)) ∙ ap (λ (n : ℕ). take (suc n) (x ∷ l)) (sym (place-head l p))
    pick (no n) ih =
        let q = place_other l n in
        ap (λ (c : Bool). cond c (x ∷ []) (x ∷ up_to k l)) (ne_eqb k x (λ r. n (sym r))) ∙ ap (λ (r : List ℕ). x ∷ r) (ih (omega arith))
        ∙ ap (λ (n : ℕ). take (suc n) (x ∷ l)) (sym q)
up_to_index (x ∷ l) (suc a) k h b = pick (ℕ_discrete x k) (λ g i. up_to_index l a k g i)
  where
    pick : Dec (x ≡ k) → (a ≤ place l k → place l k < length l → up_to k (drop a l) ≡ drop a (take (suc (place l k)) l))
        → up_to k (drop a l) ≡ drop (suc a) (take (suc (place (x ∷ l) k)) (x ∷ l))
    pick (yes p) ih = absurd (let q = place-head l p in omega arith)
    pick (no n) ih =
        let q = place_other l n in
        ih (omega arith) (omega arith) ∙ ap (λ (n : ℕ). drop (suc a) (take (suc n) (x ∷ l))) (sym q)

pub past_index : (l : List ℕ) (a k : ℕ) → a ≤ place l k → place l k < length l → past k (drop a l) ≡ drop (suc (place l k)) l
past_index [] a k h b = absurd (not-suc-le-zero b)
past_index (x ∷ l) zero k h b = pick (ℕ_discrete x k) (λ i. past_index l zero k (omega arith) i)
  where
    pick : Dec (x ≡ k) → (place l k < length l → past k l ≡ drop (suc (place l k)) l) → past k (x ∷ l) ≡ drop (suc (place (x ∷ l) k)) (x ∷ l)
    pick (yes p) ih = ap (λ (c : Bool). cond c l (past k l)) (eq-eqb k x (sym p)) ∙ ap (λ (n : ℕ). drop (suc n) (x ∷ l)) (sym (place-head l p))
    pick (no n) ih =
        let q = place_other l n in
        ap (λ (c : Bool). cond c l (past k l)) (ne_eqb k x (λ r. n (sym r))) ∙ ih (omega arith) ∙ ap (λ (n : ℕ). drop (suc n) (x ∷ l)) (sym q)
past_index (x ∷ l) (suc a) k h b = pick (ℕ_discrete x k) (λ g i. past_index l a k g i)
  where
    pick : Dec (x ≡ k) → (a ≤ place l k → place l k < length l → past k (drop a l) ≡ drop (suc (place l k)) l)
        → past k (drop a l) ≡ drop (suc (place (x ∷ l) k)) (x ∷ l)
    pick (yes p) ih = absurd (let q = place-head l p in omega arith)
    pick (no n) ih = let q = place_other l n in ih (omega arith) (omega arith) ∙ ap (λ (n : ℕ). drop (suc n) (x ∷ l)) (sym q)

-- ---- the test of the code, and that of the definition

module _ (l : List ℕ) (once : Once l) (a k t : ℕ) where
  pub copies_yes : (b : Bool) → a ≤ place l k → place l k < length l → (b ≡ false → a ≤ place l t → place l t ≤ place l k → ⊥)
      → (mem k (drop a l) && (b || not (mem t (up_to k (drop a l))))) ≡ true
  copies_yes b h i free =
      ap (λ (c : Bool). c && (b || not (mem t (up_to k (drop a l)))))
      (ap (λ (r : List ℕ). mem k (drop a r)) (sym (take_all (length l) l (le_refl _))) ∙ index_in l a (length l) k h i (le_refl _))
      ∙ ap (λ (r : List ℕ). b || not (mem t r)) (up_to_index l a k h i)
      ∙ pick b refl
    where
      pick : (c : Bool) → b ≡ c → (c || not (mem t (drop a (take (suc (place l k)) l)))) ≡ true
      pick true e = refl
      pick false e =
          ap not
          (false_from_ne_true (mem t (drop a (take (suc (place l k)) l)))
          (λ m. let x = index_of l a (suc (place l k)) t once m in free e x.0 (le_of_suc-le-suc x.1)))

  pub copies_no : (b : Bool) → (a ≤ place l k → place l k < length l → (b ≡ false → a ≤ place l t → place l t ≤ place l k → ⊥) → ⊥)
      → (mem k (drop a l) && (b || not (mem t (up_to k (drop a l))))) ≡ false
  copies_no b h = pick (mem k (drop a l)) refl
    where
      pick : (c : Bool) → mem k (drop a l) ≡ c → (c && (b || not (mem t (up_to k (drop a l))))) ≡ false
      pick true e =
          let x = index_of l a (length l) k once (ap (λ (r : List ℕ). mem k (drop a r)) (take_all (length l) l (le_refl _)) ∙ e) in
          false_from_ne_true (b || not (mem t (up_to k (drop a l)))) (λ y. h x.0 x.1 (λ f g i. not_both y
          (ap (λ (c : Bool). c || not (mem t (up_to k (drop a l)))) f
          ∙ ap (λ (r : List ℕ). not (mem t r)) (up_to_index l a k x.0 x.1)
          ∙ ap not (index_in l a (suc (place l k)) t g (suc-le-suc i) x.1))))
      pick false e = refl

-- ---- the code's test in numbers: the mark of the target, its place, the node's place p, and where the rest begins

pub test_yes : (a p size : ℕ) (m : Bool) (goal : ℕ) → ((leb a p && ltb p size) && (m || (ltb goal a || ltb p goal))) ≡ true
    → (a ≤ p) × (p < size) × ((m ≡ true → ⊥) → a ≤ goal → goal ≤ p → ⊥)
test_yes a p size m goal e = pick (leb a p) (ltb p size) (m) (ltb goal a) (ltb p goal) refl refl refl refl refl e
  where
    pick : (b c d g h : Bool) → leb a p ≡ b → ltb p size ≡ c → m ≡ d → ltb goal a ≡ g → ltb p goal ≡ h → ((b && c) && (d || (g || h))) ≡ true
        → (a ≤ p) × (p < size) × ((m ≡ true → ⊥) → a ≤ goal → goal ≤ p → ⊥)
    pick true true true g h x y z u v t = (leb-true _ _ x, ltb-true _ _ y, λ n i j. n z)
    pick true true false true h x y z u v t = (leb-true _ _ x, ltb-true _ _ y, λ n i j. let q = ltb-true goal a u in omega arith)
    pick true true false false true x y z u v t = (leb-true _ _ x, ltb-true _ _ y, λ n i j. let q = ltb-true p goal v in omega arith)
    pick true true false false false x y z u v t = absurd (false≢true t)
    pick true false d g h x y z u v t = absurd (false≢true t)
    pick false c d g h x y z u v t = absurd (false≢true t)

pub test_no : (a p size : ℕ) (m : Bool) (goal : ℕ) → ((leb a p && ltb p size) && (m || (ltb goal a || ltb p goal))) ≡ false
    → a ≤ p → p < size → ((m ≡ true → ⊥) → a ≤ goal → goal ≤ p → ⊥) → ⊥
test_no a p size m goal e = pick (leb a p) (ltb p size) (m) (ltb goal a) (ltb p goal) refl refl refl refl refl e
  where
    pick : (b c d g h : Bool) → leb a p ≡ b → ltb p size ≡ c → m ≡ d → ltb goal a ≡ g → ltb p goal ≡ h → ((b && c) && (d || (g || h))) ≡ false
        → a ≤ p → p < size → ((m ≡ true → ⊥) → a ≤ goal → goal ≤ p → ⊥) → ⊥
    pick true true true g h x y z u v t i j f = true≢false t
    pick true true false true h x y z u v t i j f = true≢false t
    pick true true false false true x y z u v t i j f = true≢false t
    pick true true false false false x y z u v t i j f = f (λ y. false≢true (sym z ∙ y)) (ltb-false _ _ u) (ltb-false _ _ v)
    pick true false d g h x y z u v t i j f = not_both (lt-ltb p size j) y
    pick false c d g h x y z u v t i j f = not_both (le-leb a p i) x
