-- The distinct sources of a node, as they are counted, against the wires that lead to it: `distinct` keeps each number once, and two
-- lists that have the same numbers, each once, are of one length. Assumes nothing.
use Prim.Native.Nat.{ℕ, zero, suc, ◌≤◌, ◌<◌}
use mathlib.Core.Path.{◌≡◌, refl, sym, ap, ◌∙◌}
use mathlib.Core.Logic.{◌↔◌}
use mathlib.Core.List.{List, [], ◌∷◌, ◌++◌}
use mathlib.Core.Bool.{Bool, true, false, cond, ◌||◌, or-true, or-false, or_assoc, true≢false, false≢true}
use native.Mathlib.Omega.{arith}
use borrow.Author.Tests.{eqb-true, eq-eqb, ne_eqb}
use lib.ListN.{length, get_or}
use lib.Dec.{eqb}
use Rattle.reading.specs.Table.{mem}
use Rattle.reading.specs.Order.{Wire, Once, sources}
use Rattle.reading.proofs.Table.{or_right, or_left, not-mem}
use Rattle.sources.specs.Sources.{add_new, add_all, distinct, distinct_sources}
use Rattle.boards.specs.Obeys.{Leads, no_wire}
use Rattle.sources.proofs.Tabling.{mem-snoc}

-- ---- each number once

module _ (y : ℕ) where
  mem_new : (l : List ℕ) (x : ℕ) → mem y (add_new l x) ≡ (mem y l || eqb y x)
  mem_new l x = go (mem x l) refl (eqb y x) refl
    where
      go : (b : Bool) → mem x l ≡ b → (c : Bool) → eqb y x ≡ c → mem y (cond b l (l ++ (x ∷ []))) ≡ (mem y l || eqb y x)
      go true e true q = ap (λ (a : ℕ). mem a l) (eqb-true y x q) ∙ e ∙ sym (or-true (mem y l)) ∙ ap (λ (a : Bool). mem y l || a) (sym q)
      go true e false q = sym (or-false (mem y l)) ∙ ap (λ (a : Bool). mem y l || a) (sym q)
      go false e true q = mem-snoc l y x
      go false e false q = mem-snoc l y x

  mem_all : (xs l : List ℕ) → mem y (add_all l xs) ≡ (mem y l || mem y xs)
  mem_all [] l = sym (or-false (mem y l))
  mem_all (x ∷ xs) l =
      mem_all xs (add_new l x) ∙ ap (λ (b : Bool). b || mem y xs) (mem_new l x) ∙ or_assoc (mem y l) (eqb y x) (mem y xs)

  pub mem_distinct : (xs : List ℕ) → mem y (distinct xs) ≡ mem y xs
  unfolding distinct
  mem_distinct xs = mem_all xs []

once_snoc : (l : List ℕ) (x : ℕ) → Once l → mem x l ≡ false → Once (l ++ (x ∷ []))
once_snoc [] x h e = (refl, tt)
once_snoc (z ∷ l) x h e =
    let apart = not-mem l e in
    (mem-snoc l z x ∙ ap (λ (b : Bool). b || eqb z x) h.0 ∙ ne_eqb z x (λ q. apart.0 (sym q)), once_snoc l x h.1 apart.1)

once_new : (l : List ℕ) (x : ℕ) → Once l → Once (add_new l x)
once_new l x h = go (mem x l) refl
  where
    go : (b : Bool) → mem x l ≡ b → Once (cond b l (l ++ (x ∷ [])))
    go true e = h
    go false e = once_snoc l x h e

once_all : (xs l : List ℕ) → Once l → Once (add_all l xs)
once_all [] l h = h
once_all (x ∷ xs) l h = once_all xs (add_new l x) (once_new l x h)

pub once_distinct : (xs : List ℕ) → Once (distinct xs)
unfolding distinct
once_distinct xs = once_all xs [] tt

-- ---- how many they are

-- m without its first x
abbrev without : ℕ → List ℕ → List ℕ
without x [] = []
without x (z ∷ m) = cond (eqb x z) m (z ∷ without x m)

length_without : (x : ℕ) (m : List ℕ) → mem x m ≡ true → length m ≡ suc (length (without x m))
length_without x [] e = absurd (false≢true e)
length_without x (z ∷ m) e = go (eqb x z) e (length_without x m)
  where
    go : (b : Bool) → (b || mem x m) ≡ true → (mem x m ≡ true → length m ≡ suc (length (without x m)))
        → suc (length m) ≡ suc (length (cond b m (z ∷ without x m)))
    go true e h = refl
    go false e h = ap suc (h e)

mem_without : (x y : ℕ) (m : List ℕ) → (y ≡ x → ⊥) → mem y m ≡ true → mem y (without x m) ≡ true
mem_without x y [] a e = e
mem_without x y (z ∷ m) a e = go (eqb x z) refl (eqb y z) refl e (mem_without x y m a)
  where
    go : (b : Bool) → eqb x z ≡ b → (c : Bool) → eqb y z ≡ c → (c || mem y m) ≡ true → (mem y m ≡ true → mem y (without x m) ≡ true)
        → mem y (cond b m (z ∷ without x m)) ≡ true
    go true p true q e h = absurd (a (eqb-true y z q ∙ sym (eqb-true x z p)))
    go true p false q e h = e
    go false p true q e h = or_left (mem y (without x m)) q
    go false p false q e h = or_right (eqb y z) (h e)

pub fewer : (l m : List ℕ) → Once l → ((y : ℕ) → mem y l ≡ true → mem y m ≡ true) → length l ≤ length m
fewer [] m o h = omega arith
fewer (x ∷ l) m o h =
    let there : mem x m ≡ true = h x (or_left (mem x l) (eq-eqb x x refl)) in
    let rest : length l ≤ length (without x m) =
    fewer l (without x m) o.1 (λ y e. mem_without x y m (λ q. true≢false (sym e ∙ ap (λ (a : ℕ). mem a l) q ∙ o.0)) (h y (or_right (eqb y x) e))) in
    omega (arith, length_without x m there)

-- ---- the sources of a node

-- one wire more, in front
leads_on : {ws : List Wire} {x i : ℕ} (w : Wire) → Leads ws x i → Leads (w ∷ ws) x i
leads_on w l = record { place = suc l.place; there = omega (arith, l.there); source_is = l.source_is; target_is = l.target_is }

source_leads : (ws : List Wire) (x i : ℕ) → mem x (sources ws i) ≡ true → Leads ws x i
source_leads [] x i e = absurd (false≢true e)
source_leads (w ∷ ws) x i e = go (eqb w.target i) refl (source_leads ws x i) e
  where
    head : eqb w.target i ≡ true → (b : Bool) → eqb x w.source ≡ b → (b || mem x (sources ws i)) ≡ true
        → (mem x (sources ws i) ≡ true → Leads ws x i) → Leads (w ∷ ws) x i
    head t true q e h = record { place = 0; there = omega arith; source_is = sym (eqb-true x w.source q); target_is = eqb-true w.target i t }
    head t false q e h = leads_on w (h e)

    go : (b : Bool) → eqb w.target i ≡ b → (mem x (sources ws i) ≡ true → Leads ws x i)
        → mem x (cond b (w.source ∷ sources ws i) (sources ws i)) ≡ true → Leads (w ∷ ws) x i
    go true t h e = head t (eqb x w.source) refl e h
    go false t h e = leads_on w (h e)

leads_source : (ws : List Wire) (x i j : ℕ) → j < length ws → (get_or ws j no_wire).source ≡ x → (get_or ws j no_wire).target ≡ i
    → mem x (sources ws i) ≡ true
leads_source [] x i j l p q = absurd (omega arith)
leads_source (w ∷ ws) x i zero l p q = rw (eq-eqb w.target i q) (or_left (mem x (sources ws i)) (eq-eqb x w.source (sym p)))
leads_source (w ∷ ws) x i (suc j) l p q = go (eqb w.target i) (leads_source ws x i j (omega arith) p q)
  where
    go : (b : Bool) → mem x (sources ws i) ≡ true → mem x (cond b (w.source ∷ sources ws i) (sources ws i)) ≡ true
    go true h = or_right (eqb x w.source) h
    go false h = h

module _ (ws : List Wire) (i : ℕ) where
  pub distinct_leads : (x : ℕ) → (mem x (distinct_sources ws i) ≡ true) ↔ Leads ws x i
  distinct_leads x = (
    λ e. source_leads ws x i (sym (mem_distinct x (sources ws i)) ∙ e),
    λ l. mem_distinct x (sources ws i) ∙ leads_source ws x i l.place l.there l.source_is l.target_is,
  )

  -- any list of the sources that has each once is as long as the reader's
  pub sources_counted : (l : List ℕ) → Once l → ((x : ℕ) → (mem x l ≡ true) ↔ Leads ws x i) → length (distinct_sources ws i) ≡ length l
  sources_counted l o h =
      let some : length l ≤ length (distinct_sources ws i) = fewer l (distinct_sources ws i) o (λ x e. (distinct_leads x).1 ((h x).0 e)) in
      let all : length (distinct_sources ws i) ≤ length l =
      fewer (distinct_sources ws i) l (once_distinct (sources ws i)) (λ x e. (h x).1 ((distinct_leads x).0 e)) in
      omega arith
