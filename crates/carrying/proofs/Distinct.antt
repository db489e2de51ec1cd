-- The walk over distinct sources is the walk over all; and what adding or pulling a wire does to the distinct sources. Assumes nothing.
use mathlib.Core.Path.{◌≡◌, refl, sym, ap, ◌∙◌}
use Prim.Native.Nat.{ℕ, zero, suc}
use mathlib.Core.Bool.{Bool, true, false, cond, ◌||◌, or-false, false≢true}
use mathlib.Core.List.{List, [], ◌∷◌, ◌++◌, append_assoc, append-nil}
use lib.Dec.{eqb}
use borrow.Author.Tests.{eq-eqb, ne_eqb, eqb-true, eqb-false}
use Rattle.std.proofs.Math.Bool.{or_assoc}
use Rattle.std.proofs.lemmas.Bool.{or_parts}
use Rattle.reading.specs.Table.{mem}
use Rattle.reading.specs.Visit.{choose}
use Rattle.reading.proofs.Table.{or_right, or_left}
use Rattle.sources.specs.Sources.{add_new, add_all, distinct}
use Rattle.carrying.specs.Carried.{Way, mark, enter, through, walk}
use Rattle.carrying.proofs.Lists.{or_one, mem-append, mem_neither, through-append}
use Rattle.carrying.proofs.ListParts.{walk_seen, through_keeps}

-- ---- a source that comes again is marked by then

module _ (S : ℕ → List ℕ) where
  walk_there : (f s : ℕ) (w : Way) → (walk S (suc f) s w).marks s ≡ true
  walk_there f s w = pick (w.marks s) refl
    where
      pick : (b : Bool) → w.marks s ≡ b → (choose b (λ _. w) (λ _. enter s (through (walk S f) (S s) (mark s w)))).marks s ≡ true
      pick true e = e
      pick false e = through_keeps S f (S s) (mark s w) s (or_left (w.marks s) (eq-eqb s s refl))

  through_there : (f : ℕ) (ss : List ℕ) (w : Way) (s : ℕ) → mem s ss ≡ true → (through (walk S (suc f)) ss w).marks s ≡ true
  through_there f [] w s e = absurd (false≢true e)
  through_there f (x ∷ ss) w s e =
      or_one (eqb s x) (mem s ss) e
      (λ h. through_keeps S (suc f) ss (walk S (suc f) x w) s (ap (λ (i : ℕ). (walk S (suc f) x w).marks i) (eqb-true s x h) ∙ walk_there f x w))
      (λ h. through_there f ss (walk S (suc f) x w) s h)

  through_all : (f : ℕ) (xs l : List ℕ) (w : Way) → through (walk S (suc f)) (add_all l xs) w ≡ through (walk S (suc f)) xs (through (walk S (suc f)) l w)
  through_all f [] l w = refl
  through_all f (x ∷ xs) l w = pick (mem x l) refl (λ k. through_all f xs k w)
    where
      g : ℕ → Way → Way
      g = walk S (suc f)

      pick : (b : Bool) → mem x l ≡ b → ((k : List ℕ) → through g (add_all k xs) w ≡ through g xs (through g k w))
          → through g (add_all (cond b l (l ++ (x ∷ []))) xs) w ≡ through g xs (g x (through g l w))
      pick true e ih = ih l ∙ ap (through g xs) (sym (walk_seen S (suc f) x (through g l w) (through_there f l w x e)))
      pick false e ih = ih (l ++ (x ∷ [])) ∙ ap (through g xs) (through-append g l (x ∷ []) w)

  through_still : (ss : List ℕ) (w : Way) → through (walk S zero) ss w ≡ w
  through_still [] w = refl
  through_still (s ∷ ss) w = through_still ss w

  through_distinct : (f : ℕ) (ss : List ℕ) (w : Way) → through (walk S f) (distinct ss) w ≡ through (walk S f) ss w
  unfolding distinct
  through_distinct zero ss w = through_still (add_all [] ss) w ∙ sym (through_still ss w)
  through_distinct (suc f) ss w = through_all f ss [] w

  pub walk_distinct : (f u : ℕ) (w : Way) → walk (λ v. distinct (S v)) f u w ≡ walk S f u w
  walk_distinct zero u w = refl
  walk_distinct (suc f) u w = pick (w.marks u) (λ i v x. walk_distinct f v x i)
    where
      pick : (b : Bool) → walk (λ v. distinct (S v)) f ≡ walk S f
          → choose b (λ _. w) (λ _. enter u (through (walk (λ v. distinct (S v)) f) (distinct (S u)) (mark u w))) ≡ choose b (λ _. w) (λ _. enter u (through (walk S f) (S u) (mark u w)))
      pick true ih = refl
      pick false ih = ap (λ (g : ℕ → Way → Way). enter u (through g (distinct (S u)) (mark u w))) ih ∙ ap (enter u) (through_distinct f (S u) (mark u w))

-- ---- distinct numbers of a list

all_append : (l xs ys : List ℕ) → add_all l (xs ++ ys) ≡ add_all (add_all l xs) ys
all_append l [] ys = refl
all_append l (x ∷ xs) ys = all_append (add_new l x) xs ys

mem_all : (j : ℕ) (l xs : List ℕ) → mem j (add_all l xs) ≡ (mem j l || mem j xs)
mem_all j l [] = sym (or-false (mem j l))
mem_all j l (x ∷ xs) = mem_all j (add_new l x) xs ∙ ap (λ (b : Bool). b || mem j xs) (one (mem x l) refl) ∙ or_assoc (mem j l) (eqb j x) (mem j xs)
  where
    one : (b : Bool) → mem x l ≡ b → mem j (cond b l (l ++ (x ∷ []))) ≡ (mem j l || eqb j x)
    one true e = in_it (eqb j x) refl
      where
        in_it : (b : Bool) → eqb j x ≡ b → mem j l ≡ (mem j l || b)
        in_it true h = (ap (λ (i : ℕ). mem i l) (eqb-true j x h) ∙ e) ∙ sym (or_right (mem j l) refl)
        in_it false h = sym (or-false (mem j l))
    one false e = mem-append j l (x ∷ []) ∙ ap (λ (b : Bool). mem j l || b) (or-false (eqb j x))

pub mem_distinct : (j : ℕ) (xs : List ℕ) → mem j (distinct xs) ≡ mem j xs
unfolding distinct
mem_distinct j xs = mem_all j [] xs

-- one more at the end: new, or there already
pub distinct_new : (xs : List ℕ) (s : ℕ) → mem s xs ≡ false → distinct (xs ++ (s ∷ [])) ≡ distinct xs ++ (s ∷ [])
unfolding distinct
distinct_new xs s e =
    all_append [] xs (s ∷ []) ∙ ap (λ (b : Bool). cond b (add_all [] xs) (add_all [] xs ++ (s ∷ []))) (mem_all s [] xs ∙ e)

-- one in the middle that is there already
pub distinct_again : (xs ys : List ℕ) (s : ℕ) → mem s xs ≡ true → distinct (xs ++ (s ∷ ys)) ≡ distinct (xs ++ ys)
unfolding distinct
distinct_again xs ys s e =
    all_append [] xs (s ∷ ys) ∙ ap (λ (b : Bool). add_all (cond b (add_all [] xs) (add_all [] xs ++ (s ∷ []))) ys) (mem_all s [] xs ∙ e) ∙ sym (all_append [] xs ys)

-- one in the middle that stands there alone: the numbers behind it are the same with it and without
pub record Around (s : ℕ) (a with_it without-it : List ℕ) : Type 0 where
  pub behind : List ℕ
  pub has : with_it ≡ a ++ (s ∷ behind)
  pub lacks : without-it ≡ a ++ behind
  pub free : mem s behind ≡ false

around : (s : ℕ) (a b xs : List ℕ) → mem s b ≡ false → mem s xs ≡ false → Around s a (add_all (a ++ (s ∷ b)) xs) (add_all (a ++ b) xs)
around s a b [] e h = record { behind = b; has = refl; lacks = refl; free = e }
around s a b (x ∷ xs) e h = pick (mem x (a ++ b)) refl (λ c f. around s a c xs f no.1)
  where
    no : (eqb s x ≡ false) × (mem s xs ≡ false)
    no = or_parts (eqb s x) (mem s xs) h

    same : mem x (a ++ (s ∷ b)) ≡ mem x (a ++ b)
    same = mem-append x a (s ∷ b) ∙ ap (λ (c : Bool). mem x a || (c || mem x b)) (ne_eqb x s (λ p. eqb-false s x no.0 (sym p))) ∙ sym (mem-append x a b)

    pick : (c : Bool) → mem x (a ++ b) ≡ c → ((d : List ℕ) → mem s d ≡ false → Around s a (add_all (a ++ (s ∷ d)) xs) (add_all (a ++ d) xs))
        → Around s a (add_all (add_new (a ++ (s ∷ b)) x) xs) (add_all (add_new (a ++ b) x) xs)
    pick true m ih =
        let r = ih b e in
        record {
          behind = r.behind;
          has = ap (λ (c : Bool). add_all (cond c (a ++ (s ∷ b)) ((a ++ (s ∷ b)) ++ (x ∷ []))) xs) (same ∙ m) ∙ r.has;
          lacks = ap (λ (c : Bool). add_all (cond c (a ++ b) ((a ++ b) ++ (x ∷ []))) xs) m ∙ r.lacks;
          free = r.free;
        }
    pick false m ih =
        let r = ih (b ++ (x ∷ [])) (mem_neither s b (x ∷ []) e (ap (λ (c : Bool). c || false) no.0)) in
        record {
          behind = r.behind;
          has = ap (λ (c : Bool). add_all (cond c (a ++ (s ∷ b)) ((a ++ (s ∷ b)) ++ (x ∷ []))) xs) (same ∙ m) ∙ ap (λ (l : List ℕ). add_all l xs) (append_assoc a (s ∷ b) (x ∷ [])) ∙ r.has;
          lacks = ap (λ (c : Bool). add_all (cond c (a ++ b) ((a ++ b) ++ (x ∷ []))) xs) m ∙ ap (λ (l : List ℕ). add_all l xs) (append_assoc a b (x ∷ [])) ∙ r.lacks;
          free = r.free;
        }

pub distinct_around : (xs ys : List ℕ) (s : ℕ) → mem s xs ≡ false → mem s ys ≡ false → Around s (distinct xs) (distinct (xs ++ (s ∷ ys))) (distinct (xs ++ ys))
unfolding distinct
distinct_around xs ys s e h =
    let a : List ℕ = add_all [] xs in
    let r = around s a [] ys refl h in
    record {
      behind = r.behind;
      has = all_append [] xs (s ∷ ys) ∙ ap (λ (b : Bool). add_all (cond b a (a ++ (s ∷ []))) ys) (mem_all s [] xs ∙ e) ∙ r.has;
      lacks = all_append [] xs ys ∙ ap (λ (l : List ℕ). add_all l ys) (sym (append-nil a)) ∙ r.lacks;
      free = r.free;
    }
