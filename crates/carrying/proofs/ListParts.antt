-- The part of the list that going to a node adds, and what it says of the marks.
-- Assumes nothing.
use mathlib.Core.Path.{◌≡◌, refl, sym, ap, ◌∙◌}
use Prim.Native.Nat.{ℕ, zero, suc}
use mathlib.Core.Bool.{Bool, true, false, ◌||◌, or-false, false≢true}
use mathlib.Core.List.{List, [], ◌∷◌, ◌++◌, append_assoc, append-nil}
use lib.Dec.{eqb}
use borrow.Author.Tests.{eq-eqb, ne_eqb, eqb-true, eqb-false}
use Rattle.std.proofs.Math.Bool.{or_assoc}
use Rattle.std.proofs.lemmas.Bool.{or_parts, false_from_ne_true}
use Rattle.reading.specs.Table.{mem}
use Rattle.reading.specs.Visit.{choose}
use Rattle.reading.proofs.Table.{or_right, or_left}
use Rattle.carrying.specs.Carried.{Way, mark, enter, through, walk, lay_one, lay}
use Rattle.carrying.proofs.Lists.{or_one, not_both, or_turned, or_swap, mem-append, mem_one, mem_either, through-append}

-- ---- what is listed on the way

abbrev pub parts_of : (ℕ → Way → Way) → (ℕ → Way → List ℕ) → List ℕ → Way → List ℕ
parts_of g p [] w = []
parts_of g p (s ∷ ss) w = p s w ++ parts_of g p ss (g s w)

abbrev pub part : (ℕ → List ℕ) → ℕ → ℕ → Way → List ℕ
part S zero u w = []
part S (suc f) u w = choose (w.marks u) (λ _. []) (λ _. parts_of (walk S f) (part S f) (S u) (mark u w) ++ (u ∷ []))

abbrev pub parts : (ℕ → List ℕ) → ℕ → List ℕ → Way → List ℕ
parts S f ss w = parts_of (walk S f) (part S f) ss w

pub parts_append : (S : ℕ → List ℕ) (f : ℕ) (a b : List ℕ) (w : Way) → parts S f (a ++ b) w ≡ parts S f a w ++ parts S f b (through (walk S f) a w)
parts_append S f [] b w = refl
parts_append S f (s ∷ a) b w =
    ap (λ (l : List ℕ). part S f s w ++ l) (parts_append S f a b (walk S f s w))
    ∙ sym (append_assoc (part S f s w) (parts S f a (walk S f s w)) (parts S f b (through (walk S f) a (walk S f s w))))

-- ---- one step

module _ (S : ℕ → List ℕ) where
  pub walk_seen : (f u : ℕ) (w : Way) → w.marks u ≡ true → walk S f u w ≡ w
  walk_seen zero u w e = refl
  walk_seen (suc f) u w e = ap (λ (b : Bool). choose b (λ _. w) (λ _. enter u (through (walk S f) (S u) (mark u w)))) e

  pub walk_new : (f u : ℕ) (w : Way) → w.marks u ≡ false → walk S (suc f) u w ≡ enter u (through (walk S f) (S u) (mark u w))
  walk_new f u w e = ap (λ (b : Bool). choose b (λ _. w) (λ _. enter u (through (walk S f) (S u) (mark u w)))) e

  pub part_seen : (f u : ℕ) (w : Way) → w.marks u ≡ true → part S f u w ≡ []
  part_seen zero u w e = refl
  part_seen (suc f) u w e = ap (λ (b : Bool). choose b (λ _. []) (λ _. parts S f (S u) (mark u w) ++ (u ∷ []))) e

  pub part_new : (f u : ℕ) (w : Way) → w.marks u ≡ false → part S (suc f) u w ≡ parts S f (S u) (mark u w) ++ (u ∷ [])
  part_new f u w e = ap (λ (b : Bool). choose b (λ _. []) (λ _. parts S f (S u) (mark u w) ++ (u ∷ []))) e

  -- ---- the list, and the marks

  abbrev MarkedBy : (ℕ → Way → Way) → (ℕ → Way → List ℕ) → Type 0
  MarkedBy g p = (u : ℕ) (w : Way) (j : ℕ) → (g u w).marks j ≡ (mem j (p u w) || w.marks j)

  marks_through : (g : ℕ → Way → Way) (p : ℕ → Way → List ℕ) → MarkedBy g p
      → (ss : List ℕ) (w : Way) (j : ℕ) → (through g ss w).marks j ≡ (mem j (parts_of g p ss w) || w.marks j)
  marks_through g p h [] w j = refl
  marks_through g p h (s ∷ ss) w j =
      marks_through g p h ss (g s w) j
      ∙ ap (λ (b : Bool). mem j (parts_of g p ss (g s w)) || b) (h s w j)
      ∙ or_turned (mem j (parts_of g p ss (g s w))) (mem j (p s w)) (w.marks j)
      ∙ ap (λ (b : Bool). b || w.marks j) (sym (mem-append j (p s w) (parts_of g p ss (g s w))))

  pub walk_marks : (f u : ℕ) (w : Way) (j : ℕ) → (walk S f u w).marks j ≡ (mem j (part S f u w) || w.marks j)
  walk_marks zero u w j = refl
  walk_marks (suc f) u w j = pick (w.marks u) (walk_marks f)
    where
      shift : (a b c : Bool) → (a || (b || c)) ≡ (a || (b || false) || c)
      shift a b c = ap (λ (d : Bool). a || (d || c)) (sym (or-false b)) ∙ sym (or_assoc a (b || false) c)

      pick : (b : Bool) → ((v : ℕ) (x : Way) (i : ℕ) → (walk S f v x).marks i ≡ (mem i (part S f v x) || x.marks i))
          → (choose b (λ _. w) (λ _. enter u (through (walk S f) (S u) (mark u w)))).marks j
          ≡ (mem j (choose b (λ _. []) (λ _. parts S f (S u) (mark u w) ++ (u ∷ []))) || w.marks j)
      pick true ih = refl
      pick false ih =
          marks_through (walk S f) (part S f) ih (S u) (mark u w) j
          ∙ shift (mem j (parts S f (S u) (mark u w))) (eqb j u) (w.marks j)
          ∙ ap (λ (b : Bool). b || w.marks j) (sym (mem-append j (parts S f (S u) (mark u w)) (u ∷ [])))

  pub through_marks : (f : ℕ) (ss : List ℕ) (w : Way) (j : ℕ) → (through (walk S f) ss w).marks j ≡ (mem j (parts S f ss w) || w.marks j)
  through_marks f ss w j = marks_through (walk S f) (part S f) (walk_marks f) ss w j

  pub walk_keeps : (f u : ℕ) (w : Way) (j : ℕ) → w.marks j ≡ true → (walk S f u w).marks j ≡ true
  walk_keeps f u w j e = walk_marks f u w j ∙ or_right (mem j (part S f u w)) e

  pub through_keeps : (f : ℕ) (ss : List ℕ) (w : Way) (j : ℕ) → w.marks j ≡ true → (through (walk S f) ss w).marks j ≡ true
  through_keeps f ss w j e = through_marks f ss w j ∙ or_right (mem j (parts S f ss w)) e

  -- what is not marked after was not marked before
  pub walk_unmarked : (f u : ℕ) (w : Way) (j : ℕ) → (walk S f u w).marks j ≡ false → w.marks j ≡ false
  walk_unmarked f u w j e = (or_parts (mem j (part S f u w)) (w.marks j) (sym (walk_marks f u w j) ∙ e)).1

  listed_through : (g : ℕ → Way → Way) (p : ℕ → Way → List ℕ) → ((u : ℕ) (w : Way) → (g u w).listed ≡ w.listed ++ p u w)
      → (ss : List ℕ) (w : Way) → (through g ss w).listed ≡ w.listed ++ parts_of g p ss w
  listed_through g p h [] w = sym (append-nil w.listed)
  listed_through g p h (s ∷ ss) w =
      listed_through g p h ss (g s w) ∙ ap (λ (l : List ℕ). l ++ parts_of g p ss (g s w)) (h s w)
      ∙ append_assoc w.listed (p s w) (parts_of g p ss (g s w))

  pub walk_listed : (f u : ℕ) (w : Way) → (walk S f u w).listed ≡ w.listed ++ part S f u w
  walk_listed zero u w = sym (append-nil w.listed)
  walk_listed (suc f) u w = pick (w.marks u) (walk_listed f)
    where
      pick : (b : Bool) → ((v : ℕ) (x : Way) → (walk S f v x).listed ≡ x.listed ++ part S f v x)
          → (choose b (λ _. w) (λ _. enter u (through (walk S f) (S u) (mark u w)))).listed
          ≡ w.listed ++ choose b (λ _. []) (λ _. parts S f (S u) (mark u w) ++ (u ∷ []))
      pick true ih = sym (append-nil w.listed)
      pick false ih =
          ap (λ (l : List ℕ). l ++ (u ∷ [])) (listed_through (walk S f) (part S f) ih (S u) (mark u w))
          ∙ append_assoc w.listed (parts S f (S u) (mark u w)) (u ∷ [])

  -- ---- what is listed was not marked

  parts_fresh_by : (f : ℕ) → ((u : ℕ) (w : Way) (j : ℕ) → mem j (part S f u w) ≡ true → w.marks j ≡ false)
      → (ss : List ℕ) (w : Way) (j : ℕ) → mem j (parts S f ss w) ≡ true → w.marks j ≡ false
  parts_fresh_by f h [] w j e = absurd (false≢true e)
  parts_fresh_by f h (s ∷ ss) w j e =
      mem_either j (part S f s w) (parts S f ss (walk S f s w)) e (λ a. h s w j a)
      (λ b. walk_unmarked f s w j (parts_fresh_by f h ss (walk S f s w) j b))

  pub part_fresh : (f u : ℕ) (w : Way) (j : ℕ) → mem j (part S f u w) ≡ true → w.marks j ≡ false
  part_fresh zero u w j e = absurd (false≢true e)
  part_fresh (suc f) u w j e = pick (w.marks u) refl e (part_fresh f)
    where
      pick : (b : Bool) → w.marks u ≡ b → mem j (choose b (λ _. []) (λ _. parts S f (S u) (mark u w) ++ (u ∷ []))) ≡ true
          → ((v : ℕ) (x : Way) (i : ℕ) → mem i (part S f v x) ≡ true → x.marks i ≡ false) → w.marks j ≡ false
      pick true m h ih = absurd (false≢true h)
      pick false m h ih =
          mem_either j (parts S f (S u) (mark u w)) (u ∷ []) h
          (λ a. (or_parts (eqb j u) (w.marks j) (parts_fresh_by f ih (S u) (mark u w) j a)).1)
          (λ b. ap w.marks (mem_one j u b) ∙ m)

  pub parts_fresh : (f : ℕ) (ss : List ℕ) (w : Way) (j : ℕ) → mem j (parts S f ss w) ≡ true → w.marks j ≡ false
  parts_fresh f = parts_fresh_by f (part_fresh f)

  -- a marked node is not listed
  pub part_off : (f u : ℕ) (w : Way) (j : ℕ) → w.marks j ≡ true → mem j (part S f u w) ≡ false
  part_off f u w j e = false_from_ne_true (mem j (part S f u w)) (λ h. not_both e (part_fresh f u w j h))

  pub parts_off : (f : ℕ) (ss : List ℕ) (w : Way) (j : ℕ) → w.marks j ≡ true → mem j (parts S f ss w) ≡ false
  parts_off f ss w j e = false_from_ne_true (mem j (parts S f ss w)) (λ h. not_both e (parts_fresh f ss w j h))

  -- so the node itself comes last, and once
  pub parts_without : (f u : ℕ) (ss : List ℕ) (w : Way) → mem u (parts S f ss (mark u w)) ≡ false
  parts_without f u ss w = parts_off f ss (mark u w) u (or_left (w.marks u) (eq-eqb u u refl))

  -- ---- what is listed stays inside a set that is closed under the sources of what is not marked

  abbrev Closed : (ℕ → Bool) → Way → Type 0
  Closed P w = (x : ℕ) → P x ≡ true → w.marks x ≡ false → (y : ℕ) → mem y (S x) ≡ true → P y ≡ true

  closed_mark : (P : ℕ → Bool) (u : ℕ) (w : Way) → Closed P w → Closed P (mark u w)
  closed_mark P u w h x e m = h x e (or_parts (eqb x u) (w.marks x) m).1

  parts_inside_by : (f : ℕ) (P : ℕ → Bool) → ((u : ℕ) (w : Way) → Closed P w → P u ≡ true → (j : ℕ) → mem j (part S f u w) ≡ true → P j ≡ true)
      → (ss : List ℕ) (w : Way) → Closed P w → ((s : ℕ) → mem s ss ≡ true → P s ≡ true) → (j : ℕ) → mem j (parts S f ss w) ≡ true → P j ≡ true
  parts_inside_by f P h [] w c all j e = absurd (false≢true e)
  parts_inside_by f P h (s ∷ ss) w c all j e =
      mem_either j (part S f s w) (parts S f ss (walk S f s w)) e
      (λ a. h s w c (all s (or_left (mem s ss) (eq-eqb s s refl))) j a)
      (λ b. parts_inside_by f P h ss (walk S f s w) (λ x p m. c x p (walk_unmarked f s w x m)) (λ i m. all i (or_right (eqb i s) m)) j b)

  part_inside : (f : ℕ) (P : ℕ → Bool) (u : ℕ) (w : Way) → Closed P w → P u ≡ true → (j : ℕ) → mem j (part S f u w) ≡ true → P j ≡ true
  part_inside zero P u w c e j h = absurd (false≢true h)
  part_inside (suc f) P u w c e j h = pick (w.marks u) refl h (part_inside f P)
    where
      pick : (b : Bool) → w.marks u ≡ b → mem j (choose b (λ _. []) (λ _. parts S f (S u) (mark u w) ++ (u ∷ []))) ≡ true
          → ((v : ℕ) (x : Way) → Closed P x → P v ≡ true → (i : ℕ) → mem i (part S f v x) ≡ true → P i ≡ true) → P j ≡ true
      pick true m i ih = absurd (false≢true i)
      pick false m i ih =
          mem_either j (parts S f (S u) (mark u w)) (u ∷ []) i
          (λ a. parts_inside_by f P ih (S u) (mark u w) (closed_mark P u w c) (c u e m) j a)
          (λ b. ap P (mem_one j u b) ∙ e)

-- ---- copying

pub lay_marks : (xs : List ℕ) (q : Way) (j : ℕ) → (lay xs q).marks j ≡ (mem j xs || q.marks j)
lay_marks [] q j = refl
lay_marks (x ∷ xs) q j = lay_marks xs (lay_one x q) j ∙ ap (λ (b : Bool). mem j xs || b) (one (q.marks x) refl) ∙ or_turned (mem j xs) (eqb j x) (q.marks j)
  where
    one : (b : Bool) → q.marks x ≡ b → (choose b (λ _. q) (λ _. enter x (mark x q))).marks j ≡ (eqb j x || q.marks j)
    one true e = in_it (eqb j x) refl
      where
        in_it : (b : Bool) → eqb j x ≡ b → q.marks j ≡ (b || q.marks j)
        in_it true h = ap q.marks (eqb-true j x h) ∙ e
        in_it false h = refl
    one false e = refl

-- what is marked already is not copied
pub lay_marked : (xs : List ℕ) (q : Way) → ((j : ℕ) → mem j xs ≡ true → q.marks j ≡ true) → lay xs q ≡ q
lay_marked [] q h = refl
lay_marked (x ∷ xs) q h =
    ap (λ (v : Way). lay xs v) (ap (λ (b : Bool). choose b (λ _. q) (λ _. enter x (mark x q))) (h x (or_left (mem x xs) (eq-eqb x x refl))))
    ∙ lay_marked xs q (λ j e. h j (or_right (eqb j x) e))

mark_swap : (u x : ℕ) (q : Way) → enter x (mark x (mark u q)) ≡ mark u (enter x (mark x q))
mark_swap u x q = λ i. record { marks = λ j. or_swap (eqb j x) (eqb j u) (q.marks j) i; listed = q.listed ++ (x ∷ []) }

lay-mark : (u : ℕ) (xs : List ℕ) (q : Way) → mem u xs ≡ false → lay xs (mark u q) ≡ mark u (lay xs q)
lay-mark u [] q e = refl
lay-mark u (x ∷ xs) q e = ap (λ (v : Way). lay xs v) (one (q.marks x) refl) ∙ lay-mark u xs (lay_one x q) (or_parts (eqb u x) (mem u xs) e).1
  where
    other : eqb x u ≡ false
    other = ne_eqb x u (λ p. eqb-false u x (or_parts (eqb u x) (mem u xs) e).0 (sym p))

    one : (b : Bool) → q.marks x ≡ b → choose (eqb x u || q.marks x) (λ _. mark u q) (λ _. enter x (mark x (mark u q))) ≡ mark u (choose b (λ _. q) (λ _. enter x (mark x q)))
    one true m = ap (λ (b : Bool). choose b (λ _. mark u q) (λ _. enter x (mark x (mark u q)))) (or_right (eqb x u) m)
    one false m =
        ap (λ (b : Bool). choose b (λ _. mark u q) (λ _. enter x (mark x (mark u q)))) (ap (λ (b : Bool). b || q.marks x) other ∙ m) ∙ mark_swap u x q

-- ---- a walk that is ahead of another

module _ (S : ℕ → List ℕ) where
  -- q has o's marks, and with a node that o has not all its sources
  pub record Ahead (o q : Way) : Type 0 where
    pub has : (j : ℕ) → o.marks j ≡ true → q.marks j ≡ true
    pub closed : (x : ℕ) → q.marks x ≡ true → o.marks x ≡ false → (y : ℕ) → mem y (S x) ≡ true → q.marks y ≡ true

  pub ahead_refl : (o : Way) → Ahead o o
  ahead_refl o = record { has = λ j e. e; closed = λ x e m y h. not_both e m }

  pub ahead_mark : (u : ℕ) (o q : Way) → Ahead o q → Ahead (mark u o) (mark u q)
  ahead_mark u o q a =
      record {
        has = λ j e. or_one (eqb j u) (o.marks j) e (λ h. or_left (q.marks j) h) (λ h. or_right (eqb j u) (a.has j h));
        closed = λ x e m y h.
            let n = or_parts (eqb x u) (o.marks x) m in
            or_one (eqb x u) (q.marks x) e (λ t. not_both t n.0) (λ t. or_right (eqb y u) (a.closed x t n.1 y h));
      }

  -- both have the same marks more
  pub ahead_more : (xs : List ℕ) (o q o' q' : Way) → ((j : ℕ) → o'.marks j ≡ (mem j xs || o.marks j)) → ((j : ℕ) → q'.marks j ≡ (mem j xs || q.marks j))
      → Ahead o q → Ahead o' q'
  ahead_more xs o q o' q' mo mq a =
      record {
        has = λ j e. or_one (mem j xs) (o.marks j) (sym (mo j) ∙ e) (λ h. mq j ∙ or_left (q.marks j) h) (λ h. mq j ∙ or_right (mem j xs) (a.has j h));
        closed = λ x e m y h.
            let n = or_parts (mem x xs) (o.marks x) (sym (mo x) ∙ m) in
            or_one (mem x xs) (q.marks x) (sym (mq x) ∙ e) (λ t. not_both t n.0) (λ t. mq y ∙ or_right (mem y xs) (a.closed x t n.1 y h));
      }

  -- all that o goes on to list from a node that q has marked, q has marked
  pub part_ahead : (f u : ℕ) (o q : Way) → Ahead o q → q.marks u ≡ true → (j : ℕ) → mem j (part S f u o) ≡ true → q.marks j ≡ true
  part_ahead f u o q a e = part_inside S f q.marks u o a.closed e

  -- the walk from q is o's, without what q has marked
  abbrev Laid : (ℕ → Way → Way) → (ℕ → Way → List ℕ) → Type 0
  Laid g p = (u : ℕ) (o q : Way) → Ahead o q → g u q ≡ lay (p u o) q

  laid_through : (f : ℕ) → Laid (walk S f) (part S f) → (ss : List ℕ) (o q : Way) → Ahead o q → through (walk S f) ss q ≡ lay (parts S f ss o) q
  laid_through f h [] o q a = refl
  laid_through f h (s ∷ ss) o q a =
      laid_through f h ss (walk S f s o) (walk S f s q)
      (ahead_more (part S f s o) o q (walk S f s o) (walk S f s q) (walk_marks S f s o)
      (λ j. ap (λ (v : Way). v.marks j) (h s o q a) ∙ lay_marks (part S f s o) q j) a)
      ∙ ap (λ (v : Way). lay (parts S f ss (walk S f s o)) v) (h s o q a)
      ∙ sym (through-append lay_one (part S f s o) (parts S f ss (walk S f s o)) q)

  pub walk_laid : (f u : ℕ) (o q : Way) → Ahead o q → walk S f u q ≡ lay (part S f u o) q
  walk_laid zero u o q a = refl
  walk_laid (suc f) u o q a = pick (q.marks u) refl (walk_laid f)
    where
      pick : (b : Bool) → q.marks u ≡ b → ((v : ℕ) (x y : Way) → Ahead x y → walk S f v y ≡ lay (part S f v x) y) → walk S (suc f) u q ≡ lay (part S (suc f) u o) q
      pick true e ih = walk_seen S (suc f) u q e ∙ sym (lay_marked (part S (suc f) u o) q (part_ahead (suc f) u o q a e))
      pick false e ih =
          let new : o.marks u ≡ false = false_from_ne_true (o.marks u) (λ h. not_both (a.has u h) e) in
          let ps : List ℕ = parts S f (S u) (mark u o) in
          let without : mem u ps ≡ false = parts_without S f u (S u) o in
          walk_new S f u q e
          ∙ ap (enter u) (laid_through f ih (S u) (mark u o) (mark u q) (ahead_mark u o q a) ∙ lay-mark u ps q without)
          ∙ sym (ap (λ (b : Bool). choose b (λ _. lay ps q) (λ _. enter u (mark u (lay ps q)))) (lay_marks ps q u ∙ ap (λ (b : Bool). b || q.marks u) without ∙ e))
          ∙ sym (through-append lay_one ps (u ∷ []) q)
          ∙ ap (λ (l : List ℕ). lay l q) (sym (part_new S f u o new))
