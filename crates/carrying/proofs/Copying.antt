-- The carried walk: with nothing to copy it is the walk itself; what it copies is what the walk would list.
-- Assumes nothing.
use mathlib.Core.Path.{◌≡◌, refl, sym, ap, ◌∙◌, subst, subst⁻¹}
use Prim.Native.Nat.{ℕ, zero, suc}
use mathlib.Core.Bool.{Bool, true, false, cond, not, ◌||◌, ◌&&◌, false≢true}
use mathlib.Core.List.{List, [], ◌∷◌, ◌++◌, append_assoc}
use lib.Dec.{eqb}
use borrow.Author.Tests.{eqb-true, eqb-false}
use Rattle.std.proofs.lemmas.Bool.{or_parts, false_from_ne_true}
use Rattle.reading.specs.Table.{mem}
use Rattle.reading.specs.Visit.{choose}
use Rattle.reading.proofs.Table.{mem-head}
use Rattle.carrying.specs.Carried.{Way, Carried, Change, Changes, mark, enter, through, walk, lay_one, lay, up_to, past, on_way, with_rest, copies, copy, turn, look, skim}
use Rattle.carrying.proofs.Lists.{or_one, not_both, mem_parts, mem_neither, mem_either, mem_second, up_to_at, past_at, through-append}
use Rattle.carrying.proofs.ListParts.{part, parts, walk_seen, part_new, walk_marks, walk_keeps, part_off, parts_off, parts_without, lay_marks, lay_marked, Ahead, ahead_more, part_ahead, walk_laid}

-- nothing to copy
abbrev pub bare : Way → Carried
bare w = record { way = w; rest = [] }

-- the rest is r, behind nodes that are marked
pub record Kept (r : List ℕ) (c : Carried) : Type 0 where
  pub junk : List ℕ
  pub rest-is : c.rest ≡ junk ++ r
  pub marked : (j : ℕ) → mem j junk ≡ true → c.way.marks j ≡ true

pub kept_as : {r r' : List ℕ} {c : Carried} → r ≡ r' → Kept r c → Kept r' c
kept_as {c = c} e k = subst (λ (l : List ℕ). Kept l c) e k

module _ (S S' : ℕ → List ℕ) (d : Change) (ch : Changes d S S') where
  -- ---- where the target is not reached, both boards walk the same way

  untouched_by : (f : ℕ) → ((u : ℕ) (w : Way) → mem d.target (part S f u w) ≡ false → walk S' f u w ≡ walk S f u w)
      → (ss : List ℕ) (w : Way) → mem d.target (parts S f ss w) ≡ false → through (walk S' f) ss w ≡ through (walk S f) ss w
  untouched_by f h [] w e = refl
  untouched_by f h (s ∷ ss) w e =
      let n = mem_parts d.target (part S f s w) (parts S f ss (walk S f s w)) e in
      ap (λ (v : Way). through (walk S' f) ss v) (h s w n.0) ∙ untouched_by f h ss (walk S f s w) n.1

  pub untouched : (f u : ℕ) (w : Way) → mem d.target (part S f u w) ≡ false → walk S' f u w ≡ walk S f u w
  untouched zero u w e = refl
  untouched (suc f) u w e = pick (w.marks u) e (untouched f)
    where
      pick : (b : Bool) → mem d.target (choose b (λ _. []) (λ _. parts S f (S u) (mark u w) ++ (u ∷ []))) ≡ false
          → ((v : ℕ) (x : Way) → mem d.target (part S f v x) ≡ false → walk S' f v x ≡ walk S f v x)
          → choose b (λ _. w) (λ _. enter u (through (walk S' f) (S' u) (mark u w))) ≡ choose b (λ _. w) (λ _. enter u (through (walk S f) (S u) (mark u w)))
      pick true h ih = refl
      pick false h ih =
          let n = mem_parts d.target (parts S f (S u) (mark u w)) (u ∷ []) h in
          let apart : u ≡ d.target → ⊥ = λ p. eqb-false d.target u (or_parts (eqb d.target u) false n.1).0 (sym p) in
          ap (λ (ss : List ℕ). enter u (through (walk S' f) ss (mark u w))) (ch.others u apart)
          ∙ ap (enter u) (untouched_by f ih (S u) (mark u w) n.0)

  -- as once the target is marked
  pub through_untouched : (f : ℕ) (ss : List ℕ) (w : Way) → w.marks d.target ≡ true → through (walk S' f) ss w ≡ through (walk S f) ss w
  through_untouched f ss w e = untouched_by f (untouched f) ss w (parts_off S f ss w d.target e)

  -- ---- with nothing to copy the carried walk is the new board's walk

  through_bare_by : (f : ℕ) → ((u : ℕ) (w : Way) → skim S d f u (bare w) ≡ bare (walk S' f u w))
      → (ss : List ℕ) (w : Way) → through (skim S d f) ss (bare w) ≡ bare (through (walk S' f) ss w)
  through_bare_by f h [] w = refl
  through_bare_by f h (s ∷ ss) w = ap (λ (c : Carried). through (skim S d f) ss c) (h s w) ∙ through_bare_by f h ss (walk S' f s w)

  turn_bare : (f : ℕ) → ((u : ℕ) (w : Way) → skim S d f u (bare w) ≡ bare (walk S' f u w))
      → (w : Way) → turn (skim S d f) d (bare w) ≡ bare (through (walk S' f) (cond d.adding (d.source ∷ []) []) w)
  turn_bare f h w = pick d.adding (w.marks d.source)
    where
      pick : (a m : Bool) → choose a (λ _. with_rest [] (skim S d f d.source (bare w))) (λ _. choose m (λ _. bare w) (λ _. bare w))
          ≡ bare (through (walk S' f) (cond a (d.source ∷ []) []) w)
      pick true m = ap (with_rest []) (h d.source w)
      pick false true = refl
      pick false false = refl

  look_bare : (f : ℕ) → ((u : ℕ) (w : Way) → skim S d f u (bare w) ≡ bare (walk S' f u w))
      → (u : ℕ) (w : Way) → look (skim S d f) S d u (bare w) ≡ bare (through (walk S' f) (S' u) w)
  look_bare f h u w = pick (eqb u d.target) refl
    where
      mid : List ℕ
      mid = cond d.adding (d.source ∷ []) []

      pick : (b : Bool) → eqb u d.target ≡ b
          → choose b (λ _. through (skim S d f) d.back (turn (skim S d f) d (through (skim S d f) d.front (bare w)))) (λ _. through (skim S d f) (S u) (bare w))
          ≡ bare (through (walk S' f) (S' u) w)
      pick true e =
          ap (λ (c : Carried). through (skim S d f) d.back (turn (skim S d f) d c)) (through_bare_by f h d.front w)
          ∙ ap (λ (c : Carried). through (skim S d f) d.back c) (turn_bare f h (through (walk S' f) d.front w))
          ∙ through_bare_by f h d.back (through (walk S' f) mid (through (walk S' f) d.front w))
          ∙ ap bare (sym (through-append (walk S' f) mid d.back (through (walk S' f) d.front w)))
          ∙ ap bare (sym (through-append (walk S' f) d.front (mid ++ d.back) w))
          ∙ ap (λ (ss : List ℕ). bare (through (walk S' f) ss w)) (sym (ap S' (eqb-true u d.target e) ∙ ch.now))
      pick false e =
          through_bare_by f h (S u) w ∙ ap (λ (ss : List ℕ). bare (through (walk S' f) ss w)) (sym (ch.others u (eqb-false u d.target e)))

  pub skim_bare : (f u : ℕ) (w : Way) → skim S d f u (bare w) ≡ bare (walk S' f u w)
  skim_bare zero u w = refl
  skim_bare (suc f) u w = pick (w.marks u) (skim_bare f)
    where
      pick : (b : Bool) → ((v : ℕ) (x : Way) → skim S d f v (bare x) ≡ bare (walk S' f v x))
          → choose b (λ _. bare w) (λ _. on_way (enter u) (look (skim S d f) S d u (bare (mark u w))))
          ≡ bare (choose b (λ _. w) (λ _. enter u (through (walk S' f) (S' u) (mark u w))))
      pick true ih = refl
      pick false ih = ap (on_way (enter u)) (look_bare f ih u (mark u w))

  pub through_bare : (f : ℕ) (ss : List ℕ) (w : Way) → through (skim S d f) ss (bare w) ≡ bare (through (walk S' f) ss w)
  through_bare f = through_bare_by f (skim_bare f)

  -- ---- one step of the carried walk

  pub skim_seen : (f u : ℕ) (c : Carried) → c.way.marks u ≡ true → skim S d (suc f) u c ≡ c
  skim_seen f u c e =
      ap (λ (b : Bool). choose b (λ _. c) (λ _. choose (copies d u c) (λ _. copy u c) (λ _. on_way (enter u) (look (skim S d f) S d u (on_way (mark u) c))))) e

  skim_new : (f u : ℕ) (c : Carried) → c.way.marks u ≡ false
      → skim S d (suc f) u c ≡ choose (copies d u c) (λ _. copy u c) (λ _. on_way (enter u) (look (skim S d f) S d u (on_way (mark u) c)))
  skim_new f u c e =
      ap (λ (b : Bool). choose b (λ _. c) (λ _. choose (copies d u c) (λ _. copy u c) (λ _. on_way (enter u) (look (skim S d f) S d u (on_way (mark u) c))))) e

  pub skim_copies : (f u : ℕ) (c : Carried) → c.way.marks u ≡ false → copies d u c ≡ true → skim S d (suc f) u c ≡ copy u c
  skim_copies f u c e h =
      skim_new f u c e ∙ ap (λ (b : Bool). choose b (λ _. copy u c) (λ _. on_way (enter u) (look (skim S d f) S d u (on_way (mark u) c)))) h

  pub skim_looks : (f u : ℕ) (c : Carried) → c.way.marks u ≡ false → copies d u c ≡ false
      → skim S d (suc f) u c ≡ on_way (enter u) (look (skim S d f) S d u (on_way (mark u) c))
  skim_looks f u c e h =
      skim_new f u c e ∙ ap (λ (b : Bool). choose b (λ _. copy u c) (λ _. on_way (enter u) (look (skim S d f) S d u (on_way (mark u) c)))) h

  -- the rest cut at a node that is not marked: what the old walk lists there, and what comes behind
  pub record Cut (f u : ℕ) (o : Way) (r : List ℕ) (c : Carried) (k : Kept (part S (suc f) u o ++ r) c) : Type 0 where
    pub has : mem u c.rest ≡ true
    pub first : up_to u c.rest ≡ k.junk ++ part S (suc f) u o
    pub behind : past u c.rest ≡ r

  pub cut : (f u : ℕ) (o : Way) (r : List ℕ) (c : Carried) (k : Kept (part S (suc f) u o ++ r) c) → c.way.marks u ≡ false → o.marks u ≡ false → Cut f u o r c k
  cut f u o r c k e new =
      record {
        has = ap (mem u) split ∙ mem_second u ys (u ∷ r) (mem-head u r);
        first = ap (up_to u) split ∙ up_to_at u ys r free ∙ append_assoc k.junk ps (u ∷ []) ∙ ap (λ (l : List ℕ). k.junk ++ l) (sym (part_new S f u o new));
        behind = ap (past u) split ∙ past_at u ys r free;
      }
    where
      ps : List ℕ
      ps = parts S f (S u) (mark u o)

      ys : List ℕ
      ys = k.junk ++ ps

      split : c.rest ≡ ys ++ (u ∷ r)
      split =
          k.rest-is ∙ ap (λ (l : List ℕ). k.junk ++ (l ++ r)) (part_new S f u o new) ∙ ap (λ (l : List ℕ). k.junk ++ l) (append_assoc ps (u ∷ []) r)
          ∙ sym (append_assoc k.junk ps (u ∷ r))

      free : mem u ys ≡ false
      free = mem_neither u k.junk ps (false_from_ne_true (mem u k.junk) (λ h. not_both (k.marked u h) e)) (parts_without S f u (S u) o)

  -- ---- copying: o is the old board's walk, p the new board's, c the carried one

  pub record Next (r : List ℕ) (o p : Way) (c : Carried) : Type 0 where
    pub way_is : c.way ≡ p
    pub kept : Kept r c
    pub ahead : Ahead S o c.way

  late_seen : (f u : ℕ) (o : Way) (c : Carried) (r : List ℕ) → Ahead S o c.way → c.way.marks u ≡ true → Kept (part S f u o ++ r) c
      → Next r (walk S f u o) (walk S' f u c.way) c
  late_seen f u o c r a e k =
      record {
        way_is = sym (walk_seen S' f u c.way e);
        kept = record {
          junk = k.junk ++ part S f u o;
          rest-is = k.rest-is ∙ sym (append_assoc k.junk (part S f u o) r);
          marked = λ j m. mem_either j k.junk (part S f u o) m (k.marked j) (inside j);
        };
        ahead = record {
          has = λ j m. or_one (mem j (part S f u o)) (o.marks j) (sym (walk_marks S f u o j) ∙ m) (inside j) (a.has j);
          closed = λ x m n. a.closed x m (or_parts (mem x (part S f u o)) (o.marks x) (sym (walk_marks S f u o x) ∙ n)).1;
        };
      }
    where
      inside : (j : ℕ) → mem j (part S f u o) ≡ true → c.way.marks j ≡ true
      inside = part_ahead S f u o c.way a e

  -- a target that is not marked is in neither walk's part
  off : (f u : ℕ) (o q : Way) → Ahead S o q → mem d.target (part S f u q) ≡ false → q.marks d.target ≡ false → mem d.target (part S f u o) ≡ false
  off f u o q a e m =
      (or_parts (mem d.target (part S f u o)) (q.marks d.target)
      (sym (lay_marks (part S f u o) q d.target) ∙ ap (λ (v : Way). v.marks d.target) (sym (walk_laid S f u o q a))
      ∙ walk_marks S f u q d.target ∙ ap (λ (b : Bool). b || q.marks d.target) e ∙ m)
      ).0

  late_copies : (f u : ℕ) (o : Way) (c : Carried) (r : List ℕ) → Ahead S o c.way → mem d.target (part S (suc f) u c.way) ≡ false
      → (k : Kept (part S (suc f) u o ++ r) c) → Cut f u o r c k → copies d u c ≡ true
  late_copies f u o c r a e k x =
      ap (λ (b : Bool). b && (c.way.marks d.target || not (mem d.target (up_to u c.rest)))) x.has ∙ pick (c.way.marks d.target) refl
    where
      pick : (b : Bool) → c.way.marks d.target ≡ b → (b || not (mem d.target (up_to u c.rest))) ≡ true
      pick true m = refl
      pick false m =
          ap (λ (l : List ℕ). not (mem d.target l)) x.first
          ∙ ap not
          (mem_neither d.target k.junk (part S (suc f) u o) (false_from_ne_true (mem d.target k.junk) (λ h. not_both (k.marked d.target h) m))
          (off (suc f) u o c.way a e m))

  late_copied : (f u : ℕ) (o : Way) (c : Carried) (r : List ℕ) → Ahead S o c.way → mem d.target (part S (suc f) u c.way) ≡ false
      → (k : Kept (part S (suc f) u o ++ r) c) → Cut f u o r c k → Next r (walk S (suc f) u o) (walk S' (suc f) u c.way) (copy u c)
  late_copied f u o c r a e k x =
      record {
        way_is = laid ∙ sym (walk_laid S (suc f) u o c.way a) ∙ sym (untouched (suc f) u c.way e);
        kept = record { junk = []; rest-is = x.behind; marked = λ j m. absurd (false≢true m) };
        ahead =
            ahead_more S (part S (suc f) u o) o c.way (walk S (suc f) u o) (lay (up_to u c.rest) c.way) (walk_marks S (suc f) u o)
            (λ j. ap (λ (v : Way). v.marks j) laid ∙ lay_marks (part S (suc f) u o) c.way j) a;
      }
    where
      laid : lay (up_to u c.rest) c.way ≡ lay (part S (suc f) u o) c.way
      laid =
          ap (λ (l : List ℕ). lay l c.way) x.first ∙ through-append lay_one k.junk (part S (suc f) u o) c.way
          ∙ ap (λ (v : Way). lay (part S (suc f) u o) v) (lay_marked k.junk c.way k.marked)

  pub late : (f u : ℕ) (o : Way) (c : Carried) (r : List ℕ) → Ahead S o c.way → mem d.target (part S f u c.way) ≡ false → Kept (part S f u o ++ r) c
      → Next r (walk S f u o) (walk S' f u c.way) (skim S d f u c)
  late zero u o c r a e k = record { way_is = refl; kept = k; ahead = a }
  late (suc f) u o c r a e k = pick (c.way.marks u) refl
    where
      pick : (b : Bool) → c.way.marks u ≡ b → Next r (walk S (suc f) u o) (walk S' (suc f) u c.way) (skim S d (suc f) u c)
      pick true m = subst⁻¹ (Next r (walk S (suc f) u o) (walk S' (suc f) u c.way)) (skim_seen f u c m) (late_seen (suc f) u o c r a m k)
      pick false m =
          let x = cut f u o r c k m (false_from_ne_true (o.marks u) (λ h. not_both (a.has u h) m)) in
          subst⁻¹ (Next r (walk S (suc f) u o) (walk S' (suc f) u c.way)) (skim_copies f u c m (late_copies f u o c r a e k x)) (late_copied f u o c r a e k x)

  pub late_through : (f : ℕ) (ss : List ℕ) (o : Way) (c : Carried) (r : List ℕ) → Ahead S o c.way → c.way.marks d.target ≡ true → Kept (parts S f ss o ++ r) c
      → Next r (through (walk S f) ss o) (through (walk S' f) ss c.way) (through (skim S d f) ss c)
  late_through f [] o c r a e k = record { way_is = refl; kept = k; ahead = a }
  late_through f (s ∷ ss) o c r a e k =
      let one = late f s o c (parts S f ss (walk S f s o) ++ r) a (part_off S f s c.way d.target e) (kept_as (append_assoc (part S f s o) (parts S f ss (walk S f s o)) r) k) in
      let two = late_through f ss (walk S f s o) (skim S d f s c) r one.ahead
      (ap (λ (v : Way). v.marks d.target) one.way_is ∙ walk_keeps S' f s c.way d.target e) one.kept in
      record {
        way_is = two.way_is ∙ ap (λ (v : Way). through (walk S' f) ss v) one.way_is;
        kept = two.kept;
        ahead = two.ahead;
      }
