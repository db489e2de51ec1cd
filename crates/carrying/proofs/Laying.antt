-- Marks and list in their arrays, and the copying of a part of the old list. Assumes nothing.
use mathlib.Core.Path.{◌≡◌, refl, sym, ap, ◌∙◌, subst}
use Prim.Native.Nat.{ℕ, ◌+◌, ◌<◌, ◌≤◌}
use native.Mathlib.Nat.{le_refl, le_trans}
use native.Mathlib.Numerals.{add-one}
use native.Mathlib.Decide.{ℕ_discrete}
use native.Mathlib.Omega.{arith}
use mathlib.Core.Bool.{Bool, true, false, ◌||◌}
use mathlib.Core.List.{List, [], ◌∷◌, ◌++◌}
use borrow.Author.Tests.{eq-eqb, ne_eqb}
use lib.ListN.{length, get_or, set, take, drop, length-set, length-take, drop_of_length-le}
use lib.Seq.{get_or-set_same, get_or-set_other, take-suc, take-suc-set, drop-append-le, length-take-le}
use Rattle.reading.specs.Visit.{choose}
use Rattle.reading.proofs.Table.{or_left}
use Rattle.graph.proofs.Going.{unmarked-set}
use Rattle.carrying.specs.Carried.{Way, mark, enter, lay_one, lay}
use Rattle.carrying.specs.Skimming.{Shows, Grown, LaidPart}
use Rattle.carrying.proofs.Lists.{through-append}

-- ---- what a mark says

pub shows_seen : (m : List Bool) (l : List ℕ) (c u : ℕ) (w : Way) → Shows m l c w → u < 64 → get_or m u false ≡ true → w.marks u ≡ true
shows_seen m l c u w s h e = sym (s.marks u h) ∙ e

pub shows_new : (m : List Bool) (l : List ℕ) (c u : ℕ) (w : Way) → Shows m l c w → u < 64 → get_or m u false ≡ false → w.marks u ≡ false
shows_new m l c u w s h e = sym (s.marks u h) ∙ e

-- ---- a node is marked, or listed

pub shows_mark : (m : List Bool) (l : List ℕ) (c v : ℕ) (w : Way) → v < length m → Shows m l c w → Shows (set m v true) l c (mark v w)
shows_mark m l c v w h s = record { marks = λ u b. pick u b (ℕ_discrete u v); list = s.list }
  where
    pick : (u : ℕ) → u < 64 → Dec (u ≡ v) → get_or (set m v true) u false ≡ (mark v w).marks u
    pick u b (yes p) =
        ap (λ (i : ℕ). get_or (set m v true) i false) p ∙ get_or-set_same m v true false h
        ∙ sym (or_left (w.marks u) (eq-eqb u v p))
    pick u b (no n) = get_or-set_other m v u true false n ∙ s.marks u b ∙ ap (λ (t : Bool). t || w.marks u) (sym (ne_eqb u v n))

pub shows_enter : (m : List Bool) (l : List ℕ) (c v : ℕ) (w : Way) → c < length l → Shows m l c w → Shows m (set l c v) (c + 1) (enter v w)
shows_enter m l c v w h s = record {
  marks = s.marks;
  list = rw add-one (take-suc-set l c v h ∙ ap (λ (x : List ℕ). x ++ (v ∷ [])) s.list);
}

-- ---- how marks and list grow

pub grown_refl : (m : List Bool) (c : ℕ) → Grown m c m c
grown_refl m c = record { marks_kept = refl; fewer = le_refl _; total = refl }

pub grown_trans : (m : List Bool) (c : ℕ) (m' : List Bool) (c' : ℕ) (m'' : List Bool) (c'' : ℕ) → Grown m c m' c' → Grown m' c' m'' c'' → Grown m c m'' c''
grown_trans m c m' c' m'' c'' g h =
    record {
      marks_kept = h.marks_kept ∙ g.marks_kept;
      fewer = le_trans h.fewer g.fewer;
      total = h.total ∙ g.total;
    }

-- marked now, and listed after what its sources add
pub grown_around : (m : List Bool) (c v : ℕ) (m' : List Bool) (c' : ℕ) → v < length m → get_or m v false ≡ false → Grown (set m v true) c m' c'
    → Grown m c m' (c' + 1)
grown_around m c v m' c' in_m new g =
    record {
      marks_kept = g.marks_kept ∙ length-set m v true;
      fewer = omega (arith, g.fewer, unmarked-set m v in_m new);
      total = omega (arith, g.total, unmarked-set m v in_m new);
    }

-- ---- copying

part_none : (old : List ℕ) (i : ℕ) → drop i (take i old) ≡ []
part_none old i = drop_of_length-le (take i old) {i = i} (omega (arith, length-take i old))

part-more : (old : List ℕ) (start i : ℕ) → start ≤ i → i < length old → drop start (take (i + 1) old) ≡ drop start (take i old) ++ (get_or old i 0 ∷ [])
part-more old start i h b =
    rw add-one
    (ap (drop start) (take-suc old i 0 b) ∙ drop-append-le start (take i old) (get_or old i 0 ∷ []) (omega (arith, length-take-le i old (omega arith))))

pub laid_none : (old : List ℕ) (i : ℕ) (m : List Bool) (l : List ℕ) (c : ℕ) → LaidPart old i i m l c m l c
laid_none old i m l c = record { grown = grown_refl m c; shows = λ w s. subst (λ (p : List ℕ). Shows m l c (lay p w)) (sym (part_none old i)) s }

module _ (old : List ℕ) (start i x : ℕ) (from : start ≤ i) (inside : i < length old) (node : x < 64) (is : x ≡ get_or old i 0)
    (m : List Bool) (l : List ℕ) (c : ℕ) (m' : List Bool) (l' : List ℕ) (c' : ℕ) (g : LaidPart old start i m l c m' l' c') where
  one_more : (w : Way) → lay (drop start (take (i + 1) old)) w ≡ lay_one x (lay (drop start (take i old)) w)
  one_more w =
      ap (λ (p : List ℕ). lay p w) (part-more old start i from inside ∙ ap (λ (y : ℕ). drop start (take i old) ++ (y ∷ [])) (sym is))
      ∙ through-append lay_one (drop start (take i old)) (x ∷ []) w

  pub laid_past : get_or m' x false ≡ true → LaidPart old start (i + 1) m l c m' l' c'
  laid_past seen = record { grown = g.grown; shows = λ w s. same w (g.shows w s) }
    where
      same : (w : Way) → Shows m' l' c' (lay (drop start (take i old)) w) → Shows m' l' c' (lay (drop start (take (i + 1) old)) w)
      same w s =
          let v : Way = lay (drop start (take i old)) w in
          let e = shows_seen m' l' c' x v s node seen in
          subst (Shows m' l' c') (sym (one_more w ∙ ap (λ (b : Bool). choose b (λ _. v) (λ _. enter x (mark x v))) e)) s

  pub laid_more : x < length m' → get_or m' x false ≡ false → c' < length l' → LaidPart old start (i + 1) m l c (set m' x true) (set l' c' x) (c' + 1)
  laid_more in_m new in-l =
      record {
        grown = grown_trans m c m' c' (set m' x true) (c' + 1) g.grown (grown_around m' c' x (set m' x true) c' in_m new (grown_refl (set m' x true) c'));
        shows = λ w s. same w (g.shows w s);
      }
    where
      same : (w : Way) → Shows m' l' c' (lay (drop start (take i old)) w) → Shows (set m' x true) (set l' c' x) (c' + 1) (lay (drop start (take (i + 1) old)) w)
      same w s =
          let v : Way = lay (drop start (take i old)) w in
          let e = shows_new m' l' c' x v s node new in
          subst (Shows (set m' x true) (set l' c' x) (c' + 1)) (sym (one_more w ∙ ap (λ (b : Bool). choose b (λ _. v) (λ _. enter x (mark x v))) e))
          (shows_enter (set m' x true) l' c' x (mark x v) in-l (shows_mark m' l' c' x v in_m s))
