-- The carried walk of `skim` in its arrays: the loop goes along a node's sources. Assumes nothing.
use mathlib.Core.Path.{◌≡◌, refl, sym, ap, ◌∙◌, subst, subst⁻¹}
use Prim.Native.Nat.{ℕ, zero, suc, ◌+◌, ◌*◌, ◌<◌, ◌≤◌}
use native.Mathlib.Nat.{le_refl, le_trans, not-suc-le-zero, le_of_suc-le-suc}
use native.Mathlib.Numerals.{add-one}
use native.Mathlib.Omega.{arith}
use mathlib.Core.Bool.{Bool, true, false, ◌&&◌, false≢true}
use mathlib.Core.List.{List, [], ◌∷◌, ◌++◌}
use lib.Dec.{eqb}
use borrow.Author.Tests.{eqb-true}
use lib.ListN.{length, get_or, set, length-set, take, drop, drop_of_length-le}
use lib.Seq.{take-suc, take_all, take-take, length-take-le}
use Rattle.std.proofs.lemmas.Bool.{false_from_ne_true}
use Rattle.reading.specs.Visit.{choose}
use Rattle.sources.proofs.Part.{part_at}
use Rattle.graph.specs.Late.{place}
use Rattle.graph.specs.Walking.{Table, unmarked}
use Rattle.graph.proofs.Going.{unmarked-set}
use Rattle.carrying.specs.Carried.{Carried, Change, mark, enter, through, lay, on_way, with_rest, up_to, past, copies, copy, turn}
use Rattle.carrying.specs.Skimming.{edit, go_at, skim_all, Holds, Shows, Stands, Old, Room, Grown, LaidPart, Asks, Skimmed}
use Rattle.carrying.proofs.Lists.{through-append}
use Rattle.carrying.proofs.Laying.{shows_seen, shows_new, shows_mark, shows_enter, grown_refl, grown_trans, grown_around}
use Rattle.carrying.proofs.Placed.{up_to_index, past_index, copies_yes, copies_no}

-- ---- one step of the definition

module _ (T : ℕ → List ℕ) (d : Change) where
  pub all_seen : (f u : ℕ) (c : Carried) → c.way.marks u ≡ true → skim_all T d f u c ≡ c
  all_seen zero u c e = refl
  all_seen (suc f) u c e =
      ap (λ (b : Bool). choose b (λ _. c) (λ _. choose (copies d u c) (λ _. copy u c) (λ _. on_way (enter u) (through (go_at (skim_all T d f) d u) (T u) (on_way (mark u) c))))) e

  all_new : (f u : ℕ) (c : Carried) → c.way.marks u ≡ false → (b : Bool) → copies d u c ≡ b
      → skim_all T d (suc f) u c ≡ choose b (λ _. copy u c) (λ _. on_way (enter u) (through (go_at (skim_all T d f) d u) (T u) (on_way (mark u) c)))
  all_new f u c e b h =
      ap (λ (x : Bool). choose x (λ _. c) (λ _. choose (copies d u c) (λ _. copy u c) (λ _. on_way (enter u) (through (go_at (skim_all T d f) d u) (T u) (on_way (mark u) c))))) e
      ∙ ap (λ (x : Bool). choose x (λ _. copy u c) (λ _. on_way (enter u) (through (go_at (skim_all T d f) d u) (T u) (on_way (mark u) c)))) h

  -- a source that is marked changes nothing, the change's own neither
  go_seen : (f k x : ℕ) (c : Carried) → c.way.marks x ≡ true → go_at (skim_all T d f) d k x c ≡ c
  go_seen f k x c e = pick (eqb k d.target) (eqb x d.source) refl
    where
      meets : x ≡ d.source → turn (skim_all T d f) d c ≡ c
      meets p = add d.adding
        where
          seen : c.way.marks d.source ≡ true
          seen = ap c.way.marks (sym p) ∙ e

          add : (b : Bool)
              → choose b (λ _. with_rest c.rest (skim_all T d f d.source (with_rest [] c))) (λ _. choose (c.way.marks d.source) (λ _. c) (λ _. with_rest [] c)) ≡ c
          add true = ap (with_rest c.rest) (all_seen f d.source (with_rest [] c) seen)
          add false = ap (λ (b : Bool). choose b (λ _. c) (λ _. with_rest [] c)) seen

      pick : (a b : Bool) → eqb x d.source ≡ b → choose (a && b) (λ _. turn (skim_all T d f) d c) (λ _. skim_all T d f x c) ≡ c
      pick true true h = meets (eqb-true x d.source h)
      pick true false h = all_seen f x c e
      pick false b h = all_seen f x c e

-- ---- the loop over a node's sources, of which the first i are done: from m₀, l₀, count, at, where it began, to m, l, n, rest

pub record Going (counts lists old : List ℕ) (size : ℕ) (adding : Bool) (source target v : ℕ) (m₀ : List Bool) (l₀ : List ℕ) (count at : ℕ) (m : List Bool) (l : List ℕ) (n rest i : ℕ) : Type 0 where
  pub within : i ≤ get_or counts v 0
  pub grown : Grown m₀ count m n
  pub rest_in : rest ≤ size
  pub walk : (T : ℕ → List ℕ) → Holds T counts lists → (k : ℕ) → unmarked m₀ ≤ k → (c : Carried) → Stands old size m₀ l₀ count at c
      → Stands old size m l n rest (through (go_at (skim_all T (edit adding source target) k) (edit adding source target) v) (take i (T v)) c)

module _ (counts lists old : List ℕ) (size : ℕ) (adding : Bool) (source target v : ℕ) (node : v < 64) (m₀ : List Bool) (l₀ : List ℕ) (count at : ℕ) where
  pub going_start : at ≤ size → Going counts lists old size adding source target v m₀ l₀ count at m₀ l₀ count at 0
  going_start h = record { within = omega arith; grown = grown_refl m₀ count; rest_in = h; walk = λ T t k le c s. s }

  module _ (m : List Bool) (l : List ℕ) (n rest i u : ℕ) (g : Going counts lists old size adding source target v m₀ l₀ count at m l n rest i)
      (h : i < get_or counts v 0) (is : u ≡ get_or lists (8 * v + i) 0) (below : u < 64) where
    -- the source u comes after the first i
    one_more : (T : ℕ → List ℕ) → Holds T counts lists → (f : ℕ → Carried → Carried) (c : Carried)
        → through f (take (i + 1) (T v)) c ≡ f u (through f (take i (T v)) c)
    one_more T t f c =
        let inside : i < length (T v) = subst (λ (x : ℕ). i < x) (t.size v node) h in
        let next : get_or (T v) i 0 ≡ u = sym (is ∙ t.source v i node h) in
        let split : take (i + 1) (T v) ≡ take i (T v) ++ (u ∷ []) =
        rw add-one (take-suc (T v) i 0 inside ∙ ap (λ (x : ℕ). take i (T v) ++ (x ∷ [])) next) in
        ap (λ (us : List ℕ). through f us c) split ∙ through-append f (take i (T v)) (u ∷ []) c

    -- it is marked already
    pub going_past : get_or m u false ≡ true → Going counts lists old size adding source target v m₀ l₀ count at m l n rest (i + 1)
    going_past seen = record {
      within = omega arith;
      grown = g.grown;
      rest_in = g.rest_in;
      walk = λ T t k le c s.
          let now = g.walk T t k le c s in
          let d : Change = edit adding source target in
          let marked = shows_seen m l n u _ now.shows below seen in
          subst⁻¹ (Stands old size m l n rest) (one_more T t (go_at (skim_all T d k) d v) c ∙ go_seen T d k v u _ marked) now;
    }

    -- it is gone to, and is not the change's
    pub going_into : (eqb v target && eqb u source) ≡ false → (m' : List Bool) (l' : List ℕ) (n' at' : ℕ) → Skimmed counts lists old size adding source target u m l n rest m' l' n' at'
        → Going counts lists old size adding source target v m₀ l₀ count at m' l' n' at' (i + 1)
    going_into other m' l' n' at' x = record {
      within = omega arith;
      grown = grown_trans m₀ count m n m' n' g.grown x.grown;
      rest_in = x.at_in;
      walk = λ T t k le c s.
          let d : Change = edit adding source target in
          let y : Carried = through (go_at (skim_all T d k) d v) (take i (T v)) c in
          let go_on : go_at (skim_all T d k) d v u y ≡ skim_all T d k u y = ap (λ (b : Bool). choose b (λ _. turn (skim_all T d k) d y) (λ _. skim_all T d k u y)) other in
          subst⁻¹ (Stands old size m' l' n' at') (one_more T t (go_at (skim_all T d k) d v) c ∙ go_on)
          (x.walk T t k (le_trans g.grown.fewer le) y (g.walk T t k le c s));
    }

    none_left : length old ≡ 64 → size ≤ 64 → drop size (take size old) ≡ []
    none_left long fits = drop_of_length-le (take size old) {i = size} (omega (arith, length-take-le size old (omega arith)))

    -- the change itself: an added wire's source is gone to with nothing to copy
    pub going_add : length old ≡ 64 → size ≤ 64 → adding ≡ true → (eqb v target && eqb u source) ≡ true → u ≡ source → (m' : List Bool) (l' : List ℕ) (n' at' : ℕ)
        → Skimmed counts lists old size adding source target u m l n size m' l' n' at'
        → Going counts lists old size adding source target v m₀ l₀ count at m' l' n' rest (i + 1)
    going_add long fits add here same m' l' n' at' x = record {
      within = omega arith;
      grown = grown_trans m₀ count m n m' n' g.grown x.grown;
      rest_in = g.rest_in;
      walk = λ T t k le c s.
          let d : Change = edit adding source target in
          let y : Carried = through (go_at (skim_all T d k) d v) (take i (T v)) c in
          let now = g.walk T t k le c s in
          let turns : go_at (skim_all T d k) d v u y ≡ with_rest y.rest (skim_all T d k u (with_rest [] y)) =
          ap (λ (b : Bool). choose b (λ _. turn (skim_all T d k) d y) (λ _. skim_all T d k u y)) here
          ∙ ap (λ (b : Bool). choose b (λ _. with_rest y.rest (skim_all T d k source (with_rest [] y))) (λ _. choose (y.way.marks source) (λ _. y) (λ _. with_rest [] y))) add
          ∙ ap (λ (j : ℕ). with_rest y.rest (skim_all T d k j (with_rest [] y))) (sym same) in
          subst⁻¹ (Stands old size m' l' n' rest) (one_more T t (go_at (skim_all T d k) d v) c ∙ turns)
          (record {
            shows = (x.walk T t k (le_trans g.grown.fewer le) (with_rest [] y) (record { shows = now.shows; rest = sym (none_left long fits) })).shows;
            rest = now.rest;
          });
    }

    -- and at a pulled wire's source that is not marked the rest is given up
    pub going_pull : length old ≡ 64 → size ≤ 64 → adding ≡ false → (eqb v target && eqb u source) ≡ true → u ≡ source → get_or m u false ≡ false
        → Going counts lists old size adding source target v m₀ l₀ count at m l n size (i + 1)
    going_pull long fits add here same new = record {
      within = omega arith;
      grown = g.grown;
      rest_in = le_refl size;
      walk = λ T t k le c s.
          let d : Change = edit adding source target in
          let y : Carried = through (go_at (skim_all T d k) d v) (take i (T v)) c in
          let now = g.walk T t k le c s in
          let fresh : y.way.marks source ≡ false = ap y.way.marks (sym same) ∙ shows_new m l n u y.way now.shows below new in
          let turns : go_at (skim_all T d k) d v u y ≡ with_rest [] y =
          ap (λ (b : Bool). choose b (λ _. turn (skim_all T d k) d y) (λ _. skim_all T d k u y)) here
          ∙ ap (λ (b : Bool). choose b (λ _. with_rest y.rest (skim_all T d k source (with_rest [] y))) (λ _. choose (y.way.marks source) (λ _. y) (λ _. with_rest [] y))) add
          ∙ ap (λ (b : Bool). choose b (λ _. y) (λ _. with_rest [] y)) fresh in
          subst⁻¹ (Stands old size m l n size) (one_more T t (go_at (skim_all T d k) d v) c ∙ turns)
          (record { shows = now.shows; rest = sym (none_left long fits) });
    }

-- ---- a whole call

module _ (counts lists old places : List ℕ) (size : ℕ) (adding : Bool) (source target v : ℕ) (was : Old old places size) (node : v < 64) (goal-in : target < 64)
    (m : List Bool) (l : List ℕ) (count at : ℕ) (room : Room m count) (unseen : get_or m v false ≡ false) where
  abbrev L : List ℕ
  L = take size old

  LLong : length L ≡ size
  LLong = length-take-le size old (omega (arith, was.long, was.fits))

  in_m : v < length m
  in_m = omega (arith, room.marks_size)

  -- the depth suffices for one node more
  deeper : (k : ℕ) → unmarked m ≤ k → (k' : ℕ) × (k ≡ suc k') × (unmarked (set m v true) ≤ k')
  deeper zero h = absurd (not-suc-le-zero (subst (λ (x : ℕ). x ≤ 0) (unmarked-set m v in_m unseen) h))
  deeper (suc k) h = (k, refl, le_of_suc-le-suc (subst (λ (x : ℕ). x ≤ suc k) (unmarked-set m v in_m unseen) h))

  -- copied from the old list
  module _ (p : ℕ) (p-is : p ≡ place L v) (from : at ≤ p) (inside : p < size)
      (free : (get_or m target false ≡ true → ⊥) → at ≤ place L target → place L target ≤ p → ⊥) where
    copied_walk : (m' : List Bool) (l' : List ℕ) (n : ℕ) → LaidPart old at (p + 1) m l count m' l' n
        → (T : ℕ → List ℕ) → Holds T counts lists → (k : ℕ) → unmarked m ≤ k → (c : Carried) → Stands old size m l count at c
        → Stands old size m' l' n (p + 1) (skim_all T (edit adding source target) k v c)
    copied_walk m' l' n x T t k h c s =
        let d : Change = edit adding source target in
        let deep = deeper k h in
        let new : c.way.marks v ≡ false = shows_new m l count v c.way s.shows node unseen in
        let a_in : at ≤ place L v = subst (λ (j : ℕ). at ≤ j) p-is from in
        let in-L : place L v < length L = omega (arith, LLong) in
        let open-goal : c.way.marks target ≡ false → at ≤ place L target → place L target ≤ place L v → ⊥ =
        λ e a b. free (λ one. false≢true (sym e ∙ sym (s.shows.marks target goal-in) ∙ one)) a (omega arith) in
        let yes : copies d v c ≡ true =
        ap (λ (r : List ℕ). copies d v (record { way = c.way; rest = r })) s.rest ∙ copies_yes L was.once at v target (c.way.marks target) a_in in-L open-goal in
        let next : suc (place L v) ≡ p + 1 = omega arith in
        let part : up_to v c.rest ≡ drop at (take (p + 1) old) =
        ap (up_to v) s.rest ∙ up_to_index L at v a_in in-L
        ∙ ap (λ (j : ℕ). drop at (take j L)) next ∙ ap (drop at) (take-take (p + 1) size old (omega arith)) in
        let behind : past v c.rest ≡ drop (p + 1) L =
        ap (past v) s.rest ∙ past_index L at v a_in in-L ∙ ap (λ (j : ℕ). drop j L) next in
        subst⁻¹ (Stands old size m' l' n (p + 1)) (ap (λ (j : ℕ). skim_all T d j v c) deep.1 ∙ all_new T d deep.0 v c new true yes)
        (record { shows = subst⁻¹ (λ (r : List ℕ). Shows m' l' n (lay r c.way)) part (x.shows c.way s.shows); rest = behind })

    pub skimmed_copied : (m' : List Bool) (l' : List ℕ) (n : ℕ) → LaidPart old at (p + 1) m l count m' l' n
        → Skimmed counts lists old size adding source target v m l count at m' l' n (p + 1)
    skimmed_copied m' l' n x = record { grown = x.grown; at_in = omega arith; walk = copied_walk m' l' n x }

  -- or walked
  module _ (p : ℕ) (p-is : p ≡ place L v)
      (not-Free : at ≤ p → p < size → ((get_or m target false ≡ true → ⊥) → at ≤ place L target → place L target ≤ p → ⊥) → ⊥)
      (m' : List Bool) (l' : List ℕ) (n rest i : ℕ) (g : Going counts lists old size adding source target v (set m v true) l count at m' l' n rest i)
      (all : get_or counts v 0 ≤ i) (in-l : n < length l') where
    walked_walk : (T : ℕ → List ℕ) → Holds T counts lists → (k : ℕ) → unmarked m ≤ k → (c : Carried) → Stands old size m l count at c
        → Stands old size m' (set l' n v) (n + 1) rest (skim_all T (edit adding source target) k v c)
    walked_walk T t k h c s =
        let d : Change = edit adding source target in
        let deep = deeper k h in
        let new : c.way.marks v ≡ false = shows_new m l count v c.way s.shows node unseen in
        let no_copy : copies d v c ≡ false =
        ap (λ (r : List ℕ). copies d v (record { way = c.way; rest = r })) s.rest
        ∙ copies_no L was.once at v target (c.way.marks target)
        (λ a b f. not-Free (omega arith) (omega (arith, LLong)) (λ un x y. f (shut c s un) x (omega arith))) in
        let whole : take i (T v) ≡ T v = take_all i (T v) (subst (λ (j : ℕ). j ≤ i) (t.size v node) all) in
        let x = g.walk T t deep.0 deep.2 (on_way (mark v) c) (record { shows = shows_mark m l count v c.way in_m s.shows; rest = s.rest }) in
        let y = subst (λ (us : List ℕ). Stands old size m' l' n rest (through (go_at (skim_all T d deep.0) d v) us (on_way (mark v) c))) whole x in
        subst⁻¹ (Stands old size m' (set l' n v) (n + 1) rest) (ap (λ (j : ℕ). skim_all T d j v c) deep.1 ∙ all_new T d deep.0 v c new false no_copy)
        (record { shows = shows_enter m' l' n v _ in-l y.shows; rest = y.rest })
      where
        shut : (c : Carried) → Stands old size m l count at c → (get_or m target false ≡ true → ⊥) → c.way.marks target ≡ false
        shut c s un = false_from_ne_true (c.way.marks target) (λ e. un (s.shows.marks target goal-in ∙ e))

    pub skimmed_walked : Skimmed counts lists old size adding source target v m l count at m' (set l' n v) (n + 1) rest
    skimmed_walked = record { grown = grown_around m count v m' n in_m unseen g.grown; at_in = g.rest_in; walk = walked_walk }

-- ---- what going on to a source asks

-- an entry of those that the table lends is the table's
pub lent_at : (lists : List ℕ) (v : ℕ) {items : List ℕ} {n i u : ℕ} → items ≡ take n (drop (8 * v) lists) → i < n → u ≡ get_or items i 0 → u ≡ get_or lists (8 * v + i) 0
lent_at lists v {n = n} {i = i} lent h e =
    e ∙ ap (λ (l : List ℕ). get_or l i 0) lent ∙ part_at lists (8 * v) n i h

-- a source in the table is a node
pub source_node : {counts lists : List ℕ} {v i u : ℕ} → Table counts lists → v < 64 → i < get_or counts v 0 → u ≡ get_or lists (8 * v + i) 0 → u < 64
source_node {v = v} {i = i} t node h is = subst (λ (x : ℕ). x < 64) (sym is) (t.nodes v i node h)

module _ {counts lists old places : List ℕ} {size : ℕ} {adding : Bool} {source target v : ℕ} {m₀ : List Bool} {l₀ : List ℕ} {count at : ℕ} {m : List Bool} {l : List ℕ} {n rest i : ℕ}
    (pre : Asks counts lists old places size source target v m₀ count at) (g : Going counts lists old size adding source target v (set m₀ v true) l₀ count at m l n rest i) where
  one : unmarked m₀ ≡ suc (unmarked (set m₀ v true))
  one = unmarked-set m₀ v (omega (arith, pre.room.marks_size, pre.node_in)) pre.unseen

  pub fewer : unmarked m < unmarked m₀
  fewer = omega (arith, one, g.grown.fewer)

  pub asks_on : {u : ℕ} → i < get_or counts v 0 → u ≡ get_or lists (8 * v + i) 0 → get_or m u false ≡ false → (at' : ℕ) → at' ≤ size
      → Asks counts lists old places size source target u m n at'
  asks_on h is unseen at' at_in = record {
    table = pre.table;
    was = pre.was;
    node_in = source_node pre.table pre.node_in h is;
    source_in = pre.source_in;
    target_in = pre.target_in;
    room = record {
      marks_size = omega (arith, g.grown.marks_kept, pre.room.marks_size, length-set m₀ v true);
      room = omega (arith, one, g.grown.total, pre.room.room);
    };
    unseen = unseen;
    at_in = at_in;
  }
