-- The table of sources, with one wire more. Assumes nothing.
use Prim.Native.Nat.{ℕ, zero, suc, ◌+◌, ◌*◌, min, ◌≤◌, ◌<◌}
use mathlib.Core.Path.{◌≡◌, refl, sym, ap, subst, ◌∙◌}
use mathlib.Core.List.{List, [], ◌∷◌, ◌++◌}
use mathlib.Core.Bool.{Bool, true, false, cond, ◌||◌, or-false, or_assoc}
use native.Mathlib.Decide.{ℕ_discrete}
use native.Mathlib.Omega.{arith}
use borrow.Author.Tests.{ltb-true, ltb-false, eqb-true, eqb-false, eq-eqb, ne_eqb}
use lib.ListN.{length, get_or, take, set, replicate, length-append, length-set, get_or-replicate, get_or-append}
use lib.Seq.{take-suc, take-length, get_or-append_seam, get_or-set_same, get_or-set_other}
use lib.Dec.{ltb, eqb}
use Rattle.reading.specs.Table.{mem}
use Rattle.reading.specs.Order.{Wire, sources, wire}
use Rattle.sources.specs.Sources.{add_new, add_all, distinct, distinct_sources, second_source, Tabled}
use Rattle.sources.specs.Gather.{among, settled, count_with, list_with, second_with, Added}
use Rattle.sources.specs.declared.sources.Sources.{Sources}
use Rattle.reading.proofs.Choice.{pick, neither}

-- ---- the definitions, with one wire more

pub sources-snoc : (ws : List Wire) (a t v : ℕ) → sources (ws ++ (wire a t ∷ [])) v ≡ cond (eqb t v) (sources ws v ++ (a ∷ [])) (sources ws v)
sources-snoc [] a t v = refl
sources-snoc (w ∷ ws) a t v = rw (sources-snoc ws a t v) (split (eqb w.target v) (eqb t v))
  where
    split : (b c : Bool) → cond b (w.source ∷ cond c (sources ws v ++ (a ∷ [])) (sources ws v)) (cond c (sources ws v ++ (a ∷ [])) (sources ws v))
        ≡ cond c (cond b (w.source ∷ sources ws v) (sources ws v) ++ (a ∷ [])) (cond b (w.source ∷ sources ws v) (sources ws v))
    split true true = refl
    split true false = refl
    split false true = refl
    split false false = refl

all_snoc : (l xs : List ℕ) (x : ℕ) → add_all l (xs ++ (x ∷ [])) ≡ add_new (add_all l xs) x
all_snoc l [] x = refl
all_snoc l (y ∷ xs) x = all_snoc (add_new l y) xs x

pub distinct_snoc : (xs : List ℕ) (x : ℕ) → distinct (xs ++ (x ∷ [])) ≡ add_new (distinct xs) x
unfolding distinct
distinct_snoc xs x = all_snoc [] xs x

second_snoc : (xs : List ℕ) (x : ℕ) → get_or (xs ++ (x ∷ [])) 1 0 ≡ second_with (length xs) (get_or xs 1 0) x
second_snoc [] x = refl
second_snoc (a ∷ []) x = refl
second_snoc (a ∷ b ∷ xs) x =
    let more : suc (suc (length xs)) ≡ 1 → ⊥ = λ e. omega arith in
    rw (ne_eqb (suc (suc (length xs))) 1 more)

pub mem-snoc : (l : List ℕ) (x y : ℕ) → mem x (l ++ (y ∷ [])) ≡ mem x l || eqb x y
mem-snoc [] x y = or-false (eqb x y)
mem-snoc (z ∷ l) x y = rw (mem-snoc l x y) (sym (or_assoc (eqb x z) (mem x l) (eqb x y)))

-- ---- one source more in a node's list

-- the list from a start on, and its count, hold the sources d
record Held (l : List ℕ) (start n : ℕ) (d : List ℕ) : Type 0 where
  count : n ≡ min 9 (length d)
  places : (j : ℕ) → j < 8 → j < length d → get_or l (start + j) 0 ≡ get_or d j 0

-- a longer list with the same beginning
held_longer : (l : List ℕ) (start n : ℕ) (d : List ℕ) (x : ℕ) → 8 ≤ length d → Held l start n d → Held l start 9 (d ++ (x ∷ []))
held_longer l start n d x long h = record {
  count = simp length-append (omega arith);
  places = λ j b _. h.places j b (omega arith) ∙ sym (get_or-append d (x ∷ []) 0 j (omega arith));
}

module _ (l : List ℕ) (start n : ℕ) (d : List ℕ) (x : ℕ) (h : Held l start n d) where
  among_mem : (m : ℕ) → m ≤ length d → m ≤ 8 → among l start m x ≡ mem x (take m d)
  unfolding among
  among_mem zero p q = refl
  among_mem (suc m) p q =
      let inside : m < length d = p in
      rw (take-suc d m 0 inside, mem-snoc, h.places m (omega arith) inside, among_mem m (omega arith) (omega arith))

  known : n ≤ 8 → among l start n x ≡ mem x d
  known few =
      let all : n ≡ length d = omega (arith, h.count) in
      among_mem n (omega arith) few ∙ rw all (ap (mem x) (take-length d))

  -- x is new, and there is room
  held_room : start + 8 ≤ length l → n < 8 → Held (set l (start + n) x) start (n + 1) (d ++ (x ∷ []))
  held_room long few =
      let all : n ≡ length d = omega (arith, h.count) in
      record { count = simp length-append (omega arith); places = λ j b q. place all j (ℕ_discrete j n) (simp length-append at q) b }
    where
      place : n ≡ length d → (j : ℕ) → Dec (j ≡ n) → j < length d + 1 → j < 8 → get_or (set l (start + n) x) (start + j) 0 ≡ get_or (d ++ (x ∷ [])) j 0
      place all j (yes e) q b = rw (e, get_or-set_same l (start + n) x 0 (omega arith), all, get_or-append_seam d x [] 0)
      place all j (no other) q b =
          let apart : start + j ≡ start + n → ⊥ = λ e. other (omega arith) in
          let inside : j < length d = omega arith in
          rw (get_or-set_other l (start + n) (start + j) x 0 apart, get_or-append d (x ∷ []) 0 j inside) (h.places j b inside)

  held_new : start + 8 ≤ length l → n ≤ 8 → Held (cond (eqb n 8) l (set l (start + n) x)) start (n + 1) (d ++ (x ∷ []))
  held_new long few =
      pick (λ (m : List ℕ). Held m start (n + 1) (d ++ (x ∷ []))) (eqb n 8) _ _
      (λ e. let eight : n ≡ 8 = eqb-true n 8 e in rw eight (held_longer l start n d x (omega (arith, h.count)) h))
      (λ e. held_room long (omega (arith, eqb-false n 8 e)))

  held_with : start + 8 ≤ length l → Held (list_with l start n x) start (count_with l start n x) (add_new d x)
  held_with long = full (ltb 8 n) refl
    where
      new : n ≤ 8 → (b : Bool) → mem x d ≡ b → Held (cond b l (cond (eqb n 8) l (set l (start + n) x))) start (cond b n (n + 1)) (cond b d (d ++ (x ∷ [])))
      new few true e = h
      new few false e = held_new long few

      full : (b : Bool) → ltb 8 n ≡ b → Held (list_with l start n x) start (count_with l start n x) (add_new d x)
      full true e =
          let nine : n ≡ 9 = omega (arith, ltb-true 8 n e, h.count) in
          rw e (pick (Held l start n) (mem x d) d (d ++ (x ∷ [])) (λ _. h) (λ _. rw nine (held_longer l start n d x (omega (arith, h.count)) h)))
      full false e = rw (e, known (ltb-false 8 n e)) (new (ltb-false 8 n e) (mem x d) refl)

-- what a list with one source more leaves as it is
list_other : (l : List ℕ) (start n x k : ℕ) → (n < 8 → k ≡ start + n → ⊥) → get_or (list_with l start n x) k 0 ≡ get_or l k 0
list_other l start n x k apart =
    let Same : List ℕ → Type 0 = λ m. get_or m k 0 ≡ get_or l k 0 in
    pick Same (settled l start n x) _ _ (λ _. refl)
    (λ e. pick Same (eqb n 8) _ _ (λ _. refl)
    (λ q. get_or-set_other l (start + n) k x 0
    (apart (omega (arith, ltb-false 8 n (neither (ltb 8 n) (among l start n x) e).0, eqb-false n 8 q)))))

list_long : (l : List ℕ) (start n x : ℕ) → length (list_with l start n x) ≡ length l
list_long l start n x =
    let Same : List ℕ → Type 0 = λ m. length m ≡ length l in
    pick Same (settled l start n x) _ _ (λ _. refl) (λ _. pick Same (eqb n 8) _ _ (λ _. refl) (λ _. length-set l (start + n) x))

-- ---- the whole table

-- the table of the wires passed, and how many of them lead into each node
pub record Tabling (ws : List Wire) (counts lists seconds ins : List ℕ) : Type 0 where
  pub table : Tabled ws counts lists seconds
  pub ins_long : length ins ≡ 64
  pub entered : (v : ℕ) → v < 64 → get_or ins v 0 ≡ length (sources ws v)

pub tabled_none : Tabled [] (replicate 64 0) (replicate 512 0) (replicate 64 0)
unfolding distinct
tabled_none = record {
  counts_long = refl;
  lists_long = refl;
  seconds_long = refl;
  counted = λ v h. get_or-replicate 64 v 0 0 h;
  listed = λ v j h b q. absurd (omega arith);
  second = λ v h. get_or-replicate 64 v 0 0 h;
}

-- an empty table is that of no wires
pub tabling_started : {counts lists seconds : List ℕ} → Tabled [] counts lists seconds → Tabling [] counts lists seconds (replicate 64 0)
tabling_started t = record { table = t; ins_long = refl; entered = λ v h. get_or-replicate 64 v 0 0 h }

sources_few : (ws : List Wire) (v : ℕ) → length (sources ws v) ≤ length ws
sources_few [] v = omega arith
sources_few (w ∷ ws) v = pick (λ (l : List ℕ). length l ≤ suc (length ws)) (eqb w.target v) _ _ (λ _. omega (arith, sources_few ws v)) (λ _. omega (arith, sources_few ws v))

module _ (ws : List Wire) (counts lists seconds ins : List ℕ) (h : Tabling ws counts lists seconds ins) where
  -- no count overflows
  pub ins_few : (v : ℕ) → v < 64 → get_or ins v 0 ≤ length ws
  ins_few v b = rw (h.entered v b) (sources_few ws v)

  pub counts_few : (v : ℕ) → v < 64 → get_or counts v 0 ≤ 9
  counts_few v b = omega (arith, h.table.counted v b)

  held : (v : ℕ) → v < 64 → Held lists (8 * v) (get_or counts v 0) (distinct_sources ws v)
  held v b = record { count = h.table.counted v b; places = λ j q r. h.table.listed v j b q r }

  module _ (a t : ℕ) (node : t < 64) where
    n : ℕ
    n = get_or counts t 0

    more : List Wire
    more = ws ++ (wire a t ∷ [])

    lists' : List ℕ
    lists' = list_with lists (8 * t) n a

    counts' : List ℕ
    counts' = set counts t (count_with lists (8 * t) n a)

    seconds' : List ℕ
    seconds' = set seconds t (second_with (get_or ins t 0) (get_or seconds t 0) a)

    ins' : List ℕ
    ins' = set ins t (get_or ins t 0 + 1)

    same_sources : sources more t ≡ sources ws t ++ (a ∷ [])
    unfolding more
    same_sources = sources-snoc ws a t t ∙ rw (eq-eqb t t refl)

    other_sources : (v : ℕ) → (v ≡ t → ⊥) → sources more v ≡ sources ws v
    unfolding more
    other_sources v other =
        let apart : t ≡ v → ⊥ = λ e. other (sym e) in
        sources-snoc ws a t v ∙ rw (ne_eqb t v apart)

    held_here : Held lists' (8 * t) (get_or counts' t 0) (distinct_sources more t)
    unfolding lists' counts' n
    held_here =
        let long : 8 * t + 8 ≤ length lists = omega (arith, h.table.lists_long) in
        let inside : t < length counts = omega (arith, h.table.counts_long) in
        rw (get_or-set_same counts t (count_with lists (8 * t) (get_or counts t 0) a) 0 inside, same_sources, distinct_snoc)
        (held_with lists (8 * t) (get_or counts t 0) (distinct_sources ws t) a (held t node) long)

    held_other : (v : ℕ) → v < 64 → (v ≡ t → ⊥) → Held lists' (8 * v) (get_or counts' v 0) (distinct_sources more v)
    unfolding lists' counts' n
    held_other v b other =
        rw (get_or-set_other counts t v (count_with lists (8 * t) (get_or counts t 0) a) 0 other, other_sources v other)
        (record {
          count = (held v b).count;
          places = λ j q r. list_other lists (8 * t) (get_or counts t 0) a (8 * v + j) (λ few e. other (omega arith)) ∙ (held v b).places j q r;
        })

    -- what holds at the wire's target, and at every other node, holds at each
    each : (P : ℕ → Type 0) → P t → ((v : ℕ) → v < 64 → (v ≡ t → ⊥) → P v) → (v : ℕ) → v < 64 → P v
    each P here there v b = split (ℕ_discrete v t)
      where
        split : Dec (v ≡ t) → P v
        split (yes e) = subst P (sym e) here
        split (no other) = there v b other

    held_each : (v : ℕ) → v < 64 → Held lists' (8 * v) (get_or counts' v 0) (distinct_sources more v)
    held_each = each (λ (v : ℕ). Held lists' (8 * v) (get_or counts' v 0) (distinct_sources more v)) held_here held_other

    second_each : (v : ℕ) → v < 64 → get_or seconds' v 0 ≡ second_source more v
    unfolding seconds'
    second_each =
        let inside : t < length seconds = omega (arith, h.table.seconds_long) in
        let x = second_with (get_or ins t 0) (get_or seconds t 0) a in
        each (λ (v : ℕ). get_or (set seconds t (second_with (get_or ins t 0) (get_or seconds t 0) a)) v 0 ≡ second_source more v)
        (get_or-set_same seconds t x 0 inside ∙ rw (h.entered t node, h.table.second t node) (sym (ap (λ (l : List ℕ). get_or l 1 0) same_sources ∙ second_snoc (sources ws t) a)))
        (λ v b other. get_or-set_other seconds t v x 0 other ∙ h.table.second v b ∙ ap (λ (l : List ℕ). get_or l 1 0) (sym (other_sources v other)))

    ins_each : (v : ℕ) → v < 64 → get_or ins' v 0 ≡ length (sources more v)
    unfolding ins'
    ins_each =
        let inside : t < length ins = omega (arith, h.ins_long) in
        each (λ (v : ℕ). get_or (set ins t (get_or ins t 0 + 1)) v 0 ≡ length (sources more v))
        (get_or-set_same ins t (get_or ins t 0 + 1) 0 inside ∙ rw (same_sources, length-append) (ap (λ (k : ℕ). k + 1) (h.entered t node)))
        (λ v b other. get_or-set_other ins t v (get_or ins t 0 + 1) 0 other ∙ h.entered v b ∙ ap length (sym (other_sources v other)))

    pub tabling_more : Tabling (ws ++ (wire a t ∷ [])) (set counts t (count_with lists (8 * t) (get_or counts t 0) a)) (list_with lists (8 * t) (get_or counts t 0) a) (set seconds t (second_with (get_or ins t 0) (get_or seconds t 0) a)) (set ins t (get_or ins t 0 + 1))
    unfolding n more lists' counts' seconds' ins'
    tabling_more = record {
      table = record {
        counts_long = length-set counts t (count_with lists (8 * t) (get_or counts t 0) a) ∙ h.table.counts_long;
        lists_long = list_long lists (8 * t) (get_or counts t 0) a ∙ h.table.lists_long;
        seconds_long = length-set seconds t (second_with (get_or ins t 0) (get_or seconds t 0) a) ∙ h.table.seconds_long;
        counted = λ v b. (held_each v b).count;
        listed = λ v j b. (held_each v b).places j;
        second = second_each;
      };
      ins_long = length-set ins t (get_or ins t 0 + 1) ∙ h.ins_long;
      entered = ins_each;
    }

-- the same of the table that `Sources::add` leaves
pub tabling_added : {ws : List Wire} {old new : Sources} {ins : List ℕ} (a t : ℕ) → t < 64 → Tabling ws old.counts old.lists old.seconds ins
    → Added t (get_or ins t 0) a old new
    → Tabling (ws ++ (wire a t ∷ [])) new.counts new.lists new.seconds (set ins t (get_or ins t 0 + 1))
tabling_added {ws} {old} {new} {ins} a t node h e =
    rw (e.counts_is, e.lists_is, e.seconds_is) (tabling_more ws old.counts old.lists old.seconds ins h a t node)
