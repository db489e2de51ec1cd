-- The walk over one table that has the wire is the carried walk; so the code's list is the new board's visiting list. Assumes nothing.
use mathlib.Core.Path.{◌≡◌, refl, sym, ap, ◌∙◌}
use Prim.Native.Nat.{ℕ, zero, suc, ◌<◌}
use mathlib.Core.Bool.{Bool, true, false, cond, ◌||◌, ◌&&◌, false≢true}
use mathlib.Core.List.{List, [], ◌∷◌, ◌++◌, append-nil}
use native.Mathlib.Omega.{arith}
use lib.Dec.{eqb, lit<}
use lib.ListN.{length, length-append}
use borrow.Author.Tests.{eq-eqb, ne_eqb, eqb-true, eqb-false}
use Rattle.std.proofs.lemmas.Bool.{or_parts}
use Rattle.reading.specs.Table.{mem}
use Rattle.reading.specs.Order.{Wire, sources, wire}
use Rattle.reading.specs.Visit.{choose}
use Rattle.sources.specs.Sources.{distinct, distinct_sources}
use Rattle.graph.specs.Visit.{visiting_list}
use Rattle.graph.specs.Listed.{SourcesBelow}
use Rattle.carrying.specs.Carried.{Way, Carried, Change, mark, enter, through, walk, on_way, copies, copy, turn, look, skim, fresh, carry, added, wired, older, newer, pulled}
use Rattle.carrying.specs.Skimming.{edit, go_at, skim_all}
use Rattle.carrying.proofs.Lists.{mem_parts, mem_neither, through-append}
use Rattle.carrying.proofs.Carry.{carry_is}
use Rattle.carrying.proofs.Distinct.{walk_distinct, mem_distinct, distinct_new, distinct_again, Around, distinct_around}
use Rattle.carrying.proofs.Wires.{visiting-walk, sources-append, sources_here, sources_other, newest, none-newer}

-- ---- one table for both walks

module _ (T S : ℕ → List ℕ) (a : Bool) (s t : ℕ) (front back : List ℕ) (at_Target : T t ≡ front ++ (s ∷ back)) (others : (k : ℕ) → (k ≡ t → ⊥) → T k ≡ S k)
    (not-front : mem s front ≡ false) (not_back : mem s back ≡ false) where
  abbrev d : Change
  d = record { adding = a; source = s; target = t; front = front; back = back }

  -- at the target the source's turn comes once
  turns_not : (g : ℕ → Carried → Carried) (xs : List ℕ) (c : Carried) → mem s xs ≡ false → through (λ x y. choose (true && eqb x s) (λ _. turn g d y) (λ _. g x y)) xs c ≡ through g xs c
  turns_not g [] c e = refl
  turns_not g (x ∷ xs) c e =
      ap (λ (b : Bool). through (λ x y. choose (true && eqb x s) (λ _. turn g d y) (λ _. g x y)) xs (choose b (λ _. turn g d c) (λ _. g x c))) (other x (or_parts (eqb s x) (mem s xs) e).0)
      ∙ turns_not g xs (g x c) (or_parts (eqb s x) (mem s xs) e).1
    where
      other : (y : ℕ) → eqb s y ≡ false → eqb y s ≡ false
      other y h = pick (eqb y s) refl
        where
          pick : (b : Bool) → eqb y s ≡ b → eqb y s ≡ false
          pick true q = absurd (eqb-false s y h (sym (eqb-true y s q)))
          pick false q = q

  looks : (g : ℕ → Carried → Carried) (k : ℕ) (c : Carried) → through (go_at g d k) (T k) c ≡ look g S d k c
  looks g k c = pick (eqb k t) refl
    where
      pick : (b : Bool) → eqb k t ≡ b → through (λ x y. choose (b && eqb x s) (λ _. turn g d y) (λ _. g x y)) (T k) c
          ≡ choose b (λ _. through g back (turn g d (through g front c))) (λ _. through g (S k) c)
      pick true e =
          ap (λ (xs : List ℕ). through h xs c) (ap T (eqb-true k t e) ∙ at_Target)
          ∙ through-append h front (s ∷ back) c
          ∙ ap (λ (y : Carried). through h back (h s y)) (turns_not g front c not-front)
          ∙ ap (λ (b : Bool). through h back (choose b (λ _. turn g d (through g front c)) (λ _. g s (through g front c)))) (eq-eqb s s refl)
          ∙ turns_not g back (turn g d (through g front c)) not_back
        where
          h : ℕ → Carried → Carried
          h x y = choose (true && eqb x s) (λ _. turn g d y) (λ _. g x y)
      pick false e = ap (λ (xs : List ℕ). through g xs c) (others k (eqb-false k t e))

  pub all_is : (f k : ℕ) (c : Carried) → skim_all T (edit a s t) f k c ≡ skim S d f k c
  all_is zero k c = refl
  all_is (suc f) k c = pick (c.way.marks k) (copies d k c) (λ i j x. all_is f j x i)
    where
      pick : (b e : Bool) → skim_all T (edit a s t) f ≡ skim S d f
          → choose b (λ _. c) (λ _. choose e (λ _. copy k c) (λ _. on_way (enter k) (through (go_at (skim_all T (edit a s t) f) (edit a s t) k) (T k) (on_way (mark k) c))))
          ≡ choose b (λ _. c) (λ _. choose e (λ _. copy k c) (λ _. on_way (enter k) (look (skim S d f) S d k (on_way (mark k) c))))
      pick true e ih = refl
      pick false true ih = refl
      pick false false ih =
          ap (λ (g : ℕ → Carried → Carried). on_way (enter k) (through (go_at g d k) (T k) (on_way (mark k) c))) ih
          ∙ ap (on_way (enter k)) (looks (skim S d f) k (on_way (mark k) c))

-- ---- the visiting list over distinct sources

visiting-distinct : (ws : List Wire) → visiting_list ws ≡ (walk (distinct_sources ws) 64 0 fresh).listed
unfolding visiting_list
visiting-distinct ws = visiting-walk ws 64 ∙ ap (λ (v : Way). v.listed) (sym (walk_distinct (sources ws) 64 0 fresh))

-- the same sources but for repetitions: the same list
pub visiting_same : (ws vs : List Wire) → ((k : ℕ) → distinct_sources ws k ≡ distinct_sources vs k) → visiting_list ws ≡ visiting_list vs
visiting_same ws vs h =
    visiting-distinct ws ∙ ap (λ (S : ℕ → List ℕ). (walk S 64 0 fresh).listed) (λ i k. h k i) ∙ sym (visiting-distinct vs)

-- ---- a wire added

module _ (ws : List Wire) (s t : ℕ) where
  pub added_at : sources (added ws s t) t ≡ sources ws t ++ (s ∷ [])
  added_at = sources-append ws (wire s t ∷ []) t ∙ ap (λ (l : List ℕ). sources ws t ++ l) (sources_here s t [])

  pub added_other : (k : ℕ) → (k ≡ t → ⊥) → sources (added ws s t) k ≡ sources ws k
  added_other k h = sources-append ws (wire s t ∷ []) k ∙ ap (λ (l : List ℕ). sources ws k ++ l) (sources_other s t k [] h) ∙ append-nil (sources ws k)

  -- a repetition changes nothing
  pub added_keeps : mem s (sources ws t) ≡ true → distinct_sources (added ws s t) t ≡ distinct_sources ws t
  added_keeps e = ap distinct added_at ∙ distinct_again (sources ws t) [] s e ∙ ap distinct (append-nil (sources ws t))

  pub added_again : mem s (sources ws t) ≡ true → visiting_list (added ws s t) ≡ visiting_list ws
  added_again e = visiting_same (added ws s t) ws (λ k. pick k (eqb k t) refl)
    where
      pick : (k : ℕ) (b : Bool) → eqb k t ≡ b → distinct_sources (added ws s t) k ≡ distinct_sources ws k
      pick k true h =
          let is = eqb-true k t h in
          ap (distinct_sources (added ws s t)) is ∙ added_keeps e ∙ ap (distinct_sources ws) (sym is)
      pick k false h = ap distinct (added_other k (eqb-false k t h))

  module _ (new : mem s (sources ws t) ≡ false) where
    pub added_last : distinct_sources (added ws s t) t ≡ distinct_sources ws t ++ (s ∷ [])
    added_last = ap distinct added_at ∙ distinct_new (sources ws t) s new

    off_t : (k : ℕ) → (k ≡ t → ⊥) → distinct_sources (added ws s t) k ≡ distinct_sources ws k
    off_t k h = ap distinct (added_other k h)

    change : Change
    change = record { adding = true; source = s; target = t; front = distinct_sources ws t; back = [] }

    pub added_code : s < 64 → SourcesBelow ws 64
        → (skim_all (distinct_sources (added ws s t)) (edit true s t) 64 0 (record { way = fresh; rest = visiting_list ws })).way.listed ≡ visiting_list (added ws s t)
    unfolding change
    added_code h below =
        ap (λ (c : Carried). c.way.listed)
        (all_is (distinct_sources (added ws s t)) (distinct_sources ws) true s t (distinct_sources ws t) [] added_last off_t (mem_distinct s (sources ws t) ∙ new) refl 64 0 (record { way = fresh; rest = visiting_list ws }))
        ∙ ap (carry (distinct_sources ws) change 64) (visiting-distinct ws)
        ∙ carry_is (distinct_sources ws) (distinct_sources (added ws s t)) change
        (record { others = off_t; was = sym (append-nil (distinct_sources ws t)); now = added_last }) 64
        (λ _ k j m. below k j (sym (mem_distinct j (sources ws k)) ∙ m)) (λ _. h) (λ _. lit< tt)
        ∙ sym (visiting-distinct (added ws s t))

-- ---- a wire pulled

-- there is a wire from s to t: s is a source of t
pub wired-mem : (ws : List Wire) (s t : ℕ) → wired ws s t ≡ mem s (sources ws t)
wired-mem [] s t = refl
wired-mem (w ∷ ws) s t = pick (eqb w.target t) (eqb w.source s) refl (wired-mem ws s t)
  where
    turned : (b : Bool) → eqb w.source s ≡ b → b ≡ eqb s w.source
    turned true h = sym (eq-eqb s w.source (sym (eqb-true w.source s h)))
    turned false h = sym (ne_eqb s w.source (λ p. eqb-false w.source s h (sym p)))

    pick : (c b : Bool) → eqb w.source s ≡ b → wired ws s t ≡ mem s (sources ws t)
        → (b && c || wired ws s t) ≡ mem s (cond c (w.source ∷ sources ws t) (sources ws t))
    pick true true h ih = ap (λ (x : Bool). x || mem s (sources ws t)) (turned true h)
    pick true false h ih = ih ∙ ap (λ (x : Bool). x || mem s (sources ws t)) (turned false h)
    pick false true h ih = ih
    pick false false h ih = ih

module _ (ws : List Wire) (s t : ℕ) (there : wired ws s t ≡ true) where
  whole_at : sources ws t ≡ sources (older ws s t) t ++ (s ∷ sources (newer ws s t) t)
  whole_at =
      ap (λ (l : List Wire). sources l t) (newest ws s t there) ∙ sources-append (older ws s t) (wire s t ∷ newer ws s t) t
      ∙ ap (λ (l : List ℕ). sources (older ws s t) t ++ l) (sources_here s t (newer ws s t))

  pulled_at : sources (pulled ws s t) t ≡ sources (older ws s t) t ++ sources (newer ws s t) t
  pulled_at = sources-append (older ws s t) (newer ws s t) t

  pub pulled_other : (k : ℕ) → (k ≡ t → ⊥) → sources (pulled ws s t) k ≡ sources ws k
  pulled_other k h =
      sources-append (older ws s t) (newer ws s t) k ∙ ap (λ (l : List ℕ). sources (older ws s t) k ++ l) (sym (sources_other s t k (newer ws s t) h))
      ∙ sym (ap (λ (l : List Wire). sources l k) (newest ws s t there) ∙ sources-append (older ws s t) (wire s t ∷ newer ws s t) k)

  -- where an older one stays nothing changes
  pub pulled_keeps : mem s (sources (older ws s t) t) ≡ true → distinct_sources (pulled ws s t) t ≡ distinct_sources ws t
  pulled_keeps e =
      ap distinct pulled_at ∙ sym (distinct_again (sources (older ws s t) t) (sources (newer ws s t) t) s e) ∙ sym (ap distinct whole_at)

  pub pulled_again : mem s (sources (older ws s t) t) ≡ true → visiting_list (pulled ws s t) ≡ visiting_list ws
  pulled_again e = visiting_same (pulled ws s t) ws (λ k. pick k (eqb k t) refl)
    where
      pick : (k : ℕ) (b : Bool) → eqb k t ≡ b → distinct_sources (pulled ws s t) k ≡ distinct_sources ws k
      pick k true h =
          let is = eqb-true k t h in
          ap (distinct_sources (pulled ws s t)) is ∙ pulled_keeps e ∙ ap (distinct_sources ws) (sym is)
      pick k false h = ap distinct (pulled_other k (eqb-false k t h))

  -- and else none stays
  pub pulled_none : mem s (sources (older ws s t) t) ≡ false → mem s (sources (pulled ws s t) t) ≡ false
  pulled_none e =
      ap (mem s) pulled_at
      ∙ mem_neither s (sources (older ws s t) t) (sources (newer ws s t) t) e (sym (wired-mem (newer ws s t) s t) ∙ none-newer ws s t)

  module _ (gone : mem s (sources (pulled ws s t) t) ≡ false) where
    apart : Around s (distinct (sources (older ws s t) t)) (distinct (sources (older ws s t) t ++ (s ∷ sources (newer ws s t) t))) (distinct (sources (older ws s t) t ++ sources (newer ws s t) t))
    apart =
        let n = mem_parts s (sources (older ws s t) t) (sources (newer ws s t) t) (ap (mem s) (sym pulled_at) ∙ gone) in
        distinct_around (sources (older ws s t) t) (sources (newer ws s t) t) s n.0 n.1

    pub pulled_less : length (distinct_sources ws t) ≡ suc (length (distinct_sources (pulled ws s t) t))
    pulled_less =
        let a = distinct (sources (older ws s t) t) in
        omega (arith, ap length (ap distinct whole_at ∙ apart.has), ap length (ap distinct pulled_at ∙ apart.lacks), length-append a (s ∷ apart.behind), length-append a apart.behind)

    front : List ℕ
    front = distinct (sources (older ws s t) t)

    lost : Change
    lost = record { adding = false; source = s; target = t; front = front; back = apart.behind }

    pub pulled_code : (skim_all (distinct_sources ws) (edit false s t) 64 0 (record { way = fresh; rest = visiting_list ws })).way.listed ≡ visiting_list (pulled ws s t)
    unfolding lost front
    pulled_code =
        let n = mem_parts s (sources (older ws s t) t) (sources (newer ws s t) t) (ap (mem s) (sym pulled_at) ∙ gone) in
        ap (λ (c : Carried). c.way.listed)
        (all_is (distinct_sources ws) (distinct_sources ws) false s t front apart.behind (ap distinct whole_at ∙ apart.has) (λ k h. refl)
        (mem_distinct s (sources (older ws s t) t) ∙ n.0) apart.free 64 0 (record { way = fresh; rest = visiting_list ws }))
        ∙ ap (carry (distinct_sources ws) lost 64) (visiting-distinct ws)
        ∙ carry_is (distinct_sources ws) (distinct_sources (pulled ws s t)) lost
        (record { others = λ k h. ap distinct (pulled_other k h); was = ap distinct whole_at ∙ apart.has; now = ap distinct pulled_at ∙ apart.lacks }) 64
        (λ e. absurd (false≢true e)) (λ e. absurd (false≢true e)) (λ e. absurd (false≢true e))
        ∙ sym (visiting-distinct (pulled ws s t))
