-- A board with a wire more or a wire less: the carried visiting list is the one found afresh.
-- Assumes nothing.
use mathlib.Core.Path.{◌≡◌, refl, sym, ap, ◌∙◌}
use Prim.Native.Nat.{ℕ, zero, suc, ◌<◌}
use native.Mathlib.Omega.{arith}
use mathlib.Core.Bool.{Bool, true, false, cond, ◌&&◌, false≢true, true≢false}
use mathlib.Core.List.{List, [], ◌∷◌, ◌++◌, append-nil}
use lib.Dec.{eqb}
use borrow.Author.Tests.{eq-eqb, ne_eqb, eqb-true}
use Rattle.reading.specs.Table.{mem}
use Rattle.reading.specs.Order.{Wire, sources, wire}
use Rattle.reading.specs.Visit.{Walk, mark_node, list_node, choose, each, go, visiting}
use Rattle.graph.specs.Visit.{visiting_list}
use Rattle.carrying.specs.Carried.{Way, Changes, mark, enter, through, walk, fresh, added, joins, wired, older, newer, pulled, adds, pulls, carry_added, carry_pulled}
use Rattle.carrying.proofs.Lists.{or_one}
use Rattle.carrying.proofs.Carry.{carry_is}

-- ---- the walk of the definition is a walk over a table

abbrev view : Walk → Way
view w = record { marks = λ j. mem j w.marked; listed = w.listed }

view_each : (g : ℕ → Walk → Walk) (h : ℕ → Way → Way) → ((k : ℕ) (w : Walk) → view (g k w) ≡ h k (view w))
    → (ss : List ℕ) (w : Walk) → view (each g ss w) ≡ through h ss (view w)
view_each g h same [] w = refl
view_each g h same (s ∷ ss) w = view_each g h same ss (g s w) ∙ ap (λ (v : Way). through h ss v) (same s w)

view_go : (ws : List Wire) (f k : ℕ) (w : Walk) → view (go ws f k w) ≡ walk (sources ws) f k (view w)
view_go ws zero k w = refl
view_go ws (suc f) k w = pick (mem k w.marked) (view_go ws f)
  where
    pick : (b : Bool) → ((j : ℕ) (v : Walk) → view (go ws f j v) ≡ walk (sources ws) f j (view v))
        → view (choose b (λ _. w) (λ _. list_node k (each (go ws f) (sources ws k) (mark_node k w))))
        ≡ choose b (λ _. view w) (λ _. enter k (through (walk (sources ws) f) (sources ws k) (mark k (view w))))
    pick true ih = refl
    pick false ih = ap (enter k) (view_each (go ws f) (walk (sources ws) f) ih (sources ws k) (mark_node k w))

pub visiting-walk : (ws : List Wire) (n : ℕ) → visiting ws n ≡ (walk (sources ws) n 0 fresh).listed
visiting-walk ws n = ap (λ (v : Way). v.listed) (view_go ws n 0 (record { marked = []; listed = [] }))

-- ---- the sources of wires put together

pub sources-append : (a b : List Wire) (k : ℕ) → sources (a ++ b) k ≡ sources a k ++ sources b k
sources-append [] b k = refl
sources-append (w ∷ a) b k = pick (eqb w.target k) (sources-append a b k)
  where
    pick : (c : Bool) → sources (a ++ b) k ≡ sources a k ++ sources b k
        → cond c (w.source ∷ sources (a ++ b) k) (sources (a ++ b) k) ≡ cond c (w.source ∷ sources a k) (sources a k) ++ sources b k
    pick true ih = ap (λ (l : List ℕ). w.source ∷ l) ih
    pick false ih = ih

pub sources_here : (s t : ℕ) (ws : List Wire) → sources (wire s t ∷ ws) t ≡ s ∷ sources ws t
sources_here s t ws = ap (λ (c : Bool). cond c (s ∷ sources ws t) (sources ws t)) (eq-eqb t t refl)

pub sources_other : (s t k : ℕ) (ws : List Wire) → (k ≡ t → ⊥) → sources (wire s t ∷ ws) k ≡ sources ws k
sources_other s t k ws h = ap (λ (c : Bool). cond c (s ∷ sources ws k) (sources ws k)) (ne_eqb t k (λ p. h (sym p)))

-- ---- adding

adds_changes : (ws : List Wire) (s t : ℕ) → Changes (adds ws s t) (sources ws) (sources (added ws s t))
adds_changes ws s t =
    record {
      others = λ k h. sources-append ws (wire s t ∷ []) k ∙ ap (λ (l : List ℕ). sources ws k ++ l) (sources_other s t k [] h) ∙ append-nil (sources ws k);
      was = sym (append-nil (sources ws t));
      now = sources-append ws (wire s t ∷ []) t ∙ ap (λ (l : List ℕ). sources ws t ++ l) (sources_here s t []);
    }

-- on a board of n nodes, with the new wire's source among them
pub added_carried : (ws : List Wire) (s t n : ℕ) → s < n → ((k j : ℕ) → mem j (sources ws k) ≡ true → j < n)
    → carry_added ws s t n (visiting ws n) ≡ visiting (added ws s t) n
added_carried ws s t n h bounded =
    ap (carry_added ws s t n) (visiting-walk ws n)
    ∙ carry_is (sources ws) (sources (added ws s t)) (adds ws s t) (adds_changes ws s t) n (λ _. bounded) (λ _. h) (λ _. omega arith)
    ∙ sym (visiting-walk (added ws s t) n)

-- ---- pulling

-- the newest wire from s to t stands where the wires are cut, and none behind it
pub newest : (ws : List Wire) (s t : ℕ) → wired ws s t ≡ true → ws ≡ older ws s t ++ (wire s t ∷ newer ws s t)
newest [] s t e = absurd (false≢true e)
newest (w ∷ ws) s t e = pick (wired ws s t) refl (newest ws s t)
  where
    is : (joins s t w) ≡ true → w ≡ wire s t
    is h = both (eqb w.source s) (eqb w.target t) refl refl h
      where
        both : (a b : Bool) → eqb w.source s ≡ a → eqb w.target t ≡ b → (a && b) ≡ true → w ≡ wire s t
        both true true p q g = λ i. record { source = eqb-true w.source s p i; target = eqb-true w.target t q i }
        both true false p q g = absurd (false≢true g)
        both false b p q g = absurd (false≢true g)

    pick : (b : Bool) → wired ws s t ≡ b → (wired ws s t ≡ true → ws ≡ older ws s t ++ (wire s t ∷ newer ws s t))
        → w ∷ ws ≡ cond b (w ∷ older ws s t) [] ++ (wire s t ∷ cond b (newer ws s t) ws)
    pick true h ih = ap (λ (l : List Wire). w ∷ l) (ih h)
    pick false h ih = ap (λ (v : Wire). v ∷ ws) (or_one (joins s t w) (wired ws s t) e is (λ g. absurd (true≢false (sym g ∙ h))))

pub none-newer : (ws : List Wire) (s t : ℕ) → wired (newer ws s t) s t ≡ false
none-newer [] s t = refl
none-newer (w ∷ ws) s t = pick (wired ws s t) refl (none-newer ws s t)
  where
    pick : (b : Bool) → wired ws s t ≡ b → wired (newer ws s t) s t ≡ false → wired (cond b (newer ws s t) ws) s t ≡ false
    pick true h ih = ih
    pick false h ih = h

pulls_changes : (ws : List Wire) (s t : ℕ) → wired ws s t ≡ true → Changes (pulls ws s t) (sources ws) (sources (pulled ws s t))
pulls_changes ws s t e =
    record {
      others = λ k h.
          sources-append (older ws s t) (newer ws s t) k ∙ ap (λ (l : List ℕ). sources (older ws s t) k ++ l) (sym (sources_other s t k (newer ws s t) h)) ∙ sym (cut k);
      was = cut t ∙ ap (λ (l : List ℕ). sources (older ws s t) t ++ l) (sources_here s t (newer ws s t));
      now = sources-append (older ws s t) (newer ws s t) t;
    }
  where
    cut : (k : ℕ) → sources ws k ≡ sources (older ws s t) k ++ sources (wire s t ∷ newer ws s t) k
    cut k = ap (λ (l : List Wire). sources l k) (newest ws s t e) ∙ sources-append (older ws s t) (wire s t ∷ newer ws s t) k

-- on any board that has such a wire
pub pulled_carried : (ws : List Wire) (s t n : ℕ) → wired ws s t ≡ true → carry_pulled ws s t n (visiting ws n) ≡ visiting (pulled ws s t) n
pulled_carried ws s t n e =
    ap (carry_pulled ws s t n) (visiting-walk ws n)
    ∙ carry_is (sources ws) (sources (pulled ws s t)) (pulls ws s t) (pulls_changes ws s t e) n (λ a. absurd (false≢true a)) (λ a. absurd (false≢true a)) (λ a. absurd (false≢true a))
    ∙ sym (visiting-walk (pulled ws s t) n)

-- ---- for the visiting list of crate graph, whose nodes are 64 at most

pub added-visiting : (ws : List Wire) (s t : ℕ) → s < 64 → ((k j : ℕ) → mem j (sources ws k) ≡ true → j < 64)
    → carry_added ws s t 64 (visiting_list ws) ≡ visiting_list (added ws s t)
unfolding visiting_list
added-visiting ws s t h bounded = added_carried ws s t 64 h bounded

pub pulled-visiting : (ws : List Wire) (s t : ℕ) → wired ws s t ≡ true → carry_pulled ws s t 64 (visiting_list ws) ≡ visiting_list (pulled ws s t)
unfolding visiting_list
pulled-visiting ws s t e = pulled_carried ws s t 64 e
