-- The visiting list lists the reached nodes, each once, node 0 last, and no wire out of a node without wires in is late: what callers know
-- of it, from the theory of the walk in `reading`. Assumes nothing.
use mathlib.Core.Path.{◌≡◌, refl, ap, subst, ◌∙◌}
use Prim.Native.Nat.{ℕ, zero, suc, ◌+◌, ◌<◌, ◌≤◌}
use native.Mathlib.Nat.{le_refl, le_trans, not-suc-le-zero, le_of_suc-le-suc}
use native.Mathlib.Omega.{arith}
use mathlib.Core.Bool.{Bool, true, cond, not}
use mathlib.Core.List.{List, [], ◌∷◌}
use borrow.Author.Tests.{ne_eqb}
use lib.Dec.{eqb, lit<}
use lib.ListN.{length, get_or, take}
use lib.Seq.{length-take-le, get_or-take}
use Rattle.reading.specs.Table.{mem}
use Rattle.reading.specs.Order.{Wire, sources}
use Rattle.reading.specs.Visit.{mark_node, each, go, Reached, start, along}
use Rattle.reading.proofs.Table.{mem-head, or_right}
use Rattle.reading.proofs.Visit.{visiting_once, visiting_input_first, visiting_closed, reached_listed, listed_reached}
use Rattle.boards.specs.Wires.{Within}
use Rattle.graph.specs.Visit.{visiting_list, Lists}
use Rattle.graph.specs.Listed.{SourcesBelow, ListsReached}

-- a number above every wire's target
above : List Wire → ℕ
above [] = 0
above (w ∷ ws) = suc w.target + above ws

-- it is a node without wires in
no_sources : (ws : List Wire) (k : ℕ) → above ws ≤ k → sources ws k ≡ []
unfolding above
no_sources [] k h = refl
no_sources (w ∷ ws) k h =
    ap (λ (b : Bool). cond b (w.source ∷ sources ws k) (sources ws k)) (ne_eqb w.target k (λ e. omega arith)) ∙ no_sources ws k (omega arith)

reached_below : (ws : List Wire) (n : ℕ) → 0 < n → SourcesBelow ws n → {k : ℕ} → Reached ws k → k < n
reached_below ws n pos below start = pos
reached_below ws n pos below (along {k} {s} r m) = below k s m

pub lists_reached : (ws : List Wire) → SourcesBelow ws 64 → ListsReached ws (visiting_list ws)
unfolding visiting_list
lists_reached ws below = record {
  once = visiting_once ws 64 (above ws) below quiet pos;
  only = listed_reached ws 64;
  all = λ k r. reached_listed ws 64 (above ws) below quiet pos r;
  closed = visiting_closed ws 64 (above ws) below quiet pos;
  last = ((each (go ws 63) (sources ws 0) (mark_node 0 (record { marked = []; listed = [] }))).listed, refl);
  below = λ n h b k m. reached_below ws n h b (listed_reached ws 64 k m);
  input_first = λ i e k m s. ap not (visiting_input_first ws 64 i below e pos k m s);
}
  where
    pos : 0 < 64
    pos = lit< tt

    quiet : sources ws (above ws) ≡ []
    quiet = no_sources ws (above ws) (le_refl _)

-- ---- the list in an array

pub mem_at : (l : List ℕ) (i : ℕ) → i < length l → mem (get_or l i 0) l ≡ true
mem_at [] i h = absurd (not-suc-le-zero h)
mem_at (x ∷ l) zero h = mem-head x l
mem_at (x ∷ l) (suc i) h = or_right (eqb (get_or l i 0) x) (mem_at l i (le_of_suc-le-suc h))

-- its nodes are those of a board of n nodes
pub listed-within : (ws : List Wire) (nodes : List ℕ) (count : ℕ) → Lists (visiting_list ws) nodes count
    → (n : ℕ) → 0 < n → n ≤ 64 → SourcesBelow ws n → Within n nodes count
listed-within ws nodes count l n pos few below i h =
    let long : length (take count nodes) ≡ count = length-take-le count nodes (omega (arith, l.size, l.fits)) in
    let listed : mem (get_or (take count nodes) i 0) (visiting_list ws) ≡ true = subst (λ (m : List ℕ). mem (get_or (take count nodes) i 0) m ≡ true) l.same (mem_at (take count nodes) i (omega arith)) in
    subst (λ (k : ℕ). k < n) (get_or-take count nodes i 0 h) ((lists_reached ws (λ j s e. le_trans (below j s e) few)).below n pos below (get_or (take count nodes) i 0) listed)
