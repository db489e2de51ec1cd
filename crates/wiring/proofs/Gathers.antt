-- The table of sources with one source more at a node that has fewer than eight. Assumes nothing.
use Prim.Native.Nat.{ℕ, ◌+◌, ◌*◌, ◌<◌}
use mathlib.Core.Path.{◌≡◌, sym, ap, ◌∙◌}
use mathlib.Core.Bool.{false}
use mathlib.Core.List.{List, [], ◌∷◌, ◌++◌}
use native.Mathlib.Decide.{ℕ_discrete}
use native.Mathlib.Omega.{arith}
use lib.ListN.{length, get_or, set, length-append, get_or-append}
use lib.Seq.{get_or-append_seam, get_or-set_same, get_or-set_other}
use Rattle.reading.specs.Table.{mem}
use Rattle.reading.specs.Order.{Wire, sources}
use Rattle.sources.specs.Sources.{distinct, distinct_sources}
use Rattle.graph.specs.Walking.{Table, Gathered}
use Rattle.carrying.specs.Carried.{added}
use Rattle.carrying.proofs.Tables.{added_other, added_last}

module _ (counts lists : List ℕ) (table : Table counts lists) (counts_long : length counts ≡ 64) (lists_long : length lists ≡ 512) (s t : ℕ) (node : t < 64)
    (room : get_or counts t 0 < 8) where
  abbrev counts' : List ℕ
  counts' = set counts t (get_or counts t 0 + 1)

  abbrev lists' : List ℕ
  lists' = set lists (8 * t + get_or counts t 0) s

  count_here : get_or counts' t 0 ≡ get_or counts t 0 + 1
  count_here = get_or-set_same counts t (get_or counts t 0 + 1) 0 (omega arith)

  count_else : (v : ℕ) → (v ≡ t → ⊥) → get_or counts' v 0 ≡ get_or counts v 0
  count_else v h = get_or-set_other counts t v (get_or counts t 0 + 1) 0 h

  -- an entry is another node's, or an older one of this node, or the new one
  entry : {C : Type 0} (v j : ℕ) → v < 64 → j < get_or counts' v 0
      → ((v ≡ t → ⊥) → j < get_or counts v 0 → get_or lists' (8 * v + j) 0 ≡ get_or lists (8 * v + j) 0 → C)
      → (v ≡ t → j < get_or counts t 0 → get_or lists' (8 * t + j) 0 ≡ get_or lists (8 * t + j) 0 → C)
      → (v ≡ t → j ≡ get_or counts t 0 → get_or lists' (8 * t + get_or counts t 0) 0 ≡ s → C) → C
  entry {C} v j b l else before last = split (ℕ_discrete v t) (ℕ_discrete j (get_or counts t 0))
    where
      split : Dec (v ≡ t) → Dec (j ≡ get_or counts t 0) → C
      split (yes is) (yes e) = last is e (get_or-set_same lists (8 * t + get_or counts t 0) s 0 (omega arith))
      split (yes is) (no h) =
          before is (omega (arith, count_here, ap (λ (u : ℕ). get_or counts' u 0) is)) (get_or-set_other lists (8 * t + get_or counts t 0) (8 * t + j) s 0 (λ e. h (omega arith)))
      split (no h) e =
          let k : j < get_or counts v 0 = omega (arith, count_else v h) in
          else h k (get_or-set_other lists (8 * t + get_or counts t 0) (8 * v + j) s 0 (λ q. h (omega (arith, table.few v b))))

  count_by : {C : Type 0} (v : ℕ) → (v ≡ t → C) → ((v ≡ t → ⊥) → C) → C
  count_by {C} v here else = split (ℕ_discrete v t)
    where
      split : Dec (v ≡ t) → C
      split (yes is) = here is
      split (no h) = else h

  pub table_more : s < 64 → Table counts' lists'
  table_more h = record {
    few = λ v b. count_by v (λ is. rw (is, count_here) (omega arith)) (λ e. rw (count_else v e) (table.few v b));
    nodes = λ v j b l.
        entry v j b l (λ e k q. rw q (table.nodes v j b k)) (λ is k q. rw (is, q) (table.nodes t j node k)) (λ is e q. rw (is, e, q) h);
  }

  module _ (ws : List Wire) (g : Gathered ws counts lists) (new : mem s (sources ws t) ≡ false) where
    pub gathered_more : Gathered (added ws s t) counts' lists'
    gathered_more = record {
      size = λ v b.
          count_by v
          (λ is. rw is (count_here ∙ omega (arith, g.size t node, ap length (added_last ws s t new), length-append (distinct_sources ws t) (s ∷ []))))
          (λ e. count_else v e ∙ g.size v b ∙ ap (λ (l : List ℕ). length (distinct l)) (sym (added_other ws s t v e)));
      source = λ v j b l.
          entry v j b l
          (λ e k q. q ∙ g.source v j b k ∙ ap (λ (l : List ℕ). get_or (distinct l) j 0) (sym (added_other ws s t v e)))
          (λ is k q. rw is (q ∙ g.source t j node k ∙ sym (ap (λ (l : List ℕ). get_or l j 0) (added_last ws s t new) ∙ get_or-append (distinct_sources ws t) (s ∷ []) 0 j (omega (arith, g.size t node)))))
          (λ is e q. rw (is, e) (q ∙ sym (ap (λ (l : List ℕ). get_or l (get_or counts t 0) 0) (added_last ws s t new)
          ∙ ap (λ (k : ℕ). get_or (distinct_sources ws t ++ (s ∷ [])) k 0) (g.size t node) ∙ get_or-append_seam (distinct_sources ws t) s [] 0)));
    }
