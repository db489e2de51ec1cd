-- What a walk from node 0, with nothing marked and the whole old list to come, leaves: the changed board's visiting list. Assumes nothing.
use mathlib.Core.Path.{◌≡◌, refl, ap, ◌∙◌}
use Prim.Native.Nat.{ℕ, ◌<◌}
use native.Mathlib.Omega.{arith}
use mathlib.Core.Bool.{Bool, true, false}
use mathlib.Core.List.{List}
use lib.ListN.{take, replicate, get_or-replicate}
use Rattle.reading.specs.Order.{Wire}
use Rattle.sources.specs.Sources.{distinct_sources}
use Rattle.graph.specs.Walking.{Gathered, unmarked}
use Rattle.graph.specs.Visit.{visiting_list, Lists}
use Rattle.carrying.specs.Carried.{fresh, added, pulled}
use Rattle.carrying.specs.Skimming.{edit, skim_all, Holds, Skimmed, Carries}
use Rattle.graph.specs.declared.graph.Order.{Order}
use Rattle.carrying.proofs.Tables.{added_code, pulled_code}

module _ (counts lists old : List ℕ) (size : ℕ) (adding : Bool) (s t : ℕ) (source_in : s < 64) (m : List Bool) (o : Order) (at : ℕ)
    (x : Skimmed counts lists old size adding s t 0 (replicate 64 false) (replicate 64 0) 0 0 m o.nodes o.count at) where
  all_clear : unmarked (replicate 64 false) ≡ 64
  unfolding unmarked
  all_clear = refl

  -- the list, over any table that the arrays hold
  list_is : (T : ℕ → List ℕ) → Holds T counts lists
      → take o.count o.nodes ≡ (skim_all T (edit adding s t) 64 0 (record { way = fresh; rest = take size old })).way.listed
  list_is T h =
      (x.walk T h 64 (omega (arith, all_clear)) (record { way = fresh; rest = take size old })
      (record { shows = record { marks = λ u b. get_or-replicate 64 u false false b; list = refl }; rest = refl })
      ).shows.list

  as_lists : (v : List ℕ) → take o.count o.nodes ≡ v → Lists v o.nodes o.count
  as_lists v e = record {
    size = o.long;
    fits = o.fits;
    below = o.below;
    same = e;
  }

  holds : (ws : List Wire) → Gathered ws counts lists → Holds (distinct_sources ws) counts lists
  holds ws g = record { size = g.size; source = g.source }

  pub carries : Carries counts lists old size adding s t o.nodes o.count
  carries =
      record {
        added_list = λ ad ws below new g e.
            let T : ℕ → List ℕ = distinct_sources (added ws s t) in
            as_lists (visiting_list (added ws s t))
            (list_is T (holds (added ws s t) g)
            ∙ ap (λ (b : Bool). (skim_all T (edit b s t) 64 0 (record { way = fresh; rest = take size old })).way.listed) ad
            ∙ ap (λ (r : List ℕ). (skim_all T (edit true s t) 64 0 (record { way = fresh; rest = r })).way.listed) e
            ∙ added_code ws s t new source_in below);
        pulled_list = λ ad ws there gone g e.
            let T : ℕ → List ℕ = distinct_sources ws in
            as_lists (visiting_list (pulled ws s t))
            (list_is T (holds ws g)
            ∙ ap (λ (b : Bool). (skim_all T (edit b s t) 64 0 (record { way = fresh; rest = take size old })).way.listed) ad
            ∙ ap (λ (r : List ℕ). (skim_all T (edit false s t) 64 0 (record { way = fresh; rest = r })).way.listed) e
            ∙ pulled_code ws s t there gone);
      }
