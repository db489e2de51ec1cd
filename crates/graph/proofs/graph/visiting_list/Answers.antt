-- `graph::graph::visiting_list` meets its contract: a walk from node 0 with nothing marked, which 64 levels suffice for. Assumes nothing.
use mathlib.Core.Path.{refl}
use mathlib.Core.Bool.{false}
use mathlib.Core.List.{[]}
use native.Mathlib.Nat.{le_refl}
use borrow.Author.Rules.{rules}
use lib.ListN.{get_or-replicate}
use Rattle.graph.specs.Visit.{visiting_list}
use Rattle.graph.specs.Walking.{unmarked}
use Rattle.graph.proofs.graph.visiting_list.Goals as goal

pub visit-requires : goal.visit-requires
unfolding unmarked
visit-requires c = search rules

pub returns : goal.returns
unfolding visiting_list unmarked
returns c ws t =
    let r = c.visit.ensures in
    let o = c.visit.new.order in
    record {
      size = o.long;
      fits = o.fits;
      below = o.below;
      same = (r.walk ws t 64 (le_refl 64) (record { marked = []; listed = [] }) (record { marks = λ u h. get_or-replicate 64 u false false h; list = refl })).list;
    }
