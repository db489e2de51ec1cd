-- `carrying::carried::carried_list` meets its contract: the walk of `skim` from node 0, with nothing marked and the whole old list to come.
-- Assumes nothing.
use mathlib.Core.Path.{refl}
use native.Mathlib.Omega.{arith}
use Rattle.graph.specs.Walking.{unmarked}
use Rattle.carrying.proofs.Called.{carries}
use Rattle.carrying.proofs.carried.carried_list.Goals as goal

pub skim-requires : goal.skim-requires
unfolding unmarked
skim-requires c =
    let pre = c.requires in
    let o = c.args.old.now in
    record {
      table = pre.0;
      was = record { long = o.long; fits = o.fits; below = o.below; once = pre.1; placed = c.places-places.ensures.placed };
      node_in = omega arith;
      source_in = pre.2;
      target_in = pre.3;
      room = record { marks_size = refl; room = omega arith };
      unseen = refl;
      at_in = omega arith;
    }

pub returns : goal.returns
returns c = carries _ _ _ _ _ _ _ c.requires.2 _ c.skim.new.self.order _ c.skim.ensures
