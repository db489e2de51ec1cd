-- `leaves_trial::position` splits a position only of a line that may be: it is at most the line's length. Assumes nothing.
use mathlib.Core.Path.{sym, subst}
use Prim.Native.Nat.{◌^◌}
use native.Mathlib.Omega.{arith}
use Rattle.values.specs.Floors.{Upto}
use Rattle.leaves.specs.Position.{position_of}
use Rattle.values.proofs.Floors.{upto-more}
use Rattle.leaves.proofs.Place.{position_upto}
use Rattle.leaves_trial.proofs.position.Goals as goal

pub split-p-requires : goal.split-p-requires
split-p-requires c =
    let a = c.args in
    subst (Upto (2 ^ 24)) (sym c.position.ensures)
    (upto-more a.n (2 ^ 24) (position_of a.m a.n) (omega arith) (position_upto a.m a.n (omega arith)))
