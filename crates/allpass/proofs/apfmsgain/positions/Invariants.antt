use Prim.Native.Nat.{◌+◌, ◌*◌, ◌/◌}
use lib.ListN.{length}
use Rattle.effects.specs.Block.{positioned}
use Rattle.effects.proofs.Filled.{Filling}
use Rattle.allpass.proofs.apfmsgain.positions.Given as goal

abbrev pub invariant-loop-group : goal.invariant-loop-group
invariant-loop-group l = Filling (positioned l.fn.m l.n) (length l.fn.m) l.fn.m (4 * l.group) l.m

abbrev pub invariant-loop-j : goal.invariant-loop-j
invariant-loop-j l = Filling (positioned l.fn.m l.n) (length l.fn.m) l.fn.m (length l.fn.m / 4 * 4 + l.j) l.m
