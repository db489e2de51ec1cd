-- `values::lanes::load_four` meets its contract. Assumes nothing.
use mathlib.Core.Path.{ap, ◌∙◌}
use mathlib.Core.List.{map}
use lib.Ieee.{binary32, of_bits}
use Prim.Native.Nat.{◌*◌}
use lib.Lanes.{chunk}
use mir.Syntax.{w8}
use Rattle.std.proofs.lemmas.Simd.{chunk-fits, below_from_Fits}
use Rattle.values.proofs.FourLanes.{read_four}
use Rattle.values.proofs.lanes.load_four.Goals as goal

pub returns : goal.returns
returns c =
    let m = c.args.mem.now in
    let at = 4 * c.args.k in
    c.floats.ensures ∙ ap (map (of_bits binary32)) (read_four m c.args.k c.requires (below_from_Fits w8 (chunk at 16 m) (chunk-fits w8 at 16 m c.type_inv.mem)))
