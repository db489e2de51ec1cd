-- `values::lanes::put_patterns` meets its contract. Assumes nothing.
use mathlib.Core.Path.{ap, ◌∙◌}
use mathlib.Core.List.{List}
use Prim.Native.Nat.{ℕ, ◌*◌, ◌<◌}
use native.Mathlib.Omega.{arith}
use lib.ListN.{get_or}
use lib.Lanes.{number_l, digits_l, put_chunk}
use mir.Syntax.{w32}
use mir.Val.{Fits}
use Rattle.std.proofs.lemmas.Simd.{Each1-get_or}
use Rattle.values.specs.Words.{words}
use Rattle.values.proofs.FourLanes.{lanes_of, write_four}
use Rattle.values.proofs.lanes.put_patterns.Goals as goal

pub returns : goal.returns
returns c =
    let m = c.args.mem.now in
    let at = 4 * c.args.k in
    let b = c.args.bits in
    let fit : (j : ℕ) → j < 4 → get_or b j 0 < 4294967296 = λ j h. (Each1-get_or (Fits w32) b j 0 (omega arith) c.fits-bits.1).fits in
    ap (λ (l : List ℕ). words (put_chunk at m (digits_l 256 16 (number_l 4294967296 l)))) (lanes_of b 0 c.requires.1)
    ∙ write_four m c.args.k (get_or b 0 0) (get_or b 1 0) (get_or b 2 0) (get_or b 3 0) c.requires.0 (fit 0 (omega arith)) (fit 1 (omega arith)) (fit 2 (omega arith)) (fit 3 (omega arith))
