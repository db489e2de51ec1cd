-- `leaves::position::split` meets its contract: what is above the position's floor is a difference. Assumes nothing.
use mathlib.Core.Path.{◌≡◌, ap, ◌∙◌}
use mathlib.Core.Bool.{true}
use Prim.Native.Nat.{ℕ, ◌^◌}
use native.Mathlib.Omega.{arith}
use lib.Dec.{lit≤, le→leb}
use lib.IntN.{pos}
use lib.Ieee.{binary32, sub, of_int, of_bits, in_float, lt}
use Rattle.values.specs.Floors.{zero_f}
use Rattle.values.proofs.Floors.{floor-le}
use Rattle.leaves.proofs.Place.{rest-is, not_above}
use Rattle.leaves.proofs.position.split.Goals as goal

pub int_to_float-result : goal.int_to_float-result
unfolding in_float
int_to_float-result c =
    le→leb c.floor-i.result (2 ^ 24)
    (omega (arith, c.floor-i.ensures, floor-le c.args.pos (2 ^ 24) c.requires))

pub returns-then-pos : goal.returns-then-pos
unfolding of_bits
returns-then-pos c =
    let x = c.args.pos in
    let cut = c.floor-i.ensures in
    let e : lt zero_f x ≡ true = c.if-pos.true in
    (cut, ap (λ (i : ℕ). sub binary32 x (of_int binary32 (pos i))) cut ∙ rest-is x (2 ^ 24) (lit≤ tt) c.requires e)

pub returns-else-pos : goal.returns-else-pos
unfolding of_bits
returns-else-pos c = not_above c.args.pos (2 ^ 24) c.requires c.if-pos.false
