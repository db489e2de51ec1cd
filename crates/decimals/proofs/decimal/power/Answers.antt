-- `decimals::decimal::power` meets its contract, by the table's row: up to 10^10. Assumes nothing.
use mathlib.Core.Path.{◌≡◌}
use Prim.Native.Nat.{◌^◌}
use native.Mathlib.Nat.{one-le-pow, pow-le-pow_right}
use native.Mathlib.Omega.{arith}
use lib.ListN.{get_or}
use lib.Ieee.{nan}
use Rattle.decimals.proofs.Tens.{powers, row_at}
use Rattle.decimals.proofs.decimal.power.Goals as goal

pub returns : goal.returns
unfolding powers
returns c =
    let k = c.args.k in
    let e : (get_or powers k (0, nan)).0 ≡ 10 ^ k = (row_at k c.requires).0 in
    (e, omega (arith, e, one-le-pow k 10 (omega arith)), omega (arith, e, pow-le-pow_right {n = 10} (omega arith) {i = k} {j = 10} (omega arith)))
