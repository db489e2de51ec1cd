-- `boards::read::starts_with` meets its contract: two 2-byte numbers are read and compared as one. Assumes nothing.
use Prim.Native.Nat.{ℕ, ◌+◌, ◌*◌, ◌<◌}
use lib.ListN.{length, get_or}
use mathlib.Core.Path.{◌≡◌, refl, ap}
use mathlib.Core.Bool.{Bool, true, false, ◌&&◌}
use native.Mathlib.Omega.{arith}
use borrow.Author.Rules.{rules}
use borrow.Author.Tests.{lt-leb, le-leb, eq-eqb, ne_eqb, eqb-true, eqb-false}
use lib.Dec.{eqb}
use Rattle.values.specs.Bytes.{u16_at}
use Rattle.boards.proofs.read.starts_with.Goals as goal

-- below 2^16 both halves are the same where the numbers are
halves : (a b z k : ℕ) → a < 65536 → z < 65536 → eqb (a + b * 65536) (z + k * 65536) ≡ eqb a z && eqb b k
halves a b z k l m = go (eqb a z) refl (eqb b k) refl
  where
    go : (t : Bool) → eqb a z ≡ t → (u : Bool) → eqb b k ≡ u → eqb (a + b * 65536) (z + k * 65536) ≡ eqb a z && eqb b k
    go true e true f = rw (e, f, eq-eqb (a + b * 65536) (z + k * 65536) (omega (arith, eqb-true a z e, eqb-true b k f)))
    go true e false f = rw (e, f, ne_eqb (a + b * 65536) (z + k * 65536) (λ q. eqb-false b k f (omega (arith, eqb-true a z e))))
    go false e u f = rw (e, ne_eqb (a + b * 65536) (z + k * 65536) (λ q. eqb-false a z e (omega arith)))

pub returns-then-s-at : goal.returns-then-s-at
returns-then-s-at c =
    let a = c.args in
    rw (lt-leb (a.at + a.size) (length a.s.now) (omega (arith, c.from.ensures)))

pub returns : goal.returns
returns c =
    let a = c.args in
    let low = u16_at a.s.now a.at in
    let high = u16_at a.s.now (a.at + 2) in
    let at : a.at + 2 + 1 ≡ a.at + 3 = omega arith in
    let last = ap (λ (k : ℕ). get_or a.s.now k 0) at in
    let whole : c.u32_at.result ≡ low + high * 65536 = omega (arith, c.u32_at.ensures, last) in
    let bytes : low < 65536 = omega (arith, c.type_inv.s a.at, c.type_inv.s (a.at + 1)) in
    rw (le-leb (a.at + a.size) (length a.s.now) (omega (arith, c.from.ensures)), whole, c.from-2.ensures, c.from-3.ensures)
    (halves low high a.size a.kind bytes (search rules))
