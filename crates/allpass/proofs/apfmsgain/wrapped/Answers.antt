-- `allpass::apfmsgain::wrapped` meets its contract. Assumes nothing.
use mathlib.Core.Path.{◌≡◌, sym, ap, ◌∙◌}
use Prim.Native.Nat.{ℕ, ◌+◌, ◌-◌, ◌%◌, ◌≤◌, ◌<◌}
use native.Mathlib.Nat.{mod-eq_of_lt, add-mod_right}
use native.Mathlib.Omega.{arith}
use Rattle.allpass.proofs.apfmsgain.wrapped.Goals as goal

past : (place i n : ℕ) → i ≤ n → n - i ≤ place → place < n → place - (n - i) ≡ (place + i) % n
past place i n a b h =
    let e : place - (n - i) + n ≡ place + i = omega arith in
    sym (mod-eq_of_lt (omega arith)) ∙ sym (add-mod_right (place - (n - i)) n) ∙ ap (λ (j : ℕ). j % n) e

pub returns-then-place-n : goal.returns-then-place-n
returns-then-place-n c = (sym (mod-eq_of_lt (omega arith)), omega arith)

pub returns-else-place-n : goal.returns-else-place-n
returns-else-place-n c = (past _ _ _ (omega arith) (omega arith) (omega arith), omega arith)
