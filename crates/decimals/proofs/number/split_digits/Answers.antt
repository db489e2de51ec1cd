-- `decimals::number::split_digits` meets its contract: the library's `split_at`, behind a run of digits. Assumes nothing.
use mathlib.Core.Path.{sym, ap, subst, ◌∙◌}
use Prim.Native.Nat.{ℕ}
use lib.ListN.{take, drop}
use Rattle.decimals.specs.declared.number.Run.{Run}
use Rattle.decimals.specs.Number.{Decimals}
use Rattle.decimals.proofs.Reading.{first_decimals}
use Rattle.decimals.proofs.number.split_digits.Goals as goal

pub returns : goal.returns
returns c =
    let s = c.args.s.now in
    let next = ap (λ (r : Run). r.next) c.digits_from.ensures.2 in
    let front = c.split_at.ensures.front ∙ ap (λ (n : ℕ). take n s) next in
    (subst Decimals (sym front) (first_decimals s), front, c.split_at.ensures.back ∙ ap (λ (n : ℕ). drop n s) next)
