-- `packed::block24::run_words` meets its contract: blocks of the length that the head says are converted; else the judged board's refusal answers,
-- or 13. Assumes nothing.
use mathlib.Core.Path.{refl}
use mathlib.Core.Logic.{⊎_elim}
use native.Mathlib.Omega.{arith}
use Rattle.packed.proofs.Refused.{board_refused, lengths_refused}
use Rattle.packed.proofs.block24.run_words.Goals as goal

pub returns-in_default : goal.returns-in_default
returns-in_default c =
    ⊎_elim (board_refused _ _ _ _ _ _)
    (λ e. lengths_refused _ _ _ _ _ (λ i. omega (arith, c.type_inv.s i)) e.0 e.1 (c.in_default.ensures.other refl) _ e.2)
    c.lengths_refused.ensures
