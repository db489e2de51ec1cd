-- Memory that shows cells, as bytes.
--     memory_passes    checks 7 and 8 pass
-- Assumes nothing.
use Prim.Native.Nat.{ℕ, ◌*◌}
use mathlib.Core.Path.{◌≡◌, ap, subst⁻¹, ◌∙◌}
use Rattle.values.specs.Words.{words-unwords, length-unwords}
use Rattle.kinds.specs.Cell.{cell_fits}
use Rattle.kinds.proofs.Kept.{judged_fits}
use Rattle.boards.specs.Board.{Parsed}
use Rattle.memory.specs.Fine.{Fine}
use Rattle.memory.specs.Memory.{kind_at}
use Rattle.memory.specs.Calls.{check_memory}
use Rattle.records.specs.declared.answer.Answer.{Answer}
use Rattle.samples.specs.Instance.{Held, Cells, cell_in, shown, memory_of}
use Rattle.memory.proofs.CallLaws.{Judged, memory_passed}
use Rattle.samples.proofs.ShownCells.{Long, shown_long, shown_part}

pub memory_passes : (p : Parsed) → Fine p → (c : Cells) → Long p c → ((k : ℕ) → Held (kind_at p k) (c k).state) → (a : Answer) → check_memory p (memory_of p c) a ≡ a
memory_passes p fine c long held a =
    memory_passed p (memory_of p c) a (length-unwords (shown p c) ∙ ap (λ (n : ℕ). 4 * n) (shown_long p c long))
    (subst⁻¹ (Judged p) (words-unwords (shown p c)) (λ k there.
    ap (cell_fits (kind_at p k)) (shown_part p fine c long k there)
    ∙ judged_fits (kind_at p k) (cell_in p c k) (record { number = (held k).number; carry = (held k).carry; place = (held k).place })))
