-- `boards::judge::judge` meets its contract: the board stands for the reading, and so does a refusal. Assumes nothing.
use mathlib.Core.Path.{sym, ap, ◌∙◌}
use Prim.Native.Nat.{ℕ, ◌*◌}
use Rattle.records.specs.Answer.{answer}
use Rattle.boards.proofs.Six.{judged_whole, judged_refused}
use Rattle.boards.proofs.judge.judge.Goals as goal

pub returns-in-Ok : goal.returns-in-Ok
returns-in-Ok c =
    let read = c.in-Ok.ensures in
    c.new.ensures ∙ ap (λ (v : ℕ). answer 0 (4 * v)) read.sum ∙ sym (judged_whole _ _ read.reads)

pub returns-in-Err : goal.returns-in-Err
returns-in-Err c = sym (judged_refused _ _ _ c.in-Err.ensures.1)
