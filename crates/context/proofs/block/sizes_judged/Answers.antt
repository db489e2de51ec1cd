-- `context::block::sizes_judged` meets its contract: one block after the other. Assumes nothing.
use Prim.Native.Nat.{ℕ, ◌*◌}
use mathlib.Core.Path.{◌≡◌, ◌∙◌}
use mathlib.Core.Bool.{cond}
use native.Mathlib.Omega.{arith}
use lib.Dec.{eqb}
use Rattle.std.specs.Prelude.{Result, Ok, Err}
use Rattle.records.specs.Answer.{answer, checked}
use Rattle.records.specs.declared.answer.Answer.{Answer}
use Rattle.memory.specs.Calls.{and_then}
use Rattle.context.specs.Block.{check_size}
use Rattle.memory.proofs.CallChecks.{test_checked, checked_then}
use Rattle.context.proofs.block.sizes_judged.Goals as goal

-- one block's length
sized : (N lent : ℕ) (refusal : Answer) → refusal ≡ answer 9 N → (r : Result (Unit {0}) Answer) → r ≡ cond (eqb lent (4 * N)) (Ok tt) (Err refusal)
    → r ≡ checked (check_size N lent)
sized N lent refusal e r f = f ∙ test_checked (eqb lent (4 * N)) refusal (answer 9 N) e (omega arith)

pub returns : goal.returns
returns c =
    let a = c.args in
    let refusal = c.new-refusal in
    checked_then _ (and_then (check_size a.board.now.size a.left) (check_size a.board.now.size a.right)) _ (sized a.board.now.size a.input _ refusal.ensures _ c.in_ok-length_judged.ensures)
    (checked_then _ (check_size a.board.now.size a.right) _ (sized a.board.now.size a.left _ refusal.ensures _ c.in_ok-length_judged-2.ensures)
    (sized a.board.now.size a.right _ refusal.ensures _ c.length_judged-3.ensures))
