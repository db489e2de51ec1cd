-- `memory::open::opened` meets its contract: a board that is read whole is held to its memory's length. Assumes nothing.
use Prim.Native.Nat.{ℕ, ◌*◌}
use mathlib.Core.Path.{◌≡◌, ap, ◌∙◌}
use native.Mathlib.Omega.{arith}
use lib.Dec.{eqb}
use Rattle.std.specs.Prelude.{Ok}
use Rattle.boards.specs.Board.{memory_length}
use Rattle.records.specs.Answer.{checked}
use Rattle.graph.proofs.Accepted.{table_at}
use Rattle.memory.specs.Calls.{check_needed}
use Rattle.memory.proofs.FineBoard.{accepted_fine}
use Rattle.memory.proofs.CallBy.{held_passed}
use Rattle.memory.proofs.CallChecks.{needed_long, test_checked, checked_passed}
use Rattle.memory.proofs.open.opened.Goals as goal

pub returns : goal.returns
returns c =
    let s = c.args.s.now in
    let b = c.in_ok-board.board in
    let read = c.in_ok-board.ensures in
    let passes : Ok tt ≡ checked (check_needed (4 * b.values) c.args.lent) =
    c.in_ok-length_judged.ensures ∙ test_checked (eqb c.args.lent (4 * b.values)) _ _ c.new.ensures (omega arith) in
    record {
      reading = held_passed (λ p. check_needed (memory_length p) c.args.lent) read (passes ∙ ap (λ (v : ℕ). checked (check_needed (4 * v) c.args.lent)) b.sum);
      fine = accepted_fine s (λ i. omega (arith, c.type_inv.s i)) b read;
      table = table_at s b read;
      long = needed_long (4 * b.values) c.args.lent (checked_passed _ passes);
    }
