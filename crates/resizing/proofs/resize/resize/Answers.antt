-- `resizing::resize::resize` meets its contract: what is to be done to an accepted board is planned, and its bytes have room for what is stored.
-- Assumes nothing.
use Prim.Native.Nat.{ℕ}
use mathlib.Core.Path.{◌≡◌, refl, sym, ap, ◌∙◌}
use mathlib.Core.Bool.{false≢true}
use mathlib.Core.List.{List}
use Rattle.std.proofs.Common.{rules}
use Rattle.std.specs.Prelude.{Result, Ok, Err, IsErr, IsErrAnd}
use Rattle.boards.specs.Judge.{read_board}
use Rattle.boards.specs.Read.{parsed_of, Read}
use Rattle.boards.specs.declared.board.Board.{Board}
use Rattle.graph.proofs.Wired.{table, gathered}
use Rattle.memory.proofs.FineBoard.{accepted_fine}
use Rattle.resizing.specs.declared.resize.NotCarried.{NotCarried}
use Rattle.resizing.specs.declared.resize.Resized.{Resized}
use Rattle.resizing.specs.Resize.{plan_of, plan_by, resized_of, bytes_after}
use Rattle.resizing.proofs.Planning.{plan_room}
use Rattle.resizing.proofs.resize.resize.Goals as goal

-- the plan of an accepted board is r
module _ (s : List ℕ) (M : ℕ) (b : Board) (read : Read (read_board s) (Ok b)) (r : Result Resized NotCarried) (planned : r ≡ plan_of (parsed_of b) M) where
  told : r ≡ resized_of s M
  unfolding resized_of
  told = planned ∙ sym (ap (plan_by M) read)

-- an error that `?` hands on
error : {A : Type 0} (r : Result A NotCarried) (P : NotCarried → Type 0) → IsErr r × IsErrAnd r P → (x : NotCarried) × (r ≡ Err x) × P x
error (Ok y) P h = absurd (false≢true h.0)
error (Err x) P h = (x, refl, h.1)

refused_so : (s : List ℕ) (M : ℕ) (r : Result Resized NotCarried) (x : NotCarried) → r ≡ Err x → Err x ≡ resized_of s M → (r ≡ resized_of s M) × (s ≡ bytes_after s M r)
unfolding bytes_after
refused_so s M r x e f = (e ∙ f, sym (ap (bytes_after s M) e))

pub returns-in_err-board : goal.returns-in_err-board
unfolding resized_of
returns-in_err-board c =
    let h = error c.from_residual.result _ c.from_residual.ensures in
    refused_so c.args.bytes.now c.args.size c.from_residual.result h.0 h.1 (ap Err h.2 ∙ sym (ap (plan_by c.args.size) c.in_err-board.ensures.1))

pub planned-requires : goal.planned-requires
planned-requires c =
    let s = c.args.bytes.now in
    let b = c.in_ok-board.board in
    let read = c.in_ok-board.ensures in
    record {
      fine = accepted_fine s (λ i. search rules) b read;
      table = table s b read;
      gathered = gathered s b read;
    }

pub returns-in_err-resized : goal.returns-in_err-resized
returns-in_err-resized c =
    let h = error c.from_residual-in_err-resized.result _ c.from_residual-in_err-resized.ensures in
    refused_so c.args.bytes.now c.args.size c.from_residual-in_err-resized.result h.0 h.1
    (ap Err h.2 ∙ told c.args.bytes.now c.args.size c.in_ok-board.board c.in_ok-board.ensures _ c.in_err-resized.ensures)

pub put_resized-requires : goal.put_resized-requires
put_resized-requires c =
    plan_room c.args.bytes.now (λ i. search rules) (parsed_of c.in_ok-board.board) c.in_ok-board.ensures c.args.size _ c.in_ok-resized.ensures

pub returns : goal.returns
returns c = (told c.args.bytes.now c.args.size c.in_ok-board.board c.in_ok-board.ensures _ c.in_ok-resized.ensures, c.put_resized.ensures)
