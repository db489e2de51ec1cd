-- `boards::read::read_head` meets its contract: only a head or a refusal can be found at offset 0. Assumes nothing.
use Rattle.std.specs.Prelude.{ℕ, length, Ok, Err}
use mathlib.Core.Path.{◌≡◌, refl, sym, ap, ◌∙◌}
use native.Mathlib.Omega.{arith}
use Rattle.boards.specs.Board.{headed, take_found}
use Rattle.records.specs.declared.record.Found.{Found}
use Rattle.records.specs.declared.record.Found.TheVariants.{Head, Node, Wire, End}
use Rattle.records.specs.Record.{number_of, numbered}
use Rattle.records.proofs.Found.{Room, room_of}
use Rattle.boards.proofs.Answers.{refused_by}
use Rattle.boards.proofs.RecordSteps.{head_as, step_takes}
use Rattle.boards.proofs.read.read_head.Goals as goal

head_alone : (n : ℕ) (f : Found) → Room n 0 0 (Ok f) → (f ≡ Head) × Room n 0 0 (Ok Head)
head_alone n Head h = (refl, h)
head_alone n Node h = absurd (omega (arith, h.1))
head_alone n Wire h = absurd (omega (arith, h.1))
head_alone n End h = absurd (omega (arith, h.1))

pub head_body-requires : goal.head_body-requires
head_body-requires c =
    let s = c.args.s.now in
    let room = (head_alone (length s) c.in-Ok.field-0 (room_of s 0 0 c.found_at.ensures (ap numbered c.in-Ok.is))).1 in
    omega (arith, room.0)

pub returns-in-Ok : goal.returns-in-Ok
unfolding take_found
returns-in-Ok c =
    let s = c.args.s.now in
    let head = (head_alone (length s) c.in-Ok.field-0 (room_of s 0 0 c.found_at.ensures (ap numbered c.in-Ok.is))).0 in
    head_as _ (step_takes s 0 0 (headed 0 0) (Ok Head) (sym c.found_at.ensures ∙ ap numbered c.in-Ok.is ∙ ap Ok head)) c.head_body.ensures

pub returns-in-Err : goal.returns-in-Err
unfolding take_found
returns-in-Err c =
    let s = c.args.s.now in
    refused_by c.new.ensures (rw c.number.ensures (room_of s 0 0 c.found_at.ensures (ap numbered c.in-Err.is)))
    (rw c.number.ensures (sym (step_takes s 0 0 (headed 0 0) (Err (number_of c.in-Err.why)) (sym c.found_at.ensures ∙ ap numbered c.in-Err.is))))
