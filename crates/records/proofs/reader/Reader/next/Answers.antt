-- `records::reader::Reader::next` meets its contract: the offset after the record fits, as the record lies within the bytes. Assumes nothing.
use Rattle.std.proofs.Common.{arith, ℕ, ◌+◌, ◌^◌, ◌<◌, length}
use mathlib.Core.Path.{ap}
use Rattle.std.specs.Prelude.{Ok}
use Rattle.records.specs.Record.{record_length, numbered}
use Rattle.records.specs.declared.record.Found.{Found}
use Rattle.records.specs.declared.record.Found.TheVariants.{Head, Node, Wire, End}
use Rattle.records.proofs.Found.{Room, room_of}
use Rattle.records.proofs.reader.Reader.next.Goals as goal

-- the offset after a record in n bytes
after-fits : (n at last : ℕ) (f : Found) → Room n at last (Ok f) → n < 2 ^ 64 → at + record_length f < 2 ^ 64
after-fits n at last Head room b = omega (arith, room.0)
after-fits n at last Node room b = omega (arith, room.0)
after-fits n at last Wire room b = omega (arith, room.0)
after-fits n at last End room b = omega (arith, room.0)

pub overflow_add-self : goal.overflow_add-self
overflow_add-self c =
    let r = c.args.self.now in
    let found = c.in_ok-found.found in
    let room : Room (length r.bytes.now) r.at c.args.last (Ok found) = room_of r.bytes.now r.at c.args.last c.found_at.ensures (ap numbered c.in_ok-found.was) in
    let after : r.at + record_length found < 2 ^ 64 = after-fits (length r.bytes.now) r.at c.args.last found room (omega arith) in
    omega (arith, after, c.length.ensures)
