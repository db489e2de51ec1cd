-- `records::writer::put_two` meets its contract: its two stores are one run. Assumes nothing.
use mathlib.Core.Path.{refl}
use Prim.Native.Nat.{◌+◌}
use Rattle.values.specs.Bytes.{u16_bytes}
use Rattle.records.proofs.Stores.{next}
use Rattle.records.proofs.writer.put_two.Goals as goal

pub returns : goal.returns
returns c =
    let start = c.args in
    next start.board.now start.at (start.at + 2) (u16_bytes start.a) (u16_bytes start.b) refl
    c.put_u16.ensures c.put_u16-2.ensures
