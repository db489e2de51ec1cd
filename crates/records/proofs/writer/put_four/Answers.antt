-- `records::writer::put_four` meets its contract: its two runs of stores are one. Assumes nothing.
use mathlib.Core.Path.{refl}
use mathlib.Core.List.{◌++◌}
use Prim.Native.Nat.{◌+◌}
use Rattle.values.specs.Bytes.{u16_bytes}
use Rattle.records.proofs.Stores.{next}
use Rattle.records.proofs.writer.put_four.Goals as goal

pub returns : goal.returns
returns c =
    let start = c.args in
    next start.board.now start.at (start.at + 4) (u16_bytes 8 ++ u16_bytes start.kind) (u16_bytes start.a ++ u16_bytes start.b) refl
    c.put_two.ensures c.put_two-2.ensures
