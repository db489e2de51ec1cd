-- `records::writer::put_node` meets its contract: its stores are one run. Assumes nothing.
use mathlib.Core.Path.{refl}
use mathlib.Core.List.{◌++◌}
use Prim.Native.Nat.{◌+◌}
use Rattle.values.specs.Bytes.{u16_bytes, u32_bytes}
use Rattle.records.proofs.Stores.{next}
use Rattle.records.proofs.writer.put_node.Goals as goal

pub returns : goal.returns
returns c =
    let start = c.args in
    let l = start.board.now in
    let at = start.at in
    let kind = u16_bytes start.kind in
    let whole = u32_bytes start.whole in
    next l at (at + 10) (u16_bytes 14 ++ u16_bytes 2 ++ kind ++ whole) (u32_bytes start.float) refl
    (next l at (at + 6) (u16_bytes 14 ++ u16_bytes 2 ++ kind) whole refl
    (next l at (at + 4) (u16_bytes 14 ++ u16_bytes 2) kind refl c.put_two.ensures c.put_u16.ensures)
    c.put_u32.ensures)
    c.put_u32-2.ensures
