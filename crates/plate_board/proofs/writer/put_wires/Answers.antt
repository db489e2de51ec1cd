-- `plate_board::writer::put_wires` meets its contract: behind the first i wires, the next one's record. Assumes nothing.
use mathlib.Core.Path.{refl, ap, ◌∙◌}
use Prim.Native.Nat.{◌+◌, ◌*◌, ◌≤◌, ◌<◌}
use native.Mathlib.Omega.{arith}
use lib.ListN.{length}
use lib.Seq.{sets}
use Rattle.reading.specs.Order.{Wire}
use Rattle.records.specs.Write.{wire_bytes, wires_bytes}
use Rattle.plate_board.specs.Plate.{plate_wires}
use Rattle.boards.specs.Wires.{wire_of}
use Rattle.records.proofs.Stores.{one_more, all_written}
use Rattle.plate_board.proofs.Tables.{wire_at}
use Rattle.plate_board.specs.declared.writer.TheConstants.{WIRES}
use Rattle.plate_board.proofs.writer.put_wires.Goals as goal

pub loop-i-preserved : goal.loop-i-preserved
unfolding plate_wires
loop-i-preserved c =
    let l = c.args.board.now in
    let i = c.loop-i.i in
    let inv = c.loop-i.invariant in
    let m = c.loop-i.board in
    let put = c.put_wire in
    let at = 722 + 8 * i in
    let room : i < length plate_wires = omega arith in (
      omega arith,
      put.auto.board ∙ inv.1,
      one_more wires_bytes wire_bytes 8 refl (λ x xs. refl) (λ x. refl) l 722 i plate_wires (wire_of (0, 0)) room inv.2
          (put.ensures ∙ ap (λ (w : Wire). sets m at (wire_bytes w)) (wire_at WIRES i (0, 0))),
    )

pub returns : goal.returns
unfolding plate_wires
returns c =
    let past : length plate_wires ≤ c.loop-i.i = omega arith in
    all_written wires_bytes wire_bytes 8 refl (λ x xs. refl) (λ x. refl) c.args.board.now 722 c.loop-i.i plate_wires past c.loop-i.invariant.2
