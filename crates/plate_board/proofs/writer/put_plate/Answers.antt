-- `plate_board::writer::put_plate` meets its contract: its four runs of stores are one, over the whole of the lent bytes. Assumes nothing.
use mathlib.Core.Path.{◌≡◌, refl, sym, ◌∙◌}
use mathlib.Core.List.{◌++◌}
use Prim.Native.Nat.{◌+◌}
use native.Mathlib.Omega.{arith}
use lib.ListN.{length, length-append}
use Rattle.records.specs.Write.{head_bytes, nodes_bytes, wires_bytes, end_bytes, write_board}
use Rattle.plate_board.specs.Plate.{plate_nodes, plate_wires}
use Rattle.records.proofs.Stores.{next, sets_all}
use Rattle.plate_board.proofs.Written.{nodes_long, wires_long, plate_long}
use Rattle.plate_board.proofs.writer.put_plate.Goals as goal

pub returns : goal.returns
unfolding write_board
returns c =
    let l = c.args.board.now in
    let head = head_bytes c.args.size 2 in
    let nodes = nodes_bytes (plate_nodes c.args.mix c.args.dry) in
    let wires = wires_bytes plate_wires in
    let n : 0 + length (head ++ nodes) ≡ 722 = simp length-append (omega (arith, nodes_long c.args.mix c.args.dry)) in
    let w : 0 + length (head ++ nodes ++ wires) ≡ 1266 = simp length-append (omega (arith, nodes_long c.args.mix c.args.dry, wires_long)) in
    next l 0 1266 (head ++ nodes ++ wires) end_bytes w
    (next l 0 722 (head ++ nodes) wires n
    (next l 0 8 head nodes refl c.put_head.ensures c.put_nodes.ensures)
    c.put_wires.ensures)
    c.put_end.ensures
    ∙ sets_all l (head ++ nodes ++ wires ++ end_bytes) (plate_long c.args.size c.args.mix c.args.dry ∙ sym c.requires)
