use mathlib.Core.Path.{◌≡◌}
use Prim.Native.Nat.{◌≤◌}
use lib.ListN.{length, take}
use lib.Seq.{sets}
use Rattle.records.specs.Write.{nodes_bytes}
use Rattle.plate_board.specs.Plate.{plate_nodes}
use Rattle.plate_board.proofs.writer.put_nodes.Given as goal

abbrev pub invariant-loop-i : goal.invariant-loop-i
invariant-loop-i l = (l.i ≤ 51) × (length l.board ≡ length l.initial.board) × (l.board ≡ sets l.initial.board 8 (nodes_bytes (take l.i (plate_nodes l.mix l.dry))))
