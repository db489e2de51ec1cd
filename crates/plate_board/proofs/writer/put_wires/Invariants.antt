use mathlib.Core.Path.{◌≡◌}
use Prim.Native.Nat.{◌≤◌}
use lib.ListN.{length, take}
use lib.Seq.{sets}
use Rattle.records.specs.Write.{wires_bytes}
use Rattle.plate_board.specs.Plate.{plate_wires}
use Rattle.plate_board.proofs.writer.put_wires.Given as goal

abbrev pub invariant-loop-i : goal.invariant-loop-i
invariant-loop-i l = (l.i ≤ 68) × (length l.board ≡ length l.initial.board) × (l.board ≡ sets l.initial.board 722 (wires_bytes (take l.i plate_wires)))
