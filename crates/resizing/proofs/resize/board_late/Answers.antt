-- `resizing::resize::board_late` meets its contract: the visiting list of an accepted board's wires has places, and its wires join nodes.
-- Assumes nothing.
use mathlib.Core.Path.{sym, ◌∙◌}
use native.Mathlib.Omega.{arith}
use lib.Seq.{length-take-le}
use lib.ListN.{take}
use Rattle.resizing.proofs.resize.board_late.Goals as goal

pub returns : goal.returns
returns c =
    -- the visiting list of the board's wires
    let order = c.visiting_list-order.result in
    let l = c.visiting_list-order.ensures _ c.requires.gathered in
    rw l.same at (c.late_among.ensures (take order.count order.nodes)
    (length-take-le _ _ (omega (arith, l.size, l.fits)) ∙ sym c.places.ensures.size) c.places.ensures.placed)
