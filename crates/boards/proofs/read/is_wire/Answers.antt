-- `boards::read::is_wire` meets its contract: the first four bytes say that a wire stands there, and only then does one. Assumes nothing.
use mathlib.Core.Path.{sym, ap, ◌∙◌}
use Rattle.boards.specs.BoardParts.{is_wire}
use Rattle.boards.proofs.RecordSteps.{starts_wire, starts_no_wire}
use Rattle.boards.proofs.read.is_wire.Goals as goal

pub returns-then-starts_with : goal.returns-then-starts_with
returns-then-starts_with c =
    let a = c.args in
    let e = starts_wire a.s.now a.at (sym c.starts_with.ensures ∙ c.if-starts_with.true) in
    c.wire_fits.ensures ∙ rw (c.u16_at.ensures, c.u16_at-then-starts_with.ensures) (sym (ap (is_wire a.s.now a.at a.i a.w) e))

pub returns-else-starts_with : goal.returns-else-starts_with
returns-else-starts_with c =
    let a = c.args in
    c.if-starts_with.false ∙ sym (starts_no_wire a.s.now a.at a.i a.w (sym c.starts_with.ensures ∙ c.if-starts_with.false))
