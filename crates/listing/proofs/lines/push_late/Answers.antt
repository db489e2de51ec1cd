-- `listing::lines::push_late` meets its contract: the line has at most 11 bytes. Assumes nothing.
use mathlib.Core.Path.{◌≡◌}
use mathlib.Core.List.{◌++◌}
use Rattle.listing.specs.Text.{line, late_word}
use Rattle.text.proofs.Writing.{appends_short}
use Rattle.listing.proofs.Writing.{late_short}
use Rattle.listing.proofs.lines.push_late.Goals as goal

pub returns : goal.returns
returns c =
    let a = c.args in
    let text : c.push_pair.new.self ≡ a.out.now ++ line late_word a.source a.target = rw (← c.from.ensures, ← c.from-2.ensures) c.push_pair.ensures.wrote in
    appends_short a.out.now (line late_word a.source a.target) 11 text (late_short a.source a.target c.requires.0 c.requires.1)
