-- `text::written::Text::push_spaced` meets its contract: a space, then the number. Assumes nothing.
use borrow.Author.Rules.{rules}
use Rattle.text.specs.Written.{spaced}
use Rattle.text.proofs.Writing.{wrote_both}
use Rattle.text.proofs.written.Text.push_spaced.Goals as goal

pub returns : goal.returns
unfolding spaced
returns g c = record { wrote = wrote_both _ _ _ c.push.ensures.text c.push_number.ensures.wrote; short = search rules }
