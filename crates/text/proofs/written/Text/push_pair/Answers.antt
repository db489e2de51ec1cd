-- `text::written::Text::push_pair` meets its contract: its parts, one after the other. Assumes nothing.
use borrow.Author.Rules.{rules}
use Rattle.text.specs.Written.{pair}
use Rattle.text.proofs.Writing.{wrote_both}
use Rattle.text.proofs.written.Text.push_pair.Goals as goal

pub returns : goal.returns
unfolding pair
returns g c =
    record {
      wrote = wrote_both _ _ _ (wrote_both _ _ _ (wrote_both _ _ _ (wrote_both _ _ _ c.push_word.ensures.text c.push_number.ensures.wrote) c.push_word-2.ensures.text) c.push_number-2.ensures.wrote) c.push_word-3.ensures.text;
      short = search rules;
    }
