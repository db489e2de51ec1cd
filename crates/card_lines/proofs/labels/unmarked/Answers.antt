-- `card_lines::labels::unmarked` meets its contract: the library's `strip_prefix`, or the whole text. Assumes nothing.
use Rattle.std.proofs.Common.{refl}
use Rattle.card_lines.proofs.Labelling.{without_mark}
use Rattle.card_lines.proofs.labels.unmarked.Goals as goal

pub returns : goal.returns
returns c = without_mark _ _ c.strip_prefix.result _ _ c.args.text.now c.unwrap_or.ensures refl c.strip_prefix.ensures.cases
