-- `card_lines::labels::label_of` meets its contract: the library's `strip_suffix`. Assumes nothing.
use Rattle.std.proofs.Common.{arith}
use Rattle.std.proofs.lemmas.Grind.{common_steps}
use Rattle.card_lines.specs.Labels.{label_of}
use Rattle.card_lines.proofs.labels.label_of.Goals as goal

pub returns : goal.returns
unfolding label_of
returns c = grind (arith, common_steps)
