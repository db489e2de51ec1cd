-- `values::bytes::word_at` meets its contract. Assumes nothing.
use mathlib.Core.Path.{sym, ◌∙◌}
use Rattle.values.specs.Words.{words_at}
use Rattle.values.proofs.bytes.word_at.Goals as goal

pub returns : goal.returns
returns c = c.u32_at.ensures ∙ sym (words_at _ _ c.requires)
