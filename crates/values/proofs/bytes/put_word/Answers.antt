-- `values::bytes::put_word` meets its contract: four stores of bytes are one store of a word. Assumes nothing.
use mathlib.Core.Path.{ap, ◌∙◌}
use lib.ListN.{set}
use Rattle.values.specs.Words.{words, words-set, word_split}
use Rattle.values.proofs.bytes.put_word.Goals as goal

pub returns : goal.returns
returns c =
    ap words c.put_u32.ensures ∙ words-set _ _ _ _ _ _ c.requires ∙ ap (set (words c.args.mem.now) c.args.k) (word_split c.args.v c.ranges.v.fits)
