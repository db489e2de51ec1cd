-- `card_lines::labels::all_inner` meets its contract: the library's `all`. Assumes nothing.
use Rattle.std.proofs.Common.{◌∙◌, rules, tests}
use Rattle.std.proofs.lemmas.Iterator.{YieldsList-from_slice}
use Rattle.std.proofs.lemmas.Iterator.Search.{all_from_yields_List}
use Rattle.card_lines.specs.Labels.{is_inner}
use Rattle.card_lines.proofs.Labelling.{all_inside}
use Rattle.card_lines.proofs.labels.all_inner.Goals as goal

pub returns : goal.returns
returns c =
    all_from_yields_List is_inner _ _ c.all.result c.all.ensures.ran (YieldsList-from_slice c.args.name.now cc) (λ x b q k. search (rules, tests))
    ∙ all_inside c.args.name.now
