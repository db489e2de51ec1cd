-- `card_lines::names::named` meets its contract: the library's `find`. Assumes nothing.
use Rattle.std.proofs.Common.{◌≡◌, refl, sym, ◌∙◌, rules, tests}
use Rattle.std.specs.Prelude.{Option, Some, None, option_map}
use Rattle.std.proofs.lemmas.Iterator.{YieldsList-from_slice}
use Rattle.std.proofs.lemmas.Iterator.Consumers.{YieldsList-from_copied}
use Rattle.std.proofs.lemmas.Iterator.Search.{find_from_yields_List}
use Rattle.card_lines.specs.Names.{named, names, is_named}
use Rattle.card_lines.proofs.Naming.{no_word}
use Rattle.card_lines.proofs.names.named.Goals as goal

-- what is found is told as it is
same : {A : Type 0} (r : Option A) → r ≡ option_map (λ x. x) r
same None = refl
same (Some x) = refl

pub returns-then-is_empty : goal.returns-then-is_empty
returns-then-is_empty c = sym (no_word c.args.word.now (sym c.is_empty.ensures ∙ c.if-is_empty.true))

pub returns : goal.returns
unfolding named
returns c =
    same c.find.result
    ∙ find_from_yields_List (is_named c.args.word.now) _ _ c.find.result c.find.ensures.ran (YieldsList-from_copied (YieldsList-from_slice names cc)) (λ x b q k. search (rules, tests))
