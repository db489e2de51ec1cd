-- `text::words::find` meets its contract: what `position` finds is as far on as is ahead. Assumes nothing.
use mathlib.Core.Path.{◌∙◌}
use native.Mathlib.Omega.{arith}
use lib.ListN.{drop, length-drop}
use Rattle.std.proofs.lemmas.List.{take_all}
use Rattle.std.proofs.lemmas.Iterator.{YieldsList-from_slice}
use Rattle.std.proofs.lemmas.Iterator.Search.{position_from_yields_List}
use borrow.Author.Rules.{rules}
use Rattle.text.proofs.Finding.{found_at}
use Rattle.text.proofs.words.find.Goals as goal

pub returns-clause-first : goal.returns-clause-first
returns-clause-first g c p t =
    let a = c.args in
    let rest = drop a.at a.s.now in
    let items = YieldsList-from_slice rest (c.iter.ensures.rest ∙ take_all _ rest (omega (arith, length-drop a.at a.s.now))) in
    found_at p rest _ a.at _ _ _ (position_from_yields_List p _ _ _ c.position.ensures.ran items (λ x b q k. search (rules, t))) (omega (arith, length-drop a.at a.s.now, c.requires.bounds)) c.map_or.ensures (λ k m. search rules)
