-- `rewire::run` is safe: the changes are made on a board that the judge accepts. Assumes nothing.
use borrow.Author.Rules.{rules}
use Rattle.rewire.proofs.Making.{judged_plays}
use Rattle.rewire.proofs.run.Goals as goal

pub show_changes-requires : goal.show_changes-requires
show_changes-requires g c = judged_plays _ _ (search rules) (search rules)
