-- `sources::sources::Sources::none` meets its contract. Assumes nothing.
use Rattle.sources.proofs.Tabling.{tabled_none}
use Rattle.sources.proofs.sources.Sources.none.Goals as goal

pub returns : goal.returns
returns c = tabled_none
