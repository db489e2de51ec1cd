-- `input::room` meets its contract. Assumes nothing.
use Rattle.std.proofs.Common.{sym}
use lib.ListN.{length-replicate}
use Rattle.input.proofs.room.Goals as goal

pub returns : goal.returns
returns g c = sym (length-replicate _ 0)
