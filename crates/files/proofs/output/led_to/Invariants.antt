-- `files::output::led_to`: the name lies within its room.
use Rattle.std.proofs.Common.{◌≤◌, length}
use Rattle.files.proofs.output.led_to.Given as goal

abbrev pub invariant-loop : goal.invariant-loop
invariant-loop g l = l.n ≤ length l.name
