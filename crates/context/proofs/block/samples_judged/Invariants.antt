use mathlib.Core.Path.{◌≡◌}
use lib.ListN.{drop}
use Rattle.values.specs.Words.{words}
use Rattle.context.specs.Block.{check_samples}
use Rattle.context.proofs.block.samples_judged.Given as goal

abbrev pub invariant-loop-i : goal.invariant-loop-i
invariant-loop-i l = check_samples l.i (drop l.i (words l.input)) ≡ check_samples 0 (words l.input)
