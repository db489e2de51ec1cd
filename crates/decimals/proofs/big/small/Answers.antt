-- `decimals::big::small` meets its contract: one word, and 15 that are 0. Assumes nothing.
use native.Mathlib.Nat.{add-zero, zero-add, mul-one}
use Rattle.decimals.specs.Big.{lowest}
use Rattle.decimals.proofs.big.small.Goals as goal

pub returns : goal.returns
unfolding lowest
returns c = simp (add-zero, zero-add, mul-one)
