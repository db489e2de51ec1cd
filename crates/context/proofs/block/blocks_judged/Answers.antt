-- `context::block::blocks_judged` meets its contract. The lengths decide, and then the samples. Assumes nothing.
use native.Mathlib.Omega.{arith}
use lib.ListN.{length}
use Rattle.context.proofs.BlockChecks.{sizes_accepted}
use Rattle.memory.proofs.CallChecks.{checked_passed, checked_then}
use Rattle.context.proofs.block.blocks_judged.Goals as goal

pub samples_judged-requires : goal.samples_judged-requires
samples_judged-requires c =
    let a = c.args in
    omega (arith, a.board.now.small, (sizes_accepted a.board.now.size (length a.input.now) a.left a.right (checked_passed _ c.in_ok-sizes_judged.ensures)).0)

pub returns : goal.returns
returns c = checked_then _ _ _ c.in_ok-sizes_judged.ensures c.samples_judged.ensures
