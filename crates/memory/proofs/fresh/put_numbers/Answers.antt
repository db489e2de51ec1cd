-- `memory::fresh::put_numbers` meets its contract. What is left to store gives what all of it gives from the start. Assumes nothing.
use Prim.Native.Nat.{◌+◌}
use mathlib.Core.Path.{◌≡◌, sym, ap, ◌∙◌}
use native.Mathlib.Omega.{arith}
use lib.ListN.{drop}
use Rattle.memory.specs.Memory.{node_in}
use Rattle.values.specs.Words.{words}
use Rattle.values.specs.Floats.{set_float}
use Rattle.kinds.specs.Kind.{number_index}
use Rattle.kinds.specs.Cell.{number_of}
use Rattle.memory.specs.Stages.{put_numbers}
use Rattle.memory.proofs.CallFresh.{numbers_next, numbers_end}
use Rattle.memory.proofs.fresh.put_numbers.Goals as goal

pub store-requires : goal.store-requires
store-requires c =
    let at = c.loop-node in
    omega (arith, c.requires at.node-index c.loop-node-test.true)

pub loop-node-preserved : goal.loop-node-preserved
loop-node-preserved c =
    let at = c.loop-node in
    let node = node_in c.args.nodes.now at.node-index in
    let stored : words c.store.new.mem ≡ set_float (words at.memory) (node.cell + number_index) (number_of node.kind) =
    c.store.ensures ∙ ap (set_float (words at.memory) (node.cell + number_index)) c.number_of.ensures in (
      c.store.auto.mem ∙ at.invariant.0,
      ap (put_numbers (drop (at.node-index + 1) c.args.nodes.now)) stored
          ∙ numbers_next c.args.nodes.now (words at.memory) at.node-index c.loop-node-test.true ∙ at.invariant.1,
    )

pub returns : goal.returns
returns c =
    let at = c.loop-node in
    sym (numbers_end c.args.nodes.now (words at.memory) at.node-index c.loop-node-test.false) ∙ at.invariant.1
