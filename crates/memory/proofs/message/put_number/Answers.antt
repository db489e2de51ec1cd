-- `memory::message::put_number` meets its contract: the number is stored in the node's cell. Assumes nothing.
use Prim.Native.Nat.{◌+◌}
use mathlib.Core.Path.{sym, ap, ◌∙◌}
use native.Mathlib.Omega.{arith}
use Rattle.values.specs.Words.{words}
use Rattle.values.specs.Floats.{set_float}
use Rattle.kinds.specs.Kind.{number_index}
use Rattle.kinds.specs.declared.kind.NodeRecord.{NodeRecord}
use Rattle.memory.proofs.CallCells.{node_in_lem, cells_fit}
use Rattle.memory.proofs.message.put_number.Goals as goal

pub store-requires : goal.store-requires
store-requires c =
    omega (arith, cells_fit c.args.board.now c.requires.fine c.args.k c.requires.k_lt_count, c.requires.memory_len)

pub returns : goal.returns
returns c =
    let b = c.args.board.now in
    let m = words c.args.memory.now in
    c.store.ensures
    ∙ ap (λ (r : NodeRecord). set_float m (r.cell + number_index) c.args.value) (sym (node_in_lem b c.args.k c.requires.k_lt_count))
