-- `memory::open::judged` meets its contract: an opened board is held to its cells. Assumes nothing.
use mathlib.Core.Path.{ap, ◌∙◌}
use mathlib.Core.List.{List}
use native.Mathlib.Omega.{arith}
use Rattle.values.specs.Words.{words}
use Rattle.kinds.specs.declared.kind.NodeRecord.{NodeRecord}
use Rattle.records.specs.Answer.{checked}
use Rattle.memory.specs.Memory.{check_cells}
use Rattle.memory.specs.Calls.{check_values}
use Rattle.memory.proofs.CallBy.{held_passed}
use Rattle.memory.proofs.CallCells.{count_nodes, cells_in}
use Rattle.memory.proofs.open.judged.Goals as goal

pub cells_judged-requires : goal.cells_judged-requires
cells_judged-requires c =
    let b = c.in_ok-board.board in
    let opened = c.in_ok-board.ensures in
    rw c.listed.ensures (omega (arith, count_nodes b, b.few), cells_in b opened.fine c.args.memory.now opened.long)

pub returns : goal.returns
returns c =
    let b = c.in_ok-board.board in
    let opened = c.in_ok-board.ensures in
    record {
      reading = held_passed (λ p. check_values p c.args.memory.now) opened.reading (c.in_ok-cells_judged.ensures ∙ ap (λ (l : List NodeRecord). checked (check_cells (words c.args.memory.now) 0 l)) c.listed.ensures);
      fine = opened.fine;
      table = opened.table;
      long = opened.long;
    }
