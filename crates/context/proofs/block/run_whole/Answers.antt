-- `context::block::run_whole` meets its contract. The checks decide; then the input block is put, the listed nodes run, and node 0's two channels
-- are given. Assumes nothing.
use Prim.Native.Nat.{ℕ, ◌*◌}
use mathlib.Core.Path.{◌≡◌, sym, ap, ◌∙◌}
use mathlib.Core.List.{List}
use native.Mathlib.Omega.{arith}
use Rattle.std.proofs.Common.{rules}
use lib.ListN.{length, take}
use Rattle.std.specs.Prelude.{Ok, Err}
use Rattle.values.specs.Words.{words, Bytes}
use Rattle.running.specs.Run.{run_nodes}
use Rattle.context.specs.Block.{Outcome, check_blocks, check_samples, as_left, ran_block, block_in}
use Rattle.memory.specs.Calls.{and_then, check_memory, check_needed, check_values, call_by}
use Rattle.memory.specs.Memory.{listed, check_cells}
use Rattle.kinds.specs.declared.kind.NodeRecord.{NodeRecord}
use Rattle.boards.specs.Board.{Parsed}
use Rattle.boards.specs.BoardParts.{Refuses}
use Rattle.boards.specs.Judge.{read_board}
use Rattle.boards.specs.Read.{parsed_of, Read}
use Rattle.records.specs.Answer.{checked}
use Rattle.records.specs.declared.answer.Answer.{Answer}
use Rattle.boards.specs.declared.board.Board.{Board}
use Rattle.boards.proofs.Answers.{residual_is}
use Rattle.graph.proofs.Accepted.{table_at}
use Rattle.memory.proofs.FineBoard.{accepted_fine}
use Rattle.memory.proofs.CallBy.{call_refused, call_lacking, call_done}
use Rattle.memory.proofs.CallCells.{cell_in, count_nodes}
use Rattle.memory.proofs.CallChecks.{needed_long, then_both, then_assoc, checked_passed, checked_then, checked_first}
use Rattle.memory.proofs.CallLaws.{passed_judged}
use Rattle.running.proofs.CallRun.{starts_fit}
use Rattle.context.proofs.CallAccepted.{AcceptedRun}
use Rattle.context.proofs.CallAccepted as lent
use Rattle.context.proofs.CallBlock.{block_ran}
use Rattle.context.proofs.block.run_whole.Goals as goal

module _ (s m x l r : List ℕ) where
  -- ---- the call's own checks, and what it leaves

  abbrev found : Answer → Outcome
  found a = as_left a m l r

  abbrev own : Parsed → Answer
  own p = and_then (check_blocks p x l r) (check_samples 0 (words x))

  abbrev checks : Parsed → Answer
  checks p = check_memory p m (own p)

  abbrev done : Parsed → Outcome
  done p = ran_block p (listed p) x m

  -- a refused board
  refusal : (a : Answer) → Refuses (read_board s) a → found a ≡ call_by found checks done (read_board s)
  refusal a h = sym (call_refused found checks done (read_board s) a h)

  -- ---- a board that is read whole

  module _ (small : Bytes s) (b : Board) (read : Read (read_board s) (Ok b)) {nodes : List NodeRecord} (same : nodes ≡ take b.count b.nodes) where
    abbrev p : Parsed
    p = parsed_of b

    -- checks 7 and 8
    abbrev seven : Answer
    seven = check_needed (4 * b.values) (length m)

    abbrev memory : Answer
    memory = and_then seven (check_values p m)

    all : and_then memory (own p) ≡ checks p
    all =
        then_assoc seven (check_values p m) (own p)
        ∙ ap (λ (v : ℕ). and_then (check_needed (4 * v) (length m)) (and_then (check_values p m) (own p))) b.sum

    -- as the code judges them, on the board's nodes lent
    abbrev lent_memory : Answer
    lent_memory = and_then seven (check_cells (words m) 0 nodes)

    lent_whole : lent_memory ≡ memory
    lent_whole = ap (λ (l : List NodeRecord). and_then seven (check_cells (words m) 0 l)) same

    memory_refused : (a : Answer) → Err a ≡ checked lent_memory → found a ≡ call_by found checks done (read_board s)
    memory_refused a e = sym (call_lacking found checks done (read_board s) p read a (checked_first memory (own p) a (e ∙ ap checked lent_whole) ∙ ap checked all))

    module _ (judged : Ok tt ≡ checked lent_memory) where
      held : Ok tt ≡ checked memory
      held = judged ∙ ap checked lent_whole

      blocks_refused : (a : Answer) → Err a ≡ checked (own p) → found a ≡ call_by found checks done (read_board s)
      blocks_refused a e = sym (call_lacking found checks done (read_board s) p read a (checked_then memory (own p) (Err a) held e ∙ ap checked all))

      module _ (passes : Ok tt ≡ checked (own p)) where
        accepted : done p ≡ call_by found checks done (read_board s)
        accepted = sym (call_done found checks done (read_board s) p read (checked_then memory (own p) (Ok tt) held passes ∙ ap checked all))

        accepted_run : AcceptedRun m x l r b
        accepted_run =
            let both = then_both seven (check_values p m) (checked_passed memory held) in
            record {
              fine = accepted_fine s small b read;
              table = table_at s b read;
              long = needed_long _ _ both.0 ∙ ap (λ (v : ℕ). 4 * v) b.sum;
              judged = passed_judged p (words m) both.1;
              passes = checked_passed (own p) passes;
            }

pub returns-in_err-board : goal.returns-in_err-board
unfolding block_in
returns-in_err-board c =
    rw (residual_is _ _ c.from_residual.ensures.1)
    (refusal c.args.s.now c.args.memory.now c.args.input.now c.args.out0.now c.args.out1.now _ c.in_err-board.ensures)

pub memory_judged-requires : goal.memory_judged-requires
memory_judged-requires c =
    let b = c.in_ok-board.board in
    let fine = accepted_fine c.args.s.now (λ i. omega (arith, c.type_inv.s i)) b c.in_ok-board.ensures in
    rw c.listed-nodes.ensures (omega (arith, count_nodes b, b.few), b.small, b.held, starts_fit b fine, λ k h. omega (arith, cell_in (parsed_of b) fine k h, b.sum))

pub returns-in_err-memory_judged : goal.returns-in_err-memory_judged
unfolding block_in
returns-in_err-memory_judged c =
    rw (residual_is _ _ c.from_residual-in_err-memory_judged.ensures.1)
    (memory_refused c.args.s.now c.args.memory.now c.args.input.now c.args.out0.now c.args.out1.now (λ i. omega (arith, c.type_inv.s i))
    c.in_ok-board.board c.in_ok-board.ensures c.listed-nodes.ensures _ c.in_err-memory_judged.ensures.answered)

pub returns-in_err-blocks_judged : goal.returns-in_err-blocks_judged
unfolding block_in
returns-in_err-blocks_judged c =
    rw (residual_is _ _ c.from_residual-in_err-blocks_judged.ensures.1)
    (blocks_refused c.args.s.now c.args.memory.now c.args.input.now c.args.out0.now c.args.out1.now (λ i. omega (arith, c.type_inv.s i))
    c.in_ok-board.board c.in_ok-board.ensures c.listed-nodes.ensures c.in_ok-memory_judged.ensures.answered _ c.in_err-blocks_judged.ensures)

pub bounds-board-board : goal.bounds-board-board
bounds-board-board c =
    let fine = accepted_fine c.args.s.now (λ i. omega (arith, c.type_inv.s i)) c.in_ok-board.board c.in_ok-board.ensures in
    omega (arith, fine.input_there, count_nodes c.in_ok-board.board, c.in_ok-board.board.few)

pub put_input-requires : goal.put_input-requires
put_input-requires c =
    let run = accepted_run c.args.s.now c.args.memory.now c.args.input.now c.args.out0.now c.args.out1.now (λ i. omega (arith, c.type_inv.s i))
    c.in_ok-board.board c.in_ok-board.ensures c.listed-nodes.ensures c.in_ok-memory_judged.ensures.answered c.in_ok-blocks_judged.ensures in
    (omega (arith, (lent.checked run).input_long, lent.input_room run), omega (arith, lent.few_bytes run))

pub visiting_list-order-requires : goal.visiting_list-order-requires
visiting_list-order-requires c =
    let read = c.in_ok-board.ensures in
    lent.board_table c.in_ok-board.board (table_at c.args.s.now c.in_ok-board.board read)

pub run-requires : goal.run-requires
run-requires c =
    let run = accepted_run c.args.s.now c.args.memory.now c.args.input.now c.args.out0.now c.args.out1.now (λ i. omega (arith, c.type_inv.s i))
    c.in_ok-board.board c.in_ok-board.ensures c.listed-nodes.ensures c.in_ok-memory_judged.ensures.answered c.in_ok-blocks_judged.ensures in
    lent.input_runs run c.put_input.new.memory c.put_input.ensures _ (rw c.listed-nodes.ensures at c.in_ok-memory_judged.ensures.started) c.visiting_list-order.result
    (c.visiting_list-order.ensures _ (lent.board_gathered _ run.table))

pub give-requires : goal.give-requires
give-requires c =
    let run = accepted_run c.args.s.now c.args.memory.now c.args.input.now c.args.out0.now c.args.out1.now (λ i. omega (arith, c.type_inv.s i))
    c.in_ok-board.board c.in_ok-board.ensures c.listed-nodes.ensures c.in_ok-memory_judged.ensures.answered c.in_ok-blocks_judged.ensures in
    -- the memory's length stays
    let kept : length c.run.new.memory ≡ length c.args.memory.now = c.run.auto.memory ∙ c.put_input.auto.memory in
    let outs = lent.checked run in
    let few = run.fine.most_size in
    (omega (arith, lent.output_room run, kept, outs.left_long, outs.right_long), omega (arith, few, outs.left_long), omega (arith, few, outs.right_long))

pub returns : goal.returns
unfolding block_in
returns c =
    let s = c.args.s.now in
    let m = c.args.memory.now in
    let x = c.args.input.now in
    let l = c.args.out0.now in
    let r = c.args.out1.now in
    let small : Bytes s = λ i. omega (arith, c.type_inv.s i) in
    let held = c.in_ok-memory_judged.ensures.answered in
    let passes = c.in_ok-blocks_judged.ensures in
    let ready = accepted_run s m x l r small c.in_ok-board.board c.in_ok-board.ensures c.listed-nodes.ensures held passes in
    let p = parsed_of c.in_ok-board.board in
    let kept : length c.run.new.memory ≡ length m = c.run.auto.memory ∙ c.put_input.auto.memory in
    let ran = c.run.ensures ∙ ap (run_nodes p (listed p)) (lent.input_put ready c.put_input.new.memory c.put_input.ensures) in
    let given = c.give in
    block_ran ready c.run.new.memory (λ i. search rules) kept ran given.new.out0 given.new.out1
    (λ i. omega (arith, c.type_inv.out0 i)) (λ i. omega (arith, c.type_inv.out1 i)) given.ensures.0 given.ensures.1
    ∙ accepted s m x l r small c.in_ok-board.board c.in_ok-board.ensures c.listed-nodes.ensures held passes
