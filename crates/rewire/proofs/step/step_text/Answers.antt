-- `rewire::step::step_text` meets its contract: the answer's list is the visiting list of the changed board. Assumes nothing.
use mathlib.Core.Path.{◌≡◌, sym, ap, subst, ◌∙◌}
use mathlib.Core.List.{List}
use Prim.Native.Nat.{ℕ}
use borrow.Author.Tests.{eq-eqb, ne_eqb}
use lib.ListN.{take}
use Rattle.std.specs.Prelude.{Result, IfOk}
use Rattle.boards.specs.Judge.{read_board}
use Rattle.boards.specs.Read.{parsed_of, Read}
use Rattle.graph.specs.declared.graph.Order.{Order}
use Rattle.records.specs.declared.answer.Answer.{Answer}
use Rattle.wiring.specs.Rewire.{wiring, wiring_by}
use Rattle.wiring.specs.Rewiring.{Checked}
use Rattle.listing.specs.Text.{line, refused_word, order_text, text_of}
use Rattle.rewire.proofs.Answering.{list_same}
use Rattle.rewire.specs.Step.{step_text}
use Rattle.rewire.proofs.step.step_text.Goals as goal

pub returns-in-Err : goal.returns-in-Err
unfolding step_text
returns-in-Err c w k =
    let same = subst (Checked w) c.in-Err.is k in
    rw (ne_eqb w.number 0 same.0) (c.write_refused.ensures ∙ λ i. line refused_word (same.1 i) (same.2 i))

pub returns-in-Ok-read_board : goal.returns-in-Ok-read_board
unfolding step_text text_of
returns-in-Ok-read_board c w k =
    let s = c.args.s.now in
    let b = c.in-Ok-read_board.board in
    let read = subst (Read (read_board s)) c.in-Ok-read_board.is c.read_board.ensures in
    let listed : wiring 0 0 (take c.in-Ok.order.count c.in-Ok.order.nodes) ≡ wiring_by (read_board s) =
    subst (λ (r : Result Order Answer). IfOk r (λ o. wiring 0 0 (take o.count o.nodes) ≡ wiring_by (read_board s))) c.in-Ok.is c.requires in
    rw (eq-eqb w.number 0 (subst (Checked w) c.in-Ok.is k).0)
    (c.write_listed.ensures ∙ ap (λ (x : List ℕ). order_text x (parsed_of b).wires) (list_same _ _ (listed ∙ ap wiring_by read)) ∙ sym (ap text_of read))
