-- Document 01's trial values, those marked P and the limits named with them, under one statement. All that is said of the printed board is said
-- of one list of bytes, `printed`, which is also what the program `order` is run on. Assumes nothing.
use mathlib.Core.Path.{◌≡◌, refl, sym, ap, ◌∙◌, subst}
use mathlib.Core.List.{List, [], ◌∷◌}
use Prim.Native.Nat.{ℕ}
use lib.Ieee.{of_bits}
use lib.ListN.{set, replicate}
use Rattle.leaves.specs.Worked.{Worked, worked}
use Rattle.kinds.specs.Kind.{rule_of}
use Rattle.reading.specs.Calls.{replies}
use Rattle.records.specs.Answer.{answer}
use Rattle.records.specs.Record.{found_of, found_at}
use Rattle.sources.specs.Sources.{distinct}
use Rattle.boards.specs.Board.{Parsed, whole, take_found, step_of, run, read_records}
use Rattle.reading.specs.Order.{wire}
use Rattle.boards.specs.Judge.{check_sources, read_board, judge_of}
use Rattle.boards.specs.JudgeCases.{printed, printed_judged, printed_129, printed_self}
use Rattle.graph.specs.Late.{late_wires}
use Rattle.graph.specs.VisitCases.{printed_list_lem, printed-late}
use Rattle.boards.specs.Walks.{feedback}
use Rattle.boards.specs.Obeys.{as_read}
use Rattle.records.specs.Write.{write_board}
use Rattle.records.specs.declared.answer.Answer.{Answer}
use Rattle.boards.proofs.RoundWorked.{feedback-written}
use Rattle.memory.specs.Calls.{fresh_of}
use Rattle.memory.specs.Memory.{listed}
use Rattle.samples.specs.Claim.{call_in}
use Rattle.samples.proofs.DemandWorked.{three, ahead, quiet, half, said, reads, feedback-fresh, feedback_blocks}

-- the printed board, as it is read
abbrev pub board : Parsed
board = as_read feedback

pub record Trials : Type 0 where
  -- P: the sine at five phases, the lengths of five times
  pub leaves : Worked
  -- P: the board above, N 2 and input 1, its five nodes and five wires: its bytes, and what is read of them
  pub written : write_board feedback ≡ printed
  pub read : read_board printed ≡ whole board
  -- P: its list and its late wire
  pub list : listed board ≡ 1 ∷ 4 ∷ 2 ∷ 3 ∷ 0 ∷ []
  pub late : late_wires (listed board) board.wires ≡ wire 3 4 ∷ []
  -- P: its three blocks from fresh memory, (1, 0), (0, 0), (0, 0) in and (0, 1), (0, 0), (0.5, 0) out on both channels
  pub fresh : (fresh_of printed (replicate 112 0)).0 ≡ answer 0 0
  pub blocks : replies (call_in listed printed) three (fresh_of printed (replicate 112 0)).1 ≡ said ahead ∷ said quiet ∷ said half ∷ []
  -- it is accepted, with N 128 too; with N 129, or its first wire from node 2 to itself, it is not
  pub accepted : judge_of printed ≡ answer 0 112
  pub size_128 : judge_of (set printed 4 128) ≡ answer 0 3136
  pub size_129 : judge_of (set printed 4 129) ≡ answer 3 0
  pub self_wire : judge_of (set printed 82 2) ≡ answer 5 78

at_128 : judge_of (set printed 4 128) ≡ answer 0 3136
unfolding judge_of read_board read_records run step_of take_found found_at found_of rule_of of_bits check_sources distinct
at_128 = refl

-- what the fresh call answers and leaves
abbrev left : List ℕ → Answer × List ℕ
left bytes = fresh_of bytes (replicate 112 0)

pub trials : Trials
trials =
    record {
      leaves = worked;
      written = feedback-written;
      read = ap read_board (sym feedback-written) ∙ reads;
      list = printed_list_lem;
      late = ap (λ (l : List ℕ). late_wires l board.wires) printed_list_lem ∙ printed-late;
      fresh = ap (λ (bytes : List ℕ). (left bytes).0) (sym feedback-written) ∙ ap (λ (r : Answer × List ℕ). r.0) feedback-fresh;
      blocks = subst (λ (bytes : List ℕ). replies (call_in listed bytes) three (left bytes).1 ≡ said ahead ∷ said quiet ∷ said half ∷ []) feedback-written
          (ap (λ (r : Answer × List ℕ). replies (call_in listed (write_board feedback)) three r.1) feedback-fresh ∙ feedback_blocks);
      accepted = printed_judged;
      size_128 = at_128;
      size_129 = printed_129;
      self_wire = printed_self;
    }
