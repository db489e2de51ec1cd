-- What the rig writes, from the claim about its calls on the printed board.
--     rig_accepted     each of its blocks answers 0
--     rig_read         its bytes are what the reading by samples says
--     rig_any_order    and what every other order gives that puts the source first on exactly the same wires
-- Assumes nothing.
use Prim.Native.Nat.{ℕ}
use mathlib.Core.Path.{◌≡◌, sym, ap, ◌∙◌, subst}
use mathlib.Core.List.{List, map}
use lib.Dec.{lit<}
use lib.ListN.{replicate}
use Rattle.values.specs.Words.{Bytes}
use Rattle.leaves.specs.Noise.{default_start}
use Rattle.kinds.specs.Rule.{Frame}
use Rattle.kinds.specs.History.{Heard}
use Rattle.reading.specs.Order.{Reorders}
use Rattle.reading.specs.Time.{Timed}
use Rattle.reading.specs.Calls.{replies}
use Rattle.records.proofs.RoundBytes.{board_bytes}
use Rattle.boards.specs.Board.{Parsed}
use Rattle.boards.specs.JudgeCases.{printed}
use Rattle.boards.specs.Walks.{feedback}
use Rattle.memory.specs.Memory.{passed, listed}
use Rattle.memory.specs.Calls.{fresh_of}
use Rattle.samples.specs.Reading.{Call, IsReading, accepted, replies_to}
use Rattle.samples.specs.Claim.{call_in, fresh_memory, Claim}
use Rattle.samples.specs.Burst.{burst, output_bytes}
use Rattle.samples.proofs.Burst.{burst_accepted}
use Rattle.samples.proofs.Demand.{board_claim, own_order}
use Rattle.samples.proofs.DemandWorked.{feedback-fresh}
use Rattle.samples.proofs.Trials.{board, trials}
use Rattle.records.specs.declared.answer.Answer.{Answer}
use Rattle.rig.specs.Rig.{fresh, rig_replies, rig_bytes}

small : Bytes printed
small = subst Bytes trials.written (board_bytes feedback)

own : Reorders board.wires (listed board) (listed board)
own = own_order printed small board trials.read

fresh_is : fresh ≡ fresh_memory board
fresh_is =
    ap (λ (bytes : List ℕ). (fresh_of bytes (replicate 112 0)).1) (sym trials.written)
    ∙ ap (λ (r : Answer × List ℕ). r.1) feedback-fresh

pub rig_accepted : map (λ d. d.answer) (rig_replies 4 default_start fresh) ≡ replicate 4 passed
rig_accepted =
    ap (λ (m : List ℕ). map (λ d. d.answer) (rig_replies 4 default_start m)) fresh_is
    ∙ burst_accepted printed small board trials.read 4 default_start (lit< tt) listed own

abbrev calls : List Call
calls = burst 2 4 default_start

claim : Claim printed board calls
claim = board_claim printed small board trials.read calls

any_order : (s : Timed Frame) (u : Timed Heard) → IsReading board (accepted board calls) s u
    → (order : Parsed → List ℕ) → Reorders board.wires (listed board) (order board)
    → output_bytes (replies (call_in order printed) calls fresh) ≡ output_bytes (replies_to board s 0 calls)
any_order s u r order fit =
    ap output_bytes
    (ap (replies (call_in order printed) calls) fresh_is ∙ (claim.as_read s u r order fit).replies)

pub rig_read : (s : Timed Frame) (u : Timed Heard) → IsReading board (accepted board calls) s u → rig_bytes ≡ output_bytes (replies_to board s 0 calls)
rig_read s u r = any_order s u r listed own

pub rig_any_order : (order : Parsed → List ℕ) → Reorders board.wires (listed board) (order board)
    → output_bytes (replies (call_in order printed) calls fresh) ≡ rig_bytes
rig_any_order order fit =
    any_order claim.samples claim.known claim.reads order fit
    ∙ sym (rig_read claim.samples claim.known claim.reads)
