-- Demand 3 of document 01, undivided: for every board that the judge accepts and every list of calls, refused ones among them, what the calls
-- on its bytes answer, write and leave, from fresh memory, is what the reading by samples says, in the visiting list's order and in every other
-- that puts the source first on exactly the same wires.
--     demand          the theorem; board_claim, the same where what is read is at hand
--     message_value   a value of 32 bits is the value of its bits; so, message_call, every message call is a message of the claim
-- Assumes nothing.
use Prim.Native.Nat.{ℕ}
use mathlib.Core.Path.{◌≡◌, refl, sym, ap, ◌∙◌}
use mathlib.Core.Bool.{Bool, cond}
use mathlib.Core.List.{List, []}
use native.Mathlib.Omega.{arith}
use borrow.Author.Tests.{eq-eqb}
use lib.Dec.{T, eqb}
use lib.ListN.{length}
use lib.Ieee.{Float, binary32, fits, to_bits}
use lib.Ieee.Bits.{of_bits-to_bits}
use Rattle.values.specs.Words.{Bytes, unwords}
use Rattle.kinds.specs.Rule.{Frame}
use Rattle.kinds.specs.History.{Heard}
use Rattle.reading.specs.Order.{Reorders}
use Rattle.reading.specs.Visit.{start}
use Rattle.reading.specs.Calls.{replies, after_calls}
use Rattle.reading.specs.Effect.{Effect}
use Rattle.reading.specs.Time.{Timed}
use Rattle.reading.specs.Memory.{KeepsPromise}
use Rattle.reading.proofs.Order.{reorders_self}
use Rattle.records.specs.Answer.{answer}
use Rattle.boards.specs.Board.{Parsed, Progress, going, refused, whole, memory_length}
use Rattle.boards.specs.Judge.{read_board, answer_by, judge_of}
use Rattle.memory.specs.Memory.{kind_at, passed, fresh_values, listed}
use Rattle.memory.specs.Calls.{check_length, change_by, fresh_of, message_of}
use Rattle.samples.specs.Reading.{Call, message, value_of, Fixed, effects, accepted, IsReading, reply_to}
use Rattle.samples.specs.Claim.{call_in, fresh_memory, AsRead, Claim, Demand}
use Rattle.samples.specs.Instance.{memory_with, Held, fresh_cells, memory_of}
use Rattle.memory.specs.Fine.{Fine}
use Rattle.records.specs.declared.answer.Answer.{Answer}
use Rattle.boards.proofs.Ending.{Ended, board_ends}
use Rattle.memory.proofs.FineBoard.{fine_board, lists}
use Rattle.samples.proofs.Lawful.{net_orderly, Setting, board_of}
use Rattle.samples.proofs.ShownBlock.{reordered}
use Rattle.samples.proofs.ShownCall.{effects_fit, effects_leave, call_shown}
use Rattle.samples.proofs.ShownFresh.{fresh_shown}
use Rattle.samples.proofs.DemandOn as theorem
use Rattle.samples.proofs.DemandReading as reading
use Rattle.samples.proofs.DemandAfter.{accepted-whole, memory_shown, replies_same, replies_shown}

-- ---- the claim about a list of calls

module _ (bytes : List ℕ) (p : Parsed) (reads : read_board bytes ≡ whole p) (fine : Fine p) (cs : List Call) where
  -- there is one wiring, and the calls leave it
  abbrev stays : Setting Call Fixed p
  stays = record {
    first = tt;
    wires = λ w. p.wires;
    does = λ w c. effects p c;
    Ok = λ w. Unit {0};
    fine = λ w h. fine;
    start = tt;
    leaves = λ w c h. effects_leave p (λ v. Unit {0}) c;
    in_range = λ w c h. effects_fit Fixed p c;
  }

  abbrev es : List (Effect Fixed ℕ ℕ)
  es = accepted p cs

  module _ (s : Timed Frame) (u : Timed Heard) (r : IsReading p es s u)
      (order : Parsed → List ℕ) (fit : Reorders p.wires (listed p) (order p)) where
    abbrev full : Timed Frame
    full = reading.whole p fine es s

    promise : KeepsPromise (board_of p stays) (memory_with p stays.wires) stays.Ok (λ k. Held (kind_at p k)) (λ w. order p) (λ m. memory_of p m.1)
        (λ w c fs. reply_to p c fs) (call_in order bytes)
    promise c w m h kept =
        call_shown p tt stays.wires stays.does order bytes w reads fine (reordered p fine (order p) fit) m
        (λ k. record { samples = kept.size k; line = (kept.state k).long }) kept.state c

    as_read : AsRead bytes p cs s u order
    as_read =
        let main = theorem.as_read p stays cs order (λ w h. fit) (λ m. memory_of p m.1) (λ w c fs. reply_to p c fs) (call_in order bytes) promise full
        (reading.before p fine es s u) (reading.with_others p fine es s u r) in
        let fresh : fresh_memory p ≡ memory_of p (fresh_cells p) = ap unwords (fresh_shown p) in
        record {
          replies = ap (replies (call_in order bytes) cs) fresh
              ∙ main.0
              ∙ replies_shown p full cs tt 0
              ∙ replies_same p full s (λ t. reading.whole_reached p fine es s t 0 ((lists p fine).all 0 start)) cs 0;
          memory = ap (after_calls (call_in order bytes) cs) fresh ∙ main.1 ∙ memory_shown p fine es s u r (accepted-whole p cs);
        }

  claim_fine : Claim bytes p cs
  claim_fine = record {
    samples = theorem.samples p stays cs;
    known = theorem.known p stays cs;
    reads = reading.on_reached p es (theorem.samples p stays cs) (theorem.known p stays cs) (theorem.there_is p stays cs);
    as_read = as_read;
  }

-- ---- the theorem

-- of a board that is read as p
pub board_claim : (bytes : List ℕ) → Bytes bytes → (p : Parsed) → read_board bytes ≡ whole p → (cs : List Call) → Claim bytes p cs
board_claim bytes b p e cs = claim_fine bytes p e (fine_board bytes b p e) cs

pub own_order : (bytes : List ℕ) → Bytes bytes → (p : Parsed) → read_board bytes ≡ whole p → Reorders p.wires (listed p) (listed p)
own_order bytes b p e = reorders_self p.wires (listed p) (net_orderly p (fine_board bytes b p e)).once

-- the fresh call on memory of the right length
pub fresh_call : (bytes : List ℕ) (p : Parsed) → read_board bytes ≡ whole p → (m : List ℕ) → length m ≡ memory_length p
    → fresh_of bytes m ≡ (answer 0 0, fresh_memory p)
unfolding fresh_of
fresh_call bytes p e m h =
    ap (change_by m (λ q. check_length q m) fresh_values) e
    ∙ ap (λ (b : Bool). told (cond b passed (answer 7 (memory_length p)))) (eq-eqb (length m) (memory_length p) h)
  where
    told : Answer → Answer × List ℕ
    told a = cond (eqb a.number 0) (passed, fresh_memory p) (a, m)

-- of every board that the judge accepts
pub demand : (board : List ℕ) → Bytes board → (judge_of board).number ≡ 0 → Demand board
unfolding judge_of
demand board b = go (read_board board) refl (board_ends board)
  where
    go : (r : Progress) → read_board board ≡ r → Ended r → (answer_by memory_length r).number ≡ 0 → Demand board
    go (going at last p) e n z = absurd (omega arith)
    go (refused k w) e n z = absurd (omega arith)
    go (whole p) e n z = record {
      parsed = p;
      reads = e;
      fresh = fresh_call board p e;
      own = own_order board b p e;
      claim = board_claim board b p e;
    }

-- ---- every message call is a message of the claim

-- a value of 32 bits is the value of its bits
pub message_value : (x : Float) → T (fits binary32 x) → x ≡ value_of (to_bits binary32 x)
message_value x f = sym (of_bits-to_bits binary32 x f)

pub message_call : (order : Parsed → List ℕ) (board m : List ℕ) (k : ℕ) (x : Float) → T (fits binary32 x)
    → call_in order board (message k (to_bits binary32 x)) m
    ≡ ((message_of board m k x).1, record { answer = (message_of board m k x).0; left = []; right = [] })
message_call order board m k x f =
    ap (λ (y : Float). ((message_of board m k y).1, record { answer = (message_of board m k y).0; left = []; right = [] })) (sym (message_value x f))
