-- Demand 3 with changes: for bytes whose board the judge accepts, and every list of requests, refused ones among them, what they answer, write
-- and leave is what the reading by samples says, in the visiting lists' order and in every other that puts the source first on exactly the
-- same wires.
--     demand         the theorem; board_claim, the same where what is read is at hand
--     in_force       what is lent in every accepted block is a board with p's nodes; fine_in_force, so it is fine
--     own_order      the visiting lists are one choice of orders
-- Assumes nothing.
use Prim.Native.Nat.{ℕ}
use mathlib.Core.Path.{◌≡◌, refl, ap, ◌∙◌}
use mathlib.Core.List.{List}
use native.Mathlib.Omega.{arith}
use Rattle.values.specs.Words.{Bytes, unwords}
use Rattle.kinds.specs.Rule.{Frame}
use Rattle.kinds.specs.History.{Heard}
use Rattle.reading.specs.Effect.{wiring_in}
use Rattle.reading.specs.Time.{Timed}
use Rattle.reading.specs.Calls.{after_calls, replies}
use Rattle.boards.specs.Board.{Parsed, Progress, going, refused, whole, memory_length}
use Rattle.boards.specs.Judge.{read_board, answer_by, judge_of}
use Rattle.boards.specs.BoardParts.{wired as with_wires}
use Rattle.boards.proofs.Ending.{Ended, board_ends}
use Rattle.samples.specs.Claim.{fresh_memory}
use Rattle.memory.specs.Memory.{listed}
use Rattle.memory.specs.Fine.{Fine}
use Rattle.samples.specs.Instance.{fresh_cells}
use Rattle.samples.proofs.ShownFresh.{fresh_shown}
use Rattle.samples.proofs.Lawful.{Setting}
use Rattle.samples.proofs.DemandOn as theorem
use Rattle.samples.proofs.Demand.{fresh_call}
use Rattle.samples.proofs.Demand as without
use Rattle.demand.specs.Requests.{Lent, board_in, wires_on, Request, effects_of, said_to, requested, IsRewired}
use Rattle.demand.specs.Instance.{Plays}
use Rattle.demand.specs.Claim.{request_in, AsRewired, Orders, RewiredClaim, RewiredDemand}
use Rattle.demand.proofs.Lends.{plays, board_bytes, plays_fine, request_leaves, request_fits}
use Rattle.demand.proofs.Promise.{show, promise, said}

-- ---- the claim about a list of requests

module _ (p : Parsed) (l : Lent) (start : Plays p l) (cs : List Request) where
  -- what is lent is a wiring, and changes leave what plays
  abbrev lent : Setting Request Lent p
  lent = record {
    first = l;
    wires = wires_on;
    does = effects_of p;
    Ok = Plays p;
    fine = plays_fine p;
    start = start;
    leaves = request_leaves p;
    in_range = request_fits p;
  }

  pub in_force : (b : ℕ) → Plays p (wiring_in l (requested p l cs) b)
  in_force = theorem.in_force p lent cs

  pub fine_in_force : (b : ℕ) → Fine (with_wires p (wires_on (wiring_in l (requested p l cs) b)))
  fine_in_force b = plays_fine p (wiring_in l (requested p l cs) b) (in_force b)

  as_read : (s : Timed Frame) (u : Timed Heard) → IsRewired p l (requested p l cs) s u → (order : Parsed → List ℕ) → Orders p order
      → AsRewired p l cs s u order
  as_read s u r order fit =
      let main = theorem.as_read p lent cs order (λ w f. fit (board_in w) (board_bytes p w f) (wires_on w) f.reads) (show p l) (said_to p) (request_in order)
      (promise p l order fit) s u r in
      let fresh : (l, fresh_memory p) ≡ show p l (l, fresh_cells p) = λ i. (l, unwords (fresh_shown p i)) in
      record {
        replies = ap (replies (request_in order) cs) fresh ∙ main.0 ∙ said p l s cs l 0;
        left = ap (after_calls (request_in order) cs) fresh ∙ main.1;
      }

  claim : RewiredClaim p l cs
  claim = record { samples = theorem.samples p lent cs; known = theorem.known p lent cs; reads = theorem.there_is p lent cs; as_read = as_read }

-- ---- the theorem

-- of bytes whose board is read as p
pub board_claim : (l : Lent) → Bytes l.bytes → (p : Parsed) → read_board (board_in l) ≡ whole p → (cs : List Request) → RewiredClaim p l cs
board_claim l b p e cs = claim p l (plays p l p.wires b e) cs

-- the visiting lists are one choice of orders
pub own_order : (p : Parsed) → Orders p listed
own_order p board b ws e = without.own_order board b (with_wires p ws) e

-- of bytes whose board the judge accepts
pub demand : (l : Lent) → Bytes l.bytes → (judge_of (board_in l)).number ≡ 0 → RewiredDemand l
unfolding judge_of
demand l b = go (read_board (board_in l)) refl (board_ends (board_in l))
  where
    go : (r : Progress) → read_board (board_in l) ≡ r → Ended r → (answer_by memory_length r).number ≡ 0 → RewiredDemand l
    go (going at last p) e n z = absurd (omega arith)
    go (refused k w) e n z = absurd (omega arith)
    go (whole p) e n z = record {
      parsed = p;
      reads = e;
      fresh = fresh_call (board_in l) p e;
      own = own_order p;
      claim = board_claim l b p e;
    }
