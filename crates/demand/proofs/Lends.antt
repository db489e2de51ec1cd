-- What is lent plays, whatever is requested:
--     plays, plays_fine    a board with p's nodes that is read is fine
--     request_leaves       what an accepted change leaves plays
--     added_wires, pulled_wires    which wires it leaves
--     request_fits         the numbers that accepted requests set are in range
-- A new request has its case in `request_leaves` and `request_fits`. Assumes nothing.
use Prim.Native.Nat.{ℕ, ◌+◌, ◌-◌, ◌%◌}
use mathlib.Core.Path.{◌≡◌, refl, sym, ap, ◌∙◌}
use mathlib.Core.Bool.{Bool, true, false}
use mathlib.Core.List.{List}
use borrow.Author.Tests.{eqb-true}
use lib.Dec.{eqb}
use Rattle.values.specs.Words.{Bytes}
use Rattle.reading.specs.Table.{All}
use Rattle.reading.specs.Order.{Wire}
use Rattle.reading.specs.Board.{Leaves}
use Rattle.boards.specs.Board.{Parsed, whole}
use Rattle.boards.specs.Judge.{read_board}
use Rattle.boards.specs.BoardParts.{wired as with_wires}
use Rattle.records.proofs.RoundBytes.{bytes_front}
use Rattle.carrying.specs.Carried.{added, pulled}
use Rattle.wiring.specs.Rewire.{add_of, pull_of}
use Rattle.wiring.proofs.Changes.{added_leaves, pulled_leaves}
use Rattle.wiring.specs.declared.rewire.Wiring.{Wiring}
use Rattle.memory.specs.Fine.{Fine}
use Rattle.memory.proofs.FineBoard.{fine_board}
use Rattle.samples.proofs.ShownCall.{NumberFits, effects_fit, effects_leave}
use Rattle.demand.specs.Requests.{Lent, board_in, wires_read, wires_on, Request, call, add, pull, change_to, change_by, effects_of}
use Rattle.demand.specs.Instance.{Plays}

pub plays : (p : Parsed) (l : Lent) (ws : List Wire) → Bytes l.bytes → read_board (board_in l) ≡ whole (with_wires p ws) → Plays p l
plays p l ws b e = record { are_bytes = b; reads = e ∙ ap (λ (vs : List Wire). whole (with_wires p vs)) (sym (ap wires_read e)) }

module _ (p : Parsed) (l : Lent) (f : Plays p l) where
  pub board_bytes : Bytes (board_in l)
  board_bytes = bytes_front l.used l.bytes f.are_bytes

  pub plays_fine : Fine (with_wires p (wires_on l))
  plays_fine = fine_board (board_in l) board_bytes (with_wires p (wires_on l)) f.reads

-- ---- what a change leaves

change_leaves : (p : Parsed) (d : Wiring × List ℕ) (n : ℕ) → (d.0.number ≡ 0 → Plays p (record { bytes = d.1; used = n }))
    → All (Leaves (Plays p)) (change_by d n)
change_leaves p d n f = go (eqb d.0.number 0) refl
  where
    go : (b : Bool) → eqb d.0.number 0 ≡ b → All (Leaves (Plays p)) (change_to b (record { bytes = d.1; used = n }))
    go true e = (f (eqb-true d.0.number 0 e), tt)
    go false e = tt

pub request_leaves : (p : Parsed) (l : Lent) (c : Request) → Plays p l → All (Leaves (Plays p)) (effects_of p l c)
request_leaves p l (call c) f = effects_leave p (Plays p) c
request_leaves p l (add s t) f =
    change_leaves p (add_of l.bytes l.used s t) (l.used + 8)
    (λ z. let a = added_leaves l.bytes f.are_bytes l.used (with_wires p (wires_on l)) f.reads s t z in plays p _ _ a.are_bytes a.reads)
request_leaves p l (pull s t) f =
    change_leaves p (pull_of l.bytes l.used s t) (l.used - 8)
    (λ z. let a = pulled_leaves l.bytes f.are_bytes l.used (with_wires p (wires_on l)) f.reads s t z in plays p _ _ a.are_bytes a.reads)

-- its wires then: with the new one behind all others, or without the newest of those named
module _ (p : Parsed) (l : Lent) (f : Plays p l) (s t : ℕ) where
  pub added_wires : (add_of l.bytes l.used s t).0.number ≡ 0
      → wires_on (record { bytes = (add_of l.bytes l.used s t).1; used = l.used + 8 }) ≡ added (wires_on l) (s % 65536) (t % 65536)
  added_wires z = ap wires_read (added_leaves l.bytes f.are_bytes l.used (with_wires p (wires_on l)) f.reads s t z).reads

  pub pulled_wires : (pull_of l.bytes l.used s t).0.number ≡ 0
      → wires_on (record { bytes = (pull_of l.bytes l.used s t).1; used = l.used - 8 }) ≡ pulled (wires_on l) s t
  pulled_wires z = ap wires_read (pulled_leaves l.bytes f.are_bytes l.used (with_wires p (wires_on l)) f.reads s t z).reads

-- ---- numbers

change_fits : (p : Parsed) (d : Wiring × List ℕ) (n : ℕ) → All (NumberFits p) (change_by d n)
change_fits p d n = go (eqb d.0.number 0)
  where
    go : (b : Bool) → All (NumberFits p) (change_to b (record { bytes = d.1; used = n }))
    go true = (tt, tt)
    go false = tt

pub request_fits : (p : Parsed) (l : Lent) (c : Request) → Plays p l → All (NumberFits p) (effects_of p l c)
request_fits p l (call c) f = effects_fit Lent p c
request_fits p l (add s t) f = change_fits p (add_of l.bytes l.used s t) (l.used + 8)
request_fits p l (pull s t) f = change_fits p (pull_of l.bytes l.used s t) (l.used - 8)
