-- `wiring::rewire::add_wire` meets its contract: everything is judged, and then the wire is written. Assumes nothing.
use Prim.Native.Nat.{ℕ, ◌+◌, ◌≤◌}
use mathlib.Core.Path.{◌≡◌, refl, sym, ap, ◌∙◌}
use mathlib.Core.List.{List}
use native.Mathlib.Omega.{arith}
use borrow.Author.Rules.{rules}
use borrow.Author.Tests.{ltb-false}
use lib.ListN.{length, take}
use lib.Seq.{length-take-le}
use Rattle.values.specs.Words.{Bytes}
use Rattle.boards.specs.Board.{Parsed, whole}
use Rattle.boards.specs.Judge.{read_board}
use Rattle.records.proofs.RoundBytes.{bytes_front}
use Rattle.wiring.specs.Rewire.{in_front, added_board, add_of}
use Rattle.wiring.specs.declared.rewire.Wiring.{Wiring}
use Rattle.wiring.proofs.Answered.{added-accepted, added_whole, lent_short, lent_done, lent_kept}
use Rattle.wiring.proofs.Written.{read_long, read_ends, added_front}
use Rattle.wiring.proofs.rewire.add_wire.Goals as goal

-- where the answer is 0 the board is accepted
module _ (lent : List ℕ) (n x y : ℕ) (bytes : Bytes lent) (room : n + 8 ≤ length lent) {r : Wiring} (done : r ≡ (added_board x y (take n lent)).0) (zero : r.number ≡ 0) where
  small : Bytes (take n lent)
  small = bytes_front n lent bytes

  accepted : (p : Parsed) × (read_board (take n lent) ≡ whole p)
  accepted = added-accepted (take n lent) x y (sym (ap (λ (r : Wiring). r.number) done) ∙ zero)

  long : 4 ≤ n
  long = omega (arith, read_long (take n lent) small accepted.0 accepted.1, length-take-le n lent (omega arith))

pub returns-then-too_short : goal.returns-then-too_short
unfolding add_of
returns-then-too_short c =
    let a = c.args in
    let short = lent_short a.bytes.now (a.n + 8) (added_board a.source a.target (take a.n a.bytes.now)) (sym c.too_short.ensures ∙ c.if-too_short.true) in
    record { answered = c.no_room.ensures ∙ sym (ap (λ (d : Wiring × List ℕ). d.0) short); bytes = sym (ap (λ (d : Wiring × List ℕ). d.1) short) }

pub overflow_sub-n : goal.overflow_sub-n
overflow_sub-n c =
    let a = c.args in
    let room = ltb-false (length a.bytes.now) (a.n + 8) (sym c.too_short.ensures ∙ c.if-too_short.false) in
    long a.bytes.now a.n a.source a.target (λ i. search rules) room c.in-Ok.ensures refl

pub put_last-requires : goal.put_last-requires
put_last-requires c =
    let a = c.args in
    let room = ltb-false (length a.bytes.now) (a.n + 8) (sym c.too_short.ensures ∙ c.if-too_short.false) in
    omega (arith, room, long a.bytes.now a.n a.source a.target (λ i. search rules) room c.in-Ok.ensures refl)

pub returns-in-Ok : goal.returns-in-Ok
unfolding add_of
returns-in-Ok c =
    let a = c.args in
    let lent = a.bytes.now in
    let board = take a.n lent in
    let x = a.source in
    let y = a.target in
    let bytes : Bytes lent = λ i. search rules in
    let room = ltb-false (length lent) (a.n + 8) (sym c.too_short.ensures ∙ c.if-too_short.false) in
    let p = accepted lent a.n x y bytes room c.in-Ok.ensures refl in
    let done = lent_done lent (a.n + 8) (added_board x y board) (sym c.too_short.ensures ∙ c.if-too_short.false) (sym (ap (λ (r : Wiring). r.number) c.in-Ok.ensures)) in
    record {
      answered = c.listing.ensures ∙ c.in-Ok.ensures ∙ sym (ap (λ (d : Wiring × List ℕ). d.0) done);
      bytes =
          c.put_last.ensures
          ∙ sym (ap (λ (d : Wiring × List ℕ). d.1) done
          ∙ ap (λ (d : Wiring × List ℕ). in_front d.1 lent) (added_whole board x y p.0 p.1)
          ∙ added_front lent a.n x y room (long lent a.n x y bytes room c.in-Ok.ensures refl) (read_ends board (bytes_front a.n lent bytes) p.0 p.1));
    }

pub returns-in-Err : goal.returns-in-Err
unfolding add_of
returns-in-Err c =
    let a = c.args in
    let e = c.in-Err.ensures in
    let kept = lent_kept a.bytes.now (a.n + 8) (added_board a.source a.target (take a.n a.bytes.now)) (sym c.too_short.ensures ∙ c.if-too_short.false)
    (λ z. omega (arith, e.0, ap (λ (r : Wiring). r.number) e.1, z)) in
    record { answered = c.from.ensures ∙ e.1 ∙ sym (ap (λ (d : Wiring × List ℕ). d.0) kept); bytes = sym (ap (λ (d : Wiring × List ℕ). d.1) kept) }
