-- `plate_board::writer::write` meets its contract, check by check. Assumes nothing.
use mathlib.Core.Path.{sym, ap, ◌∙◌}
use mathlib.Core.Logic.{⊎_elim}
use mathlib.Core.List.{List}
use Prim.Native.Nat.{ℕ}
use native.Mathlib.Omega.{arith}
use borrow.Author.Tests.{ltb-false}
use lib.Ieee.{of_bits}
use Rattle.records.specs.Write.{write_board}
use Rattle.plate_board.specs.Plate.{plate_card}
use Rattle.plate_board.proofs.Written.{answer_of, bytes_of, size_in, size_out, wrong_size, wrong_mix, wrong_length, written}
use Rattle.plate_board.proofs.writer.write.Goals as goal

pub returns-then-n-lt1 : goal.returns-then-n-lt1
returns-then-n-lt1 c =
    let start = c.args in
    let b = start.board.now in
    let out = size_out start.n (λ l m. ⊎_elim (λ w. omega arith) (λ w. omega arith) c.then-n-lt1.either) in
    let e = wrong_size start.n start.mix b out in
    record { answered = c.new.ensures ∙ sym (ap answer_of e); bytes = sym (ap bytes_of e) }

pub returns-then-not-finite : goal.returns-then-not-finite
returns-then-not-finite c =
    let start = c.args in
    let b = start.board.now in
    let e = wrong_mix start.n start.mix b (size_in start.n (omega arith) (omega (arith, ltb-false))) (sym c.finite.ensures ∙ c.if-not-finite.true) in
    record { answered = c.new-then-not-finite.ensures ∙ sym (ap answer_of e); bytes = sym (ap bytes_of e) }

pub returns-then-board-ne-LENGTH : goal.returns-then-board-ne-LENGTH
returns-then-board-ne-LENGTH c =
    let start = c.args in
    let b = start.board.now in
    let size = size_in start.n (omega arith) (omega (arith, ltb-false)) in
    let e = wrong_length start.n start.mix b size (sym c.finite.ensures ∙ c.if-not-finite.false) c.if-board-ne-LENGTH.true in
    record { answered = c.new-then-board-ne-LENGTH.ensures ∙ sym (ap answer_of e); bytes = sym (ap bytes_of e) }

pub returns : goal.returns
unfolding of_bits
returns c =
    let start = c.args in
    let b = start.board.now in
    let size = size_in start.n (omega arith) (omega (arith, ltb-false)) in
    let e = written start.n start.mix b size (sym c.finite.ensures ∙ c.if-not-finite.false) (omega arith) in
    let bits : (mix dry : ℕ) → List ℕ = λ mix dry. write_board (plate_card start.n mix dry) in
    record {
      answered = c.new-2.ensures ∙ sym (ap answer_of e);
      bytes = c.put_plate.ensures ∙ (λ i. bits (c.to_bits.ensures i) (c.to_bits-2.ensures i)) ∙ sym (ap bytes_of e);
    }
