-- `wiring::rewire::pull_wire` meets its contract: everything is judged, and then the bytes are closed up. Assumes nothing.
use Prim.Native.Nat.{ℕ, ◌+◌, min}
use mathlib.Core.Path.{◌≡◌, sym, ap, ◌∙◌}
use mathlib.Core.List.{List}
use native.Mathlib.Nat.{add-zero}
use native.Mathlib.Omega.{arith}
use borrow.Author.Tests.{lt-ltb, le-ltb}
use lib.ListN.{length, take}
use Rattle.wiring.specs.Rewire.{refusal, in_front, pulled_board, pull_of}
use Rattle.wiring.specs.declared.rewire.Wiring.{Wiring}
use Rattle.wiring.proofs.Answered.{lent_short, lent_done, lent_kept}
use Rattle.wiring.proofs.rewire.pull_wire.Goals as goal

pub returns-then-bytes-n : goal.returns-then-bytes-n
unfolding pull_of
returns-then-bytes-n c =
    let a = c.args in
    let none : a.n + 0 ≡ a.n = add-zero a.n in
    let short = lent_short a.bytes.now a.n (pulled_board a.source a.target (take a.n a.bytes.now)) (lt-ltb (length a.bytes.now) a.n c.if-bytes-n.true) in
    record {
      answered = c.no_room.ensures ∙ ap (λ (m : ℕ). refusal 15 (min m 4294967295)) none ∙ sym (ap (λ (d : Wiring × List ℕ). d.0) short);
      bytes = sym (ap (λ (d : Wiring × List ℕ). d.1) short);
    }

pub returns-in-Ok : goal.returns-in-Ok
unfolding pull_of
returns-in-Ok c =
    let a = c.args in
    let pull = c.in-Ok.ensures in
    let done = lent_done a.bytes.now a.n (pulled_board a.source a.target (take a.n a.bytes.now))
    (le-ltb (length a.bytes.now) a.n c.if-bytes-n.false) (sym (ap (λ (r : Wiring). r.number) pull.0)) in
    record {
      answered = c.listing.ensures ∙ pull.0 ∙ sym (ap (λ (d : Wiring × List ℕ). d.0) done);
      bytes =
          c.close_bytes.ensures
          ∙ sym (ap (λ (d : Wiring × List ℕ). d.1) done ∙ ap (λ (l : List ℕ). in_front l a.bytes.now) pull.2);
    }

pub returns-in-Err : goal.returns-in-Err
unfolding pull_of
returns-in-Err c =
    let a = c.args in
    let e = c.in-Err.ensures in
    let kept = lent_kept a.bytes.now a.n (pulled_board a.source a.target (take a.n a.bytes.now))
    (le-ltb (length a.bytes.now) a.n c.if-bytes-n.false) (λ z. omega (arith, e.0, ap (λ (r : Wiring). r.number) e.1, z)) in
    record { answered = c.from.ensures ∙ e.1 ∙ sym (ap (λ (d : Wiring × List ℕ). d.0) kept); bytes = sym (ap (λ (d : Wiring × List ℕ). d.1) kept) }
