-- `cards::board::Written::add_head` meets its contract: the head, where nothing is written yet. Assumes nothing.
use mathlib.Core.Path.{sym, ap, ◌∙◌}
use native.Mathlib.Omega.{arith}
use Prim.Native.Nat.{ℕ}
use lib.Seq.{sets}
use borrow.Author.Tests.{eq-eqb, ne_eqb}
use Rattle.records.specs.Write.{head_bytes}
use Rattle.cards.proofs.Making.{refuses}
use Rattle.cards.proofs.board.Written.add_head.Goals as goal

pub returns-then-self-ne0 : goal.returns-then-self-ne0
returns-then-self-ne0 c = refuses (rw (ne_eqb _ 0 c.if-self-ne0.true))

pub returns : goal.returns
returns c =
    let a = c.args in
    let none = c.if-self-ne0.false in
    record {
      steps = rw (eq-eqb _ 0 none);
      room = record { few_nodes = omega arith; few_wires = omega arith; sum = omega arith };
      grown = omega arith;
      puts = rw (eq-eqb _ 0 none) (c.put_head.ensures ∙ ap (λ (n : ℕ). sets a.out.now n (head_bytes a.size a.input)) (sym none));
    }
