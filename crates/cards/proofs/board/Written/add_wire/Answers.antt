-- `cards::board::Written::add_wire` meets its contract: a wire behind the head. Assumes nothing.
use native.Mathlib.Omega.{arith}
use borrow.Author.Tests.{eq-eqb, ne_eqb}
use Rattle.cards.proofs.Making.{refuses}
use Rattle.cards.proofs.board.Written.add_wire.Goals as goal

pub returns-then-self-eq0 : goal.returns-then-self-eq0
returns-then-self-eq0 c = refuses (rw (eq-eqb _ 0 c.if-self-eq0.true))

pub returns-then-self-eq128 : goal.returns-then-self-eq128
returns-then-self-eq128 c = refuses (rw (ne_eqb _ 0 c.if-self-eq0.false, eq-eqb _ 128 c.if-self-eq128.true))

pub returns : goal.returns
returns c =
    let p = c.requires.1 in
    record {
      steps = rw (ne_eqb _ 0 c.if-self-eq0.false, ne_eqb _ 128 c.if-self-eq128.false);
      room = record { few_nodes = p.few_nodes; few_wires = omega arith; sum = omega (arith, p.sum) };
      grown = omega arith;
      puts = rw (ne_eqb _ 0 c.if-self-eq0.false, ne_eqb _ 128 c.if-self-eq128.false) c.put_wire.ensures;
    }
