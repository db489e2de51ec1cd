-- `cards::board::Written::add_node` meets its contract: a node behind the head and before the wires. Assumes nothing.
use mathlib.Core.Path.{ap, ◌∙◌}
use Prim.Native.Nat.{ℕ}
use lib.Seq.{sets}
use native.Mathlib.Omega.{arith}
use Rattle.records.specs.Write.{node_bytes}
use borrow.Author.Tests.{eq-eqb, ne_eqb}
use Rattle.cards.proofs.Making.{refuses}
use Rattle.cards.proofs.board.Written.add_node.Goals as goal

pub returns-then-self-eq0 : goal.returns-then-self-eq0
returns-then-self-eq0 c = refuses (rw (eq-eqb _ 0 c.if-self-eq0.true))

pub returns-then-self-ne0 : goal.returns-then-self-ne0
returns-then-self-ne0 c = refuses (rw (ne_eqb _ 0 c.if-self-eq0.false, ne_eqb _ 0 c.if-self-ne0.true))

pub returns-then-self-eq64 : goal.returns-then-self-eq64
returns-then-self-eq64 c = refuses (rw (ne_eqb _ 0 c.if-self-eq0.false, eq-eqb _ 0 c.if-self-ne0.false, eq-eqb _ 64 c.if-self-eq64.true))

pub returns : goal.returns
returns c =
    let p = c.requires.1 in
    record {
      steps = rw (ne_eqb _ 0 c.if-self-eq0.false, eq-eqb _ 0 c.if-self-ne0.false, ne_eqb _ 64 c.if-self-eq64.false);
      room = record { few_nodes = omega arith; few_wires = p.few_wires; sum = omega (arith, p.sum) };
      grown = omega arith;
      puts = rw (ne_eqb _ 0 c.if-self-eq0.false, eq-eqb _ 0 c.if-self-ne0.false, ne_eqb _ 64 c.if-self-eq64.false)
          (c.put_node.ensures ∙ ap (λ (t : ℕ). sets c.args.out.now c.args.self.at (node_bytes (record { type = t; n = c.args.n; f = c.args.f }))) c.from.ensures);
    }
