-- `boards::judge::pass_at` meets its contract. Assumes nothing.
use mathlib.Core.Path.{sym, ◌∙◌}
use native.Mathlib.Omega.{arith}
use borrow.Author.Tests.{le-ltb}
use Rattle.boards.proofs.Six.{pass_here, pass_out}
use Rattle.boards.proofs.judge.pass_at.Goals as goal

pub returns-then-i-nodes : goal.returns-then-i-nodes
returns-then-i-nodes c =
    let n = c.args.nodes.now in
    c.is_pass.ensures ∙ sym (pass_here n.nodes n.count (omega (arith, n.few, n.long)) c.args.i c.if-i-nodes.true _)

pub returns-else-i-nodes : goal.returns-else-i-nodes
returns-else-i-nodes c =
    let n = c.args.nodes.now in
    le-ltb _ _ c.if-i-nodes.false ∙ sym (pass_out n.nodes n.count (omega (arith, n.few, n.long)) c.args.i c.if-i-nodes.false)
