-- `boards::judge::sources_judged` meets its contract: the nodes before the first that does not fit are passed, and it is refused. Assumes
-- nothing.
use mathlib.Core.Path.{sym, ◌∙◌}
use native.Mathlib.Omega.{arith}
use Rattle.boards.proofs.Answers.{refused_by}
use Rattle.boards.proofs.Six.{first_below, check_none, check_first}
use Rattle.boards.proofs.judge.sources_judged.Goals as goal

pub returns-in-Some : goal.returns-in-Some
returns-in-Some c = λ p n h.
    let nodes = c.args.nodes.now in
    refused_by c.new.ensures (omega arith)
    (check_first p _ _ h _ n nodes.wide (omega arith) nodes.few c.in-Some.i (sym c.first_unfit.ensures ∙ c.in-Some.is))

pub returns-in-None : goal.returns-in-None
returns-in-None c = λ p n h.
    let nodes = c.args.nodes.now in
    check_none p _ _ h _ n nodes.wide (omega arith) nodes.few (sym c.first_unfit.ensures ∙ c.in-None.is)

pub new-requires : goal.new-requires
new-requires c =
    let nodes = c.args.nodes.now in
    omega (arith, first_below nodes.bounds _ nodes.count c.in-Some.i _ (omega (arith, nodes.wide, nodes.few)) (sym c.first_unfit.ensures ∙ c.in-Some.is), nodes.few)
