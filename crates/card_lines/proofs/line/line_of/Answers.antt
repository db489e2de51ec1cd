-- `card_lines::line::line_of` meets its contract: a name before it, or none. Assumes nothing.
use Rattle.std.proofs.Common.{ap, ◌∙◌, List, ℕ}
use Rattle.text.specs.Words.{lines_of}
use Rattle.card_lines.specs.Labels.{label_of}
use Rattle.card_lines.specs.Line.{labelled_line, line_of}
use Rattle.card_lines.proofs.line.line_of.Goals as goal

pub returns-in_default : goal.returns-in_default
unfolding line_of
returns-in_default c = rw c.in_default.ensures c.plain_line.ensures

pub returns : goal.returns
unfolding line_of
returns c =
    let ls = lines_of c.args.text.now in
    let k = c.args.nodes in
    rw c.in-Some.ensures.0
    (c.labelled_line.ensures
    ∙ ap (λ (name : List ℕ). labelled_line ls k name c.body_of.result.now) c.in-Some.ensures.1
    ∙ ap (labelled_line ls k (label_of c.args.line.now)) c.body_of.ensures)
