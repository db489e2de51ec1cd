-- `card_lines::line::said` meets its contract: a line without its comment. Assumes nothing.
use Rattle.std.proofs.Common.{ap, ◌∙◌}
use Rattle.text.specs.Words.{lines_of}
use Rattle.card_lines.specs.Line.{line_of, said_of}
use Rattle.card_lines.proofs.line.said.Goals as goal

pub returns : goal.returns
unfolding said_of
returns c = c.line_of.ensures ∙ ap (line_of (lines_of c.args.text.now) c.args.nodes) c.bare.ensures
