-- `card_lines::labels::end_of` meets its contract, by the word's first byte. Assumes nothing.
use Rattle.std.proofs.Common.{sym, ◌∙◌}
use Rattle.card_lines.specs.Labels.{end_of}
use Rattle.card_lines.proofs.labels.end_of.Goals as goal

pub returns-then-starts_name : goal.returns-then-starts_name
unfolding end_of
returns-then-starts_name c = rw (sym c.starts_name.ensures ∙ c.if-starts_name.true) c.node_named.ensures

pub returns-in_err-number : goal.returns-in_err-number
unfolding end_of
returns-in_err-number c = rw (sym c.starts_name.ensures ∙ c.if-starts_name.false) (c.from_residual.ensures ∙ c.in_err-number.ensures.1)

pub returns : goal.returns
unfolding end_of
returns c = rw (sym c.starts_name.ensures ∙ c.if-starts_name.false) c.in_ok-number.ensures.1
