use Rattle.std.proofs.Common.{◌≡◌, ◌≤◌, ◌+◌, length}
use Rattle.text.specs.Words.{lines_of}
use Rattle.card_lines.specs.Labels.{node_named}
use Rattle.card_lines.proofs.labels.node_named.Given as goal

abbrev pub invariant-loop-line : goal.invariant-loop-line
invariant-loop-line l =
    (l.k + length (lines_of l.line-iterator.rest.now) ≤ length (lines_of l.text))
    × (node_named l.name l.k (lines_of l.line-iterator.rest.now) ≡ node_named l.name 0 (lines_of l.text))
