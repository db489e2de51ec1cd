-- `resizing::resize::lines_of` meets its contract: the chain's sum is the definition's. Assumes nothing.
use mathlib.Core.Path.{◌≡◌, ◌∙◌}
use Rattle.std.proofs.Common.{rules}
use Rattle.std.specs.Prelude.{sum_by}
use Rattle.kinds.specs.Kind.{line_of}
use Rattle.kinds.specs.declared.kind.NodeRecord.{NodeRecord}
use Rattle.resizing.proofs.Planning.{lines_sum}
use Rattle.resizing.proofs.resize.lines_of.Goals as goal

pub returns : goal.returns
returns c =
    let all : c.sum.result ≡ sum_by (λ (r : NodeRecord). line_of r.kind) c.args.nodes.now = search rules in
    all ∙ lines_sum c.args.nodes.now
