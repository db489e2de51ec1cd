-- `values::float::finite_bits` meets its contract. Assumes nothing.
use mathlib.Core.Path.{sym}
use Rattle.values.proofs.Patterns.{finite_pattern}
use Rattle.values.proofs.float.finite_bits.Goals as goal

pub returns : goal.returns
returns c = sym (finite_pattern c.args.w)
