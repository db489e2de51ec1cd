-- `effects::delayn::canonical` meets its contract: a NaN's pattern comes back as 7FC00000, any other as itself. Assumes nothing.
use mathlib.Core.Path.{sym}
use native.Mathlib.Omega.{arith}
use Rattle.values.proofs.Patterns.{pattern_back, pattern_nan}
use Rattle.effects.proofs.delayn.canonical.Goals as goal

pub returns-then-bits-gt2139095040 : goal.returns-then-bits-gt2139095040
returns-then-bits-gt2139095040 c = sym (pattern_nan c.args.bits (omega arith))

pub returns-else-bits-gt2139095040 : goal.returns-else-bits-gt2139095040
returns-else-bits-gt2139095040 c = sym (pattern_back c.args.bits c.ranges.bits.fits (omega arith))
