use mathlib.Core.Path.{◌≡◌}
use Prim.Native.Nat.{ℕ, ◌<◌}
use lib.IntN.{pos}
use lib.ListN.{get_or}
use Rattle.leaves.specs.Sine.{sine_of}
use Rattle.operators.proofs.sin_osc.sine_wholes.Given as goal

abbrev pub invariant-loop-i : goal.invariant-loop-i
invariant-loop-i l = (j : ℕ) → j < l.i → get_or l.values j (pos 0) ≡ sine_of (get_or l.units j 0)
