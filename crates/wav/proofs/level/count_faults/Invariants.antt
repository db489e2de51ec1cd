-- `wav::level::count_faults`: after i turns the first i values are counted.
use Rattle.std.proofs.Common.{◌≡◌, ◌+◌, ◌≤◌, Bool}
use Rattle.std.specs.Prelude.{Float}
use Rattle.values.specs.Words.{words}
use Rattle.wav.specs.Level.{counted, Tells}
use Rattle.wav.proofs.level.count_faults.Given as goal

abbrev pub invariant-loop-i : goal.invariant-loop-i
invariant-loop-i g l = (l.c.count ≤ l.from + l.i) × ((faulty : Float → Bool) → Tells (goal.F-post g l.is_fault) faulty (words l.values) l.i → l.c ≡ counted faulty (words l.values) l.from l.initial.c l.i)
