-- The one-pole: its coefficients a and b and its last output y1, each operation one rounding. Definitions only.
use Rattle.std.specs.Prelude.{Float}
use Rattle.std.specs.Float.{binary32}
use Rattle.std.specs.Float.Ieee.{add, sub, mul}
use Rattle.values.specs.Floors.{f1}
use Rattle.leaves.specs.declared.onepole.OnePole.{OnePole}

-- a = 1 - b
unfoldable pub one_pole_of : Float → Float → OnePole
one_pole_of b y1 = record { a = sub binary32 f1 b; b = b; y1 = y1 }

-- y = x × a + b × y1
unfoldable pub one_pole_step : OnePole → Float → OnePole
one_pole_step p x = record { a = p.a; b = p.b; y1 = add binary32 (mul binary32 x p.a) (mul binary32 p.b p.y1) }
