-- The oscillator's phase, from one sample to the next: phase + f/44100, minus 1 if above 1. Definitions only.
use Rattle.std.specs.Prelude.{cond, Float}
use Rattle.std.specs.Float.{binary32}
use Rattle.std.specs.Float.Ieee.{add, sub, div, lt}
use Rattle.values.specs.Floors.{f1, f44100}

-- f / 44100
unfoldable pub increment : Float → Float
increment f = div binary32 f f44100

-- x, minus 1 if above 1
abbrev pub turned_back : Float → Float
turned_back x = cond (lt f1 x) (sub binary32 x f1) x

unfoldable pub advance : Float → Float → Float
advance phase by = turned_back (add binary32 phase by)

-- the phase after a phase p at the frequency f
abbrev pub phase_after : Float → Float → Float
phase_after f p = advance p (increment f)
