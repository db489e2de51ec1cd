-- What holds of a rendering all along. Definitions only.
use Rattle.std.specs.Prelude.{ℕ, ◌≤◌}
use Rattle.wav.specs.declared.level.Levels.{Levels}

-- no more samples are found than there are
pub record Few (samples : ℕ) (l : Levels) : Type 0 where
  pub bad : l.bad.count ≤ samples
  pub loud : l.loud.count ≤ samples
