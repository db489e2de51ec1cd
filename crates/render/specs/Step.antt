-- What a block leaves of a rendering. Definitions only.
use Rattle.std.specs.Prelude.{◌≡◌, ◌+◌, ◌-◌, ◌*◌, min}
use Rattle.render.specs.declared.play.Run.{Run}
use Rattle.render.specs.Run.{Few}

-- a block takes its frames off what is to be read and to be written, or what is left of these where that is less; what it writes counts as written, how it is read and written stays, and what is found is among the frames that are written
pub record BlockPassed (old new : Run) : Type 0 where
  pub needs : new.needs ≡ old.needs
  pub reads : new.reads ≡ old.reads - min old.needs.size old.reads
  pub writes : new.writes ≡ old.writes - min old.needs.size old.writes
  pub done : new.done ≡ old.done + min old.needs.size old.writes
  pub stays : (new.format ≡ old.format) × (new.written ≡ old.written) × (new.progress ≡ old.progress)
  pub found : Few (2 * (old.done + min old.needs.size old.writes)) new.levels
