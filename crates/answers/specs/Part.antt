-- A part of a text. Definitions only.
use Rattle.std.specs.Prelude.{◌≡◌, List, ℕ, ◌++◌}

-- these bytes stand in the text, one behind the other
pub record IsPart (text bytes : List ℕ) : Type 0 where
  pub before : List ℕ
  pub after : List ℕ
  pub whole : text ≡ before ++ (bytes ++ after)
