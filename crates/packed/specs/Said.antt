-- The block size that a board's head says, before the board is judged, and the lengths of packed blocks that go with it. Scaffolding.
-- Definitions only.
use Rattle.std.specs.Prelude.{ℕ, ◌*◌, ◌≤◌, ◌≡◌, ◌⊎◌, Bool, cond, ◌&&◌, List, ltb, leb, eqb, length, Option, Some, None}
use Rattle.values.specs.Bytes.{u16_at}
use Rattle.records.specs.Answer.{answer}
use Rattle.boards.specs.Board.{Parsed, Progress, whole}
use Rattle.boards.specs.BoardParts.{Refuses}
use Rattle.records.specs.declared.answer.Answer.{Answer}

-- its bytes 4 and 5, where they are there and say 128 at most
abbrev pub size_said : List ℕ → Option ℕ
size_said s = cond (ltb (length s) 6) None (cond (leb (u16_at s 4) 128) (Some (u16_at s 4)) None)

-- each block has n words
abbrev pub lengths_fit : ℕ → ℕ → ℕ → ℕ → Bool
lengths_fit n x l r = eqb x (3 * n) && eqb l (3 * n) && eqb r (3 * n)

-- the head says n, and each block has n words
pub record Fits (s : List ℕ) (x l r n : ℕ) : Type 0 where
  pub said : size_said s ≡ Some n
  pub few : n ≤ 128
  pub input : x ≡ 3 * n
  pub left : l ≡ 3 * n
  pub right : r ≡ 3 * n

-- a refusal where blocks are of other lengths, on a board that reads and is judged as v: v's own, or 13
abbrev pub Lacks : Progress → Answer → Type 0
Lacks v a = Refuses v a ⊎ ((p : Parsed) × (v ≡ whole p) × (a ≡ answer 13 p.size))
