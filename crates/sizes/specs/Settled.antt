-- What is promised of a board that was carried to another block size (docs/SIZES.md): the result is accepted and sounds the same, no board of the
-- theorem is left out, and the way back leads to the same bytes. Definitions only; proved in proofs/Settled.antt (`settled`), Rewritten.antt
-- (`complete`) and Returned.antt (`returns`).
use Rattle.std.specs.Prelude.{ℕ, ◌≡◌, List, Result, Ok, Err}
use Rattle.values.specs.Words.{Bytes}
use Rattle.boards.specs.Board.{Parsed, whole}
use Rattle.boards.specs.Judge.{read_board}
use Rattle.resizing.specs.Resize.{resized_of, bytes_after}
use Rattle.resizing.specs.declared.resize.NotCarried.{NotCarried}
use Rattle.resizing.specs.declared.resize.Resized.{Resized}
use Rattle.resizing.specs.declared.resize.Resized.TheVariants.{Same, Size, Line}
use Rattle.sizes.specs.Sizes.{OneLine, SizeOnly, SoundsAs}

-- how two boards may differ so that they sound the same: the request's boards, the first of the larger or of the smaller blocks; or boards
-- that differ in block size alone, where no wire is late
pub data Apart (p q : Parsed) : Type 0 where
  line_longer : OneLine p q → Apart p q
  line_shorter : OneLine q p → Apart p q
  size_alone : SizeOnly p q → Apart p q

-- the bytes s' are accepted as s are, of a board at blocks of M that is apart from the one of s as above: so they sound the same
pub record Carried (s s' : List ℕ) (M : ℕ) : Type 0 where
  pub before : Parsed
  pub after : Parsed
  pub reads : read_board s ≡ whole before
  pub reads_after : read_board s' ≡ whole after
  pub at_size : after.size ≡ M
  pub apart : Apart before after
  pub sounds : SoundsAs s s' before after

-- where bytes have changed, they are carried
abbrev pub Settled : List ℕ → ℕ → Result Resized NotCarried → Type 0
Settled s M (Ok Same) = (p : Parsed) → read_board s ≡ whole p → p.size ≡ M
Settled s M (Ok Size) = Carried s (bytes_after s M (Ok Size)) M
Settled s M (Ok (Line k n m)) = Carried s (bytes_after s M (Ok (Line k n m))) M
Settled s M (Err r) = Unit {0}

-- and no board of the theorem is left out: wherever accepted bytes Q are of a board q apart from the one of s as above, the board of s at q's
-- block size is q
abbrev pub Complete : List ℕ → Type 0
Complete s = (p : Parsed) → read_board s ≡ whole p → (Q : List ℕ) (q : Parsed) → Bytes Q → read_board Q ≡ whole q → Apart p q
    → read_board (bytes_after s q.size (resized_of s q.size)) ≡ whole q

-- there and back: carried to M and then to the block size that it had, an accepted board has the bytes that it had
abbrev pub Returns : List ℕ → ℕ → Type 0
Returns s M = (p : Parsed) → read_board s ≡ whole p
    → let s' = bytes_after s M (resized_of s M) in
    bytes_after s' p.size (resized_of s' p.size) ≡ s
