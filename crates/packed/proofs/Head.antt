-- The block size that a board's head says.
--     said_small                            by the bytes
--     same_size                             one size
--     said_is                               where the board is accepted, it is the board's
-- Assumes nothing.
use Prim.Native.Nat.{ℕ, ◌≤◌}
use mathlib.Core.Path.{◌≡◌, sym, ap, ◌∙◌}
use mathlib.Core.List.{List}
use native.Mathlib.Omega.{arith}
use borrow.Author.Tests.{le-ltb, le-leb}
use lib.ListN.{length}
use Rattle.std.specs.Prelude.{Some}
use Rattle.values.specs.Bytes.{u16_at}
use Rattle.values.specs.Words.{Bytes}
use Rattle.records.specs.Write.{Card, write_board}
use Rattle.boards.specs.Board.{Parsed, whole}
use Rattle.boards.specs.Judge.{read_board}
use Rattle.boards.proofs.Round.{read_write}
use Rattle.packed.specs.Said.{size_said}

-- ---- what the head says

module _ (s : List ℕ) (long : 6 ≤ length s) where
  pub said_small : (n : ℕ) → n ≡ u16_at s 4 → n ≤ 128 → Some n ≡ size_said s
  said_small n e h = rw (le-ltb (length s) 6 long, le-leb (u16_at s 4) 128 (omega arith)) (ap Some e)

-- ---- what a board's head says

pub same_size : (a b : ℕ) → Some a ≡ Some b → a ≡ b
same_size a b e = cc

said_written : (c : Card) → c.size ≤ 128 → size_said (write_board c) ≡ Some c.size
unfolding write_board
said_written c h = sym (said_small (write_board c) (omega arith) c.size (omega arith) h)

pub said_is : (s : List ℕ) → Bytes s → (p : Parsed) → read_board s ≡ whole p → size_said s ≡ Some p.size
said_is s h p e =
    let a = read_write s h p e in
    ap size_said a.bytes ∙ said_written a.card a.obeys.most_size ∙ ap (λ (q : Parsed). Some q.size) a.parsed
