-- `resizing::resize::corrected` meets its contract. Its tests are those of `line_by`, one by one; no sum wraps, since an accepted board's lines
-- are few. Assumes nothing.
use mathlib.Core.Path.{◌≡◌, refl, sym, ap, ◌∙◌}
use Prim.Native.Nat.{ℕ, ◌<◌}
use native.Mathlib.Omega.{arith}
use lib.ListN.{get_or}
use lib.Seq.{get_or-take}
use Rattle.std.specs.Prelude.{Result}
use Rattle.kinds.specs.declared.kind.NodeKind.TheVariants.{Delay}
use Rattle.kinds.specs.declared.kind.NodeRecord.{NodeRecord}
use Rattle.boards.specs.Board.{blank, lines_of}
use Rattle.boards.specs.declared.board.Board.{Board}
use Rattle.boards.specs.Read.{parsed_of}
use Rattle.memory.specs.Memory.{kind_at}
use Rattle.memory.specs.Fine.{Fine}
use Rattle.resizing.specs.declared.resize.NotCarried.{NotCarried}
use Rattle.resizing.specs.declared.resize.Resized.{Resized}
use Rattle.resizing.specs.Resize.{delay_of, line_by}
use Rattle.resizing.proofs.Boards.{line_fits}
use Rattle.resizing.proofs.Planning.{Tested, no_delay, too_short, too_long, too_much, carried, tested, no_delay_is}
use Rattle.resizing.proofs.resize.corrected.Goals as goal

module _ (b : Board) (k size : ℕ) (there : k < b.count) where
  -- the node that the code looks at is the board's
  kind_same : kind_at (parsed_of b) k ≡ (get_or b.nodes k blank).kind
  kind_same = ap (λ (d : NodeRecord). d.kind) (get_or-take b.count b.nodes k blank there)

  -- and so is the line that it tests
  by_tests : (n : ℕ) → delay_of (get_or b.nodes k blank).kind ≡ n → {r : Result Resized NotCarried}
      → Tested (parsed_of b) size k n r → r ≡ line_by (parsed_of b) size k (delay_of (kind_at (parsed_of b) k))
  by_tests n e t = tested _ _ _ _ t ∙ ap (line_by (parsed_of b) size k) (sym (ap delay_of kind_same ∙ e))

  some_line : Fine (parsed_of b) → (n : ℕ) → (get_or b.nodes k blank).kind ≡ Delay n → n ≡ 0 → ⊥
  some_line fine n e z = omega (arith, (line_fits (parsed_of b) fine k n (kind_same ∙ e)).0)

pub returns-in_default : goal.returns-in_default
returns-in_default c =
    by_tests c.args.board.now _ _ c.requires.1 0 (no_delay_is _ c.in_default.not-Delay) (no_delay refl)

pub returns-then-long-size : goal.returns-then-long-size
returns-then-long-size c =
    by_tests c.args.board.now _ _ c.requires.1 _ (ap delay_of c.in-Delay.is)
    (too_short (some_line c.args.board.now _ c.args.size c.requires.1 c.requires.0 _ c.in-Delay.is) c.if-long-size.true)

pub returns-then-size-long : goal.returns-then-size-long
returns-then-size-long c =
    by_tests c.args.board.now _ _ c.requires.1 _ (ap delay_of c.in-Delay.is)
    (too_long (some_line c.args.board.now _ c.args.size c.requires.1 c.requires.0 _ c.in-Delay.is) c.if-long-size.false c.if-size-long.true)

pub returns-then-size-lines_of : goal.returns-then-size-lines_of
returns-then-size-lines_of c =
    by_tests c.args.board.now _ _ c.requires.1 _ (ap delay_of c.in-Delay.is)
    (too_much (some_line c.args.board.now _ c.args.size c.requires.1 c.requires.0 _ c.in-Delay.is)
    c.if-long-size.false c.if-size-long.false (omega (arith, c.if-size-lines_of.true, c.lines_of.ensures, ap lines_of c.listed.ensures)))

pub returns : goal.returns
returns c =
    by_tests c.args.board.now _ _ c.requires.1 _ (ap delay_of c.in-Delay.is)
    (carried (some_line c.args.board.now _ c.args.size c.requires.1 c.requires.0 _ c.in-Delay.is)
    c.if-long-size.false c.if-size-long.false (omega (arith, c.if-size-lines_of.false, c.lines_of.ensures, ap lines_of c.listed.ensures)))
