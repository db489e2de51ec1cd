-- `resizing::resize::planned` meets its contract. Its tests are those of `plan_of`, one by one, and the one late wire's target is a node.
-- Assumes nothing.
use Prim.Native.Nat.{ℕ}
use mathlib.Core.Path.{◌≡◌, subst, ◌∙◌}
use mathlib.Core.Bool.{false, ◌||◌}
use native.Mathlib.Omega.{arith}
use lib.Dec.{ltb}
use lib.Seq.{length-take-le}
use Rattle.boards.specs.Board.{Parsed}
use Rattle.boards.specs.Read.{parsed_of}
use Rattle.resizing.specs.Planning.{Lates}
use Rattle.resizing.proofs.Planning.{Another, plan_same, plan_no_size, size_right, last_there, plan_size, plan_many, plan_one}
use Rattle.resizing.proofs.resize.planned.Goals as goal

-- the size fits, and is another
another : (p : Parsed) (M : ℕ) → (ltb M 1 || ltb 128 M) ≡ false → (M ≡ p.size → ⊥) → Another p M
another p M fits other = record { size_fits_lem = size_right M fits; other = other }

pub returns-then-size : goal.returns-then-size
returns-then-size c = plan_no_size _ _ c.if-size.true

pub returns-then-size-board : goal.returns-then-size-board
returns-then-size-board c = plan_same _ _ (size_right _ c.if-size.false) c.if-size-board.true

pub returns-then-late-gt1 : goal.returns-then-late-gt1
returns-then-late-gt1 c =
    plan_many _ _ _ (another (parsed_of c.args.board.now) c.args.size c.if-size.false c.if-size-board.false) _ c.board_late-late.ensures c.if-late-gt1.true

pub returns-in_default : goal.returns-in_default
returns-in_default c =
    plan_size _ _ _ (another (parsed_of c.args.board.now) c.args.size c.if-size.false c.if-size-board.false) c.if-late-gt1.false
    (subst (Lates _ _) c.in_default.is c.board_late-late.ensures)

pub corrected-requires : goal.corrected-requires
corrected-requires c =
    let b = c.args.board.now in
    let fine = c.requires.fine in
    let there = last_there _ _ _ _ _ fine.formed.joins (subst (Lates _ _) c.in-Some.is c.board_late-late.ensures) in
    (fine, omega (arith, there, length-take-le b.count b.nodes (omega (arith, b.long, b.few))))

pub returns : goal.returns
returns c =
    c.corrected.ensures
    ∙ plan_one _ _ _ (another (parsed_of c.args.board.now) c.args.size c.if-size.false c.if-size-board.false) c.if-late-gt1.false _
    (subst (Lates _ _) c.in-Some.is c.board_late-late.ensures)
