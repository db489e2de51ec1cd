-- `cards::board::board_of` meets its contract: the lines behind a byte-order mark. Assumes nothing.
use mathlib.Core.Path.{ap, ◌∙◌}
use mathlib.Core.List.{List}
use Prim.Native.Nat.{ℕ}
use lib.Seq.{sets}
use Rattle.text.specs.Words.{lines_of}
use Rattle.cards.specs.Board.{lines_say}
use Rattle.cards.proofs.board.board_of.Goals as goal

pub returns : goal.returns
returns c =
    let said = c.lines_board.ensures in
    let e = c.unmarked.ensures in
    record {
      within = said.within;
      answered = said.answered ∙ ap (λ (t : List ℕ). (lines_say (lines_of t)).made) e;
      bytes = said.bytes ∙ ap (λ (t : List ℕ). sets c.args.out.now 0 (lines_say (lines_of t)).bytes) e;
    }
