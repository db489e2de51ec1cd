-- P: the text that `order` writes of document 01's printed board, and of a refusal. By computation. Assumes nothing.
use mathlib.Core.Path.{◌≡◌, refl}
use mathlib.Core.List.{[], ◌∷◌}
use Rattle.boards.specs.Board.{refused}
use Rattle.graph.specs.Late.{late_wires, is_late}
use Rattle.boards.specs.Walks.{printed_wires as printed, printed_list}
use Rattle.text.specs.Written.{number, spaced, pair}
use Rattle.listing.specs.Text.{order_text, text_of, spaced_all, late_lines}

-- "order 1 4 2 3 0" and "late 3 4", each with its line's end
pub printed_text : order_text printed_list printed ≡
    111 ∷ 114 ∷ 100 ∷ 101 ∷ 114 ∷ 32 ∷ 49 ∷ 32 ∷ 52 ∷ 32 ∷ 50 ∷ 32 ∷ 51 ∷ 32 ∷ 48 ∷ 10 ∷ 108 ∷ 97 ∷ 116 ∷ 101 ∷ 32 ∷ 51 ∷ 32 ∷ 52 ∷ 10 ∷ []
unfolding order_text spaced_all spaced number pair late_lines late_wires is_late
printed_text = refl

-- "refused 5 1064"
pub refused_text : text_of (refused 5 1064) ≡ 114 ∷ 101 ∷ 102 ∷ 117 ∷ 115 ∷ 101 ∷ 100 ∷ 32 ∷ 53 ∷ 32 ∷ 49 ∷ 48 ∷ 54 ∷ 52 ∷ 10 ∷ []
unfolding text_of pair number
refused_text = refl
