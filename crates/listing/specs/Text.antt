-- What `order` writes of a board (document 01, "Visiting list"), in bytes. Definitions only.
use Rattle.std.specs.Prelude.{ℕ, List, [], ◌∷◌, ◌++◌}
use Rattle.reading.specs.Order.{Wire}
use Rattle.boards.specs.Board.{Progress, going, refused, whole}
use Rattle.graph.specs.Visit.{visiting_list}
use Rattle.graph.specs.Late.{late_wires}
use Rattle.text.specs.Written.{spaced, pair}

-- each number with a space before it
unfoldable pub spaced_all : List ℕ → List ℕ
spaced_all [] = []
spaced_all (n ∷ ns) = spaced n ++ spaced_all ns

-- "order", "late" and "refused"
abbrev pub order_word : List ℕ
order_word = 111 ∷ 114 ∷ 100 ∷ 101 ∷ 114 ∷ []

abbrev pub late_word : List ℕ
late_word = 108 ∷ 97 ∷ 116 ∷ 101 ∷ []

abbrev pub refused_word : List ℕ
refused_word = 114 ∷ 101 ∷ 102 ∷ 117 ∷ 115 ∷ 101 ∷ 100 ∷ []

-- a line: a word and two numbers, one space between
abbrev pub line : List ℕ → ℕ → ℕ → List ℕ
line word a b = pair (word ++ (32 ∷ [])) a (32 ∷ []) b (10 ∷ [])

-- source and target of each late wire
unfoldable pub late_lines : List Wire → List ℕ
late_lines [] = []
late_lines (w ∷ ws) = line late_word w.source w.target ++ late_lines ws

-- the listed nodes on one line, then the late wires
unfoldable pub order_text : List ℕ → List Wire → List ℕ
order_text l ws = ((order_word ++ spaced_all l) ++ (10 ∷ [])) ++ late_lines (late_wires l ws)

-- the text of a board as read; a reading is never left going
unfoldable pub text_of : Progress → List ℕ
text_of (going at last p) = line refused_word 1 at
text_of (refused n w) = line refused_word n w
text_of (whole p) = order_text (visiting_list p.wires) p.wires
