-- The writer's rows of nodes and of wires as the lists of `specs/Plate.antt`: a table is right if antt computes that its rows, read so, are the
-- list's own. Assumes nothing.
use mathlib.Core.Path.{◌≡◌, sym, ap, ◌∙◌}
use mathlib.Core.List.{List, map}
use Prim.Native.Nat.{ℕ}
use lib.ListN.{get_or, get_or-map}
use Rattle.kinds.specs.Types.{type_number}
use Rattle.kinds.specs.declared.types.Kind.{Kind}
use Rattle.reading.specs.Order.{wire}
use Rattle.records.specs.Write.{NodeCard}
use Rattle.boards.specs.Wires.{wire_of}
use Rattle.plate_board.specs.Plate.{node}

-- a node's row: its type, whole number and bits of its float
abbrev pub card_of : Kind × ℕ × ℕ → NodeCard
card_of d = node (type_number d.0) d.1 d.2

pub node_at : (rows : List (Kind × ℕ × ℕ)) (i t : ℕ) (d : Kind × ℕ × ℕ) → t ≡ type_number (get_or rows i d).0
    → node t (get_or rows i d).1 (get_or rows i d).2 ≡ get_or (map card_of rows) i (card_of d)
node_at rows i t d e = ap (λ (u : ℕ). node u (get_or rows i d).1 (get_or rows i d).2) e ∙ sym (get_or-map card_of rows i d)

pub wire_at : (rows : List (ℕ × ℕ)) (i : ℕ) (w : ℕ × ℕ) → wire (get_or rows i w).0 (get_or rows i w).1 ≡ get_or (map wire_of rows) i (wire_of w)
wire_at rows i w = sym (get_or-map wire_of rows i w)
