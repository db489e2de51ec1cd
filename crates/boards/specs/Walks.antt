-- Document 01's printed board as a card, its visiting list and its late wires. Definitions only.
use Rattle.std.specs.Prelude.{ℕ, List, [], ◌∷◌}
use Rattle.reading.specs.Order.{Wire, wire}
use Rattle.records.specs.Write.{NodeCard, Card}

abbrev pub printed_wires : List Wire
printed_wires = wire 1 2 ∷ wire 2 3 ∷ wire 3 4 ∷ wire 4 2 ∷ wire 3 0 ∷ []

abbrev node : ℕ → ℕ → ℕ → NodeCard
node t n f = record { type = t; n = n; f = f }

-- N 2, input 1; destination, pass, add 0, delay 1, mul 0.5
abbrev pub feedback : Card
feedback = record {
  size = 2;
  input = 1;
  nodes = node 3 0 0 ∷ node 1 0 0 ∷ node 6 0 0 ∷ node 7 1 0 ∷ node 5 0 0x3f00_0000 ∷ [];
  wires = printed_wires;
}

abbrev pub printed_list : List ℕ
printed_list = 1 ∷ 4 ∷ 2 ∷ 3 ∷ 0 ∷ []

abbrev pub printed_late : List Wire
printed_late = wire 3 4 ∷ []
