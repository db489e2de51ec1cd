-- What a host sends in and straight out comes back unchanged (document 02, [1]): on a board whose one wire into node 0 comes from the input node,
-- whatever else it has, each accepted packed block writes its own input on both channels, among calls of any kind. Part of what the statement
-- says. Definitions only; the theorem is in proofs/Straight.antt.
use Rattle.std.specs.Prelude.{◌≡◌, true, List, [], ◌∷◌}
use Rattle.values.specs.Words.{Bytes}
use Rattle.reading.specs.Order.{sources}
use Rattle.boards.specs.Board.{Parsed}
use Rattle.samples.specs.Reading.{Call, block, block24, message, accepts, Reply}

-- node 0 hears the input node and no other
abbrev pub Direct : Parsed → Type 0
Direct p = sources p.wires 0 ≡ p.input ∷ []

-- an accepted packed block has come back
abbrev pub Back : Parsed → Call → Reply → Type 0
Back p (block x l r) d = Unit {0}
Back p (block24 x l r) d = Bytes x → accepts p (block24 x l r) ≡ true → (d.left ≡ x) × (d.right ≡ x)
Back p (message k w) d = Unit {0}

-- each of a list of calls, by its reply
unfoldable pub AllBack : Parsed → List Call → List Reply → Type 0
AllBack p [] rs = Unit {0}
AllBack p (c ∷ cs) [] = ⊥
AllBack p (c ∷ cs) (d ∷ rs) = Back p c d × AllBack p cs rs
