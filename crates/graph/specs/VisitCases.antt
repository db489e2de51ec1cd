-- P: document 01's printed board, its list and its late wire; and three tails. By computation. Assumes nothing.
use Rattle.std.specs.Prelude.{◌≡◌, refl}
use Rattle.std.specs.Float.Ieee.{of_bits}
use Rattle.std.specs.Float.{binary32}
use Rattle.kinds.specs.declared.kind.NodeKind.TheVariants.{Pass, Sum, Destination, Mul, Add, Delay}
use Rattle.boards.specs.Board.{Parsed, headed, with_node, with_wire}
use Rattle.boards.specs.Walks.{printed_wires, printed_list, printed_late}
use Rattle.graph.specs.Visit.{visiting_list}
use Rattle.graph.specs.Late.{is_late, late_wires}
use Rattle.graph.specs.Tail.{endless, tail_by, tail_of}

pub printed_list_lem : visiting_list printed_wires ≡ printed_list
unfolding visiting_list
printed_list_lem = refl

pub printed-late : late_wires printed_list printed_wires ≡ printed_late
unfolding late_wires is_late
printed-late = refl

-- the printed board sounds for ever; without its loop and its add, and with a delay that is not listed, its tail is the listed line

abbrev looped : Parsed
looped =
    with_wire (with_wire (with_wire (with_wire (with_wire
    (with_node (with_node (with_node (with_node (with_node (headed 2 1) Destination) Pass) (Add (of_bits binary32 0))) (Delay 1)) (Mul (of_bits binary32 0x3f00_0000)))
    1 2) 2 3) 3 4) 4 2) 3 0

pub looped-tail : tail_of looped ≡ endless
unfolding tail_of tail_by visiting_list late_wires is_late
looped-tail = refl

abbrev straight : Parsed
straight =
    with_wire (with_wire (with_wire (with_wire
    (with_node (with_node (with_node (with_node (with_node (headed 2 1) Destination) Pass) Sum) (Delay 7)) (Delay 5))
    1 2) 2 3) 3 0) 2 4

pub straight-tail : tail_of straight ≡ 7
unfolding tail_of tail_by visiting_list late_wires is_late
straight-tail = refl

-- an add on the way writes its number for ever
pub added-tail : tail_of (with_wire (with_wire (with_node (with_node (with_node (headed 2 1) Destination) Pass) (Add (of_bits binary32 0))) 1 2) 2 0) ≡ endless
unfolding tail_of tail_by visiting_list late_wires is_late
added-tail = refl
