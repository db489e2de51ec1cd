-- `boards::judge::read_parts` meets its contract: where the head, the nodes or the wires are refused the board is; else the records come
-- to the board that the parts make, and the end record and check 6 decide of it. Assumes nothing.
use mathlib.Core.Path.{refl, ◌∙◌}
use Rattle.boards.specs.BoardParts.{made_of}
use Rattle.boards.specs.Wires.{wires_of}
use Rattle.boards.proofs.Joined.{head_refuses, head_inside, nodes_refuse, wires_refuse, made, made_together, made_counts}
use Rattle.boards.proofs.Answers.{residual_is}
use Rattle.boards.proofs.Six.{six_whole, six_refuses}
use Rattle.boards.proofs.judge.read_parts.Goals as goal

pub returns-in_err-head : goal.returns-in_err-head
returns-in_err-head c = rw (residual_is _ _ c.from_residual.ensures.1) (six_refuses _ _ (head_refuses _ _ c.in_err-head.ensures))

pub read_nodes-requires : goal.read_nodes-requires
read_nodes-requires c = (c.in_ok-head.ensures.small, head_inside _ _ c.in_ok-head.ensures)

pub returns-in_err-read_nodes : goal.returns-in_err-read_nodes
returns-in_err-read_nodes c =
    rw (residual_is _ _ c.from_residual-in_err-read_nodes.ensures.1) (six_refuses _ _ (nodes_refuse _ _ c.in_ok-head.ensures _ _ c.in_err-read_nodes.ensures))

pub returns-in_err-end : goal.returns-in_err-end
returns-in_err-end c =
    rw (residual_is _ _ c.from_residual-in_err-end.ensures.1)
    (six_refuses _ _ (wires_refuse _ _ c.in_ok-head.ensures _ c.in_ok-read_nodes.ensures _ _ _ c.in_err-end.ensures.read))

pub returns-in_err-read_end : goal.returns-in_err-read_end
returns-in_err-read_end c =
    let records = made _ _ c.in_ok-head.ensures _ c.in_ok-read_nodes.ensures _ _ c.in_ok-end.ensures.read in
    let end = c.in_err-read_end.ensures (made_of c.in_ok-head.head c.read_nodes.new.nodes (wires_of c.read_wires.new.wires.list c.read_wires.new.wires.count)) in
    rw (residual_is _ _ c.from_residual-in_err-read_end.ensures.1) (six_refuses _ _ (end.0, records ∙ end.1))

pub check_six-requires : goal.check_six-requires
check_six-requires c = c.in_ok-head.ensures.input_small

pub returns-in_err-check_six : goal.returns-in_err-check_six
returns-in_err-check_six c =
    let head = c.in_ok-head.head in
    let n = c.read_nodes.new.nodes in
    let nodes = c.in_ok-read_nodes.ensures in
    let w = c.read_wires.new.wires in
    let p = made_of head n (wires_of w.list w.count) in
    let records = made _ _ c.in_ok-head.ensures _ nodes _ _ c.in_ok-end.ensures.read in
    let six = six_whole _ p (records ∙ c.in_ok-read_end.ensures p) in
    let counts = made_counts _ head n _ _ _ _ nodes c.in_ok-end.ensures.table in
    let judged = c.in_err-check_six.ensures p refl refl counts in
    rw (residual_is _ _ c.from_residual-in_err-check_six.ensures.1) (judged.0, six ∙ judged.1)

pub returns : goal.returns
returns c =
    let head = c.in_ok-head.head in
    let n = c.read_nodes.new.nodes in
    let nodes = c.in_ok-read_nodes.ensures in
    let w = c.read_wires.new.wires in
    let p = made_of head n (wires_of w.list w.count) in
    let records = made _ _ c.in_ok-head.ensures _ nodes _ _ c.in_ok-end.ensures.read in
    let six = six_whole _ p (records ∙ c.in_ok-read_end.ensures p) in
    let counts = made_counts _ head n _ _ _ _ nodes c.in_ok-end.ensures.table in
    made_together _ head n w c.read_wires.new.sources _ _ _ (six ∙ c.in_ok-check_six.ensures p refl refl counts)
    (c.in_ok-head.ensures.small, c.in_ok-head.ensures.input_small) nodes c.in_ok-end.ensures.read c.in_ok-end.ensures.table
