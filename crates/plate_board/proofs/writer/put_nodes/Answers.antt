-- `plate_board::writer::put_nodes` meets its contract: behind the first i nodes, the next one's record. Assumes nothing.
use mathlib.Core.Path.{refl, ap, ◌∙◌}
use mathlib.Core.List.{List}
use Prim.Native.Nat.{ℕ, ◌+◌, ◌*◌, ◌≤◌, ◌<◌}
use native.Mathlib.Omega.{arith}
use lib.ListN.{length, set}
use lib.Seq.{sets}
use Rattle.kinds.specs.declared.types.Kind.{Kind}
use Rattle.kinds.specs.declared.types.Kind.TheVariants.{Pass, Mul}
use Rattle.records.specs.Write.{NodeCard, node_bytes, nodes_bytes}
use Rattle.plate_board.specs.Plate.{plate_nodes}
use Rattle.plate_board.specs.declared.writer.TheConstants.{NODES}
use Rattle.records.proofs.Stores.{one_more, all_written}
use Rattle.plate_board.proofs.Tables.{card_of, node_at}
use Rattle.plate_board.proofs.writer.put_nodes.Goals as goal

abbrev rows : ℕ → ℕ → List (Kind × ℕ × ℕ)
rows mix dry = set (set (set (set NODES 41 (Mul, 0, mix)) 43 (Mul, 0, dry)) 47 (Mul, 0, mix)) 49 (Mul, 0, dry)

pub loop-i-preserved : goal.loop-i-preserved
unfolding plate_nodes
loop-i-preserved c =
    let start = c.args in
    let l = start.board.now in
    let nodes = plate_nodes start.mix start.dry in
    let i = c.loop-i.i in
    let inv = c.loop-i.invariant in
    let m = c.loop-i.board in
    let put = c.put_node in
    let at = 8 + 14 * i in
    let room : i < length nodes = omega arith in (
      omega arith,
      put.auto.board ∙ inv.1,
      one_more nodes_bytes node_bytes 14 refl (λ x xs. refl) (λ x. refl) l 8 i nodes (card_of (Pass, 0, 0)) room inv.2
          (put.ensures ∙ ap (λ (d : NodeCard). sets m at (node_bytes d)) (node_at (rows start.mix start.dry) i c.from.result (Pass, 0, 0) c.from.ensures)),
    )

pub returns : goal.returns
unfolding plate_nodes
returns c =
    let start = c.args in
    let nodes = plate_nodes start.mix start.dry in
    let past : length nodes ≤ c.loop-i.i = omega arith in
    all_written nodes_bytes node_bytes 14 refl (λ x xs. refl) (λ x. refl) start.board.now 8 c.loop-i.i nodes past c.loop-i.invariant.2
