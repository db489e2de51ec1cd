-- `render::render::needs_of` is safe: the judge accepted the board, so its block size and its memory are as large as any.
use Rattle.std.proofs.Common.{arith}
use Rattle.boards.specs.Read.{parsed_of}
use Rattle.memory.specs.Fine.{Fine}
use Rattle.memory.proofs.FineBoard.{accepted_fine}
use Rattle.render.proofs.render.needs_of.Goals as goal

pub invariant_of-result : goal.invariant_of-result
invariant_of-result c =
    let fine : Fine (parsed_of c.in-Ok.read) = accepted_fine c.args.board.now (λ i. omega (arith, c.type_inv.board i)) c.in-Ok.read c.in-Ok.ensures in
    record { least_size = fine.least_size; most_size = fine.most_size; room_fits = omega (arith, c.in-Ok.read.held) }
