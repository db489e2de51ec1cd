-- `render::turn::turn` meets its contract: the block is filled, run, and made into frames.
use Rattle.std.proofs.Common.{◌≡◌, ◌*◌, ◌/◌, length, rules, arith}
use Rattle.values.specs.Words.{Bytes}
use Rattle.render.proofs.Turns.{turned}
use Rattle.render.proofs.turn.turn.Goals as goal

pub returns : goal.returns
returns c =
    let small : Bytes c.fill_block.new.block = λ i. search rules in
    let whole : length c.fill_block.new.block ≡ 4 * (length c.args.input.now / 4) = omega arith in
    turned _ _ c.args.bytes.now c.fill_block.new.block _ _ c.args.format _ _ _ _ _ _ whole small c.fill_block.ensures c.block-answer.ensures
    c.interleave.ensures
