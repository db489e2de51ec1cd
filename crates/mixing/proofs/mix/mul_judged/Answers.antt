-- `mixing::mix::mul_judged` meets its contract, test by test. Assumes nothing.
use mathlib.Core.Path.{sym, ap, ◌∙◌}
use Rattle.std.specs.Prelude.{Err}
use Rattle.records.specs.Answer.{checked}
use Rattle.mixing.proofs.Mixing.{mul_missing, mul_there}
use Rattle.mixing.proofs.mix.mul_judged.Goals as goal

pub returns-then-board-k : goal.returns-then-board-k
returns-then-board-k c =
    ap Err c.new.ensures ∙ ap checked (sym (mul_missing c.args.board.now c.args.k c.if-board-k.true))

pub returns-then-not-is_mul : goal.returns-then-not-is_mul
returns-then-not-is_mul c =
    ap Err c.new-then-not-is_mul.ensures
    ∙ ap checked (sym (mul_there c.args.board.now c.args.k c.if-board-k.false (sym c.is_mul.ensures ∙ c.if-not-is_mul.true)))

pub returns : goal.returns
returns c = ap checked (sym (mul_there c.args.board.now c.args.k c.if-board-k.false (sym c.is_mul.ensures ∙ c.if-not-is_mul.false)))
