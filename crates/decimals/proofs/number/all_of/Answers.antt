-- `decimals::number::all_of` meets its contract: two runs of digits, one after the other. Assumes nothing.
use mathlib.Core.Path.{sym, ap, ◌∙◌}
use native.Mathlib.Nat.{le_trans, le_of_eq}
use native.Mathlib.Numerals.{add-one}
use native.Mathlib.Omega.{arith}
use Rattle.decimals.specs.Number.{number_from, all_of}
use Rattle.decimals.proofs.Rounding.{first_room, second_room}
use Rattle.decimals.proofs.number.all_of.Goals as goal

pub number_from-whole-requires : goal.number_from-whole-requires
number_from-whole-requires c = (c.args.d.before, first_room _ _ c.small.ensures (omega (arith, c.requires)))

pub number_from-requires : goal.number_from-requires
number_from-requires c = (c.args.d.behind, second_room _ _ _ _ c.small.ensures c.number_from-whole.ensures.1 c.requires)

pub returns : goal.returns
unfolding all_of
returns c =
    let d = c.args.d in (
      le_trans (le_of_eq (sym (add-one _))) (le_trans c.number_from.ensures.1 (second_room _ _ _ _ c.small.ensures c.number_from-whole.ensures.1 c.requires)),
      c.number_from.ensures.0 ∙ ap (number_from d.fraction.now) (c.number_from-whole.ensures.0 ∙ ap (number_from d.whole.now) c.small.ensures),
    )
