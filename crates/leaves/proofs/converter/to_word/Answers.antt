-- `leaves::converter::to_word` meets its contract: the test finds the NaN's patterns, whose word is 0; any other is of its size and its sign.
-- Assumes nothing.
use borrow.Author.Rules.{rules}
use mathlib.Core.Path.{sym, ap, ◌∙◌}
use Prim.Native.Nat.{ℕ, ◌%◌}
use native.Mathlib.Omega.{arith}
use lib.Dec.{leb, lit<}
use Rattle.values.proofs.Patterns.{above_inf, up_to_inf}
use Rattle.leaves.specs.Converter.{as_pattern, clipped, to_word}
use Rattle.leaves.proofs.WordCode.{plain_not_below_zero, signed_word}
use Rattle.leaves.proofs.converter.to_word.Goals as goal

pub returns-then-plain-gt2139095040 : goal.returns-then-plain-gt2139095040
unfolding to_word
returns-then-plain-gt2139095040 c = (sym (ap to_word (above_inf c.args.bits (search rules))), lit< tt)

pub float_from_bits-plain : goal.float_from_bits-plain
float_from_bits-plain c = let w = c.args.bits % 0x8000_0000 in up_to_inf w (omega arith)

pub size_of-requires : goal.size_of-requires
size_of-requires c = plain_not_below_zero c.args.bits (search rules)

pub returns : goal.returns
returns c = (
  c.pattern_of.ensures.0 ∙ ap (λ (n : ℕ). as_pattern (clipped (leb 0x8000_0000 c.args.bits) n)) c.size_of.ensures.0 ∙ signed_word c.args.bits (search rules),
  c.pattern_of.ensures.1,
)
