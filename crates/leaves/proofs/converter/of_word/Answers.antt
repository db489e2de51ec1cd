-- `leaves::converter::of_word` meets its contract: the difference is the word's number, and over 2^23 it loses nothing. Assumes nothing.
use mathlib.Core.Path.{ap, subst, ◌∙◌}
use Prim.Native.Nat.{◌*◌, ◌/◌, ◌^◌}
use native.Mathlib.Omega.{arith}
use lib.Dec.{T}
use lib.IntN.{ℤ}
use lib.Ieee.{binary32, in_float, of_int, of_bits, div}
use Rattle.values.specs.Floors.{whole}
use Rattle.leaves.specs.Converter.{as_number, of_word}
use Rattle.leaves.proofs.Quotient.{difference_small, over-is}
use Rattle.leaves.proofs.Signs.{difference_is}
use Rattle.leaves.proofs.WordCode.{number_is}
use Rattle.leaves.proofs.converter.of_word.Goals as goal

pub returns : goal.returns
unfolding of_bits of_word
returns c =
    let u = c.args.word in
    let number = number_is u c.requires in
    ap (λ (z : ℤ). div binary32 (of_int binary32 z) (whole 1 23)) (difference_is u (u / 2 ^ 23 * 2 ^ 24) (omega arith) ∙ number)
    ∙ over-is (as_number u) (subst (λ (z : ℤ). T (in_float binary32 z)) number (difference_small u (u / 2 ^ 23 * 2 ^ 24) (omega arith)))
