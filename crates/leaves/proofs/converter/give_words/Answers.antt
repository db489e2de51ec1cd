-- `leaves::converter::give_words` meets its contract: after i turns the first i words stand in the packed block. Assumes nothing.
use Prim.Native.Nat.{ℕ, ◌*◌, ◌/◌}
use mathlib.Core.Path.{◌≡◌, refl, ap, ◌∙◌}
use native.Mathlib.Omega.{arith}
use lib.Ieee.{binary32, of_bits}
use lib.ListN.{length}
use lib.Seq.{sets}
use Rattle.values.specs.Words.{words, length-words}
use Rattle.values.specs.Bytes.{u24_bytes}
use Rattle.leaves.specs.Converter.{to_word, words_of}
use Rattle.leaves.proofs.WordBlocks.{given_next, given_all}
use Rattle.leaves.proofs.converter.give_words.Goals as goal

pub loop-i-init : goal.loop-i-init
unfolding words_of
loop-i-init c = (refl, refl)

pub loop-i-preserved : goal.loop-i-preserved
loop-i-preserved c =
    let l = c.loop-i in
    let floats = c.args.floats.now in
    let word = ap (λ (b : ℕ). to_word (of_bits binary32 b)) c.word_at.ensures in (
      omega arith,
      given_next (words floats) l.out _ l.i (omega (arith, length-words floats)) (omega arith) l.invariant.1
          (c.give_word.ensures ∙ ap (λ (w : ℕ). sets l.out (3 * l.i) (u24_bytes w)) word),
    )

pub returns : goal.returns
returns c =
    let floats = c.args.floats.now in
    let l = c.loop-i in
    let n : ℕ = length c.args.floats.now / 4 in
    let all : l.i ≡ n = omega arith in
    given_all (words floats) l.out n (omega (arith, length-words floats)) (omega arith) (rw all at l.invariant.1)
