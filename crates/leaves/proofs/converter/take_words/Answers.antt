-- `leaves::converter::take_words` meets its contract: after i turns the first i samples stand in the float block. Assumes nothing.
use Prim.Native.Nat.{ℕ, ◌/◌}
use mathlib.Core.Path.{◌≡◌, refl, sym, ap, ◌∙◌}
use native.Mathlib.Omega.{arith}
use lib.Ieee.{binary32, to_bits}
use lib.ListN.{length}
use Rattle.values.specs.Words.{words, length-words, unwords, unwords-words}
use Rattle.values.specs.Floats.{set_float}
use Rattle.leaves.specs.Converter.{of_word, triples}
use Rattle.leaves.proofs.Triples.{length-triples, triples_at}
use Rattle.leaves.proofs.WordBlocks.{taken_next, taken_all}
use Rattle.leaves.proofs.converter.take_words.Goals as goal

-- the pattern of a word's sample
abbrev pattern : ℕ → ℕ
pattern u = to_bits binary32 (of_word u)

pub loop-i-init : goal.loop-i-init
loop-i-init c = (refl, (λ k. omega (arith, c.type_inv.floats k)), refl)

pub loop-i-preserved : goal.loop-i-preserved
loop-i-preserved c =
    let l = c.loop-i in
    let input = c.args.input.now in
    let word = sym (triples_at input l.i (omega arith)) in (
      omega arith,
      (λ k. omega (arith, c.type_inv.floats k)),
      taken_next pattern (triples input) (words l.floats) _ l.i (omega (arith, length-words l.floats)) (omega (arith, length-triples input)) l.invariant.2
          (c.store.ensures ∙ ap (set_float (words l.floats) l.i) (c.take_word.ensures ∙ ap of_word word)),
    )

pub returns : goal.returns
returns c =
    let input = c.args.input.now in
    let l = c.loop-i in
    let n : ℕ = length c.args.floats.now / 4 in
    let all : l.i ≡ n = omega arith in
    unwords-words l.floats n (omega arith) l.invariant.1
    ∙ ap unwords (taken_all pattern (triples input) (words l.floats) n (omega (arith, length-words l.floats)) (omega (arith, length-triples input))
    (rw all at l.invariant.2))
