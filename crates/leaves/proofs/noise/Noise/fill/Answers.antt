-- `leaves::noise::Noise::fill` meets its contract: after i turns the first i samples stand in the block. Assumes nothing.
use Prim.Native.Nat.{ℕ, ◌+◌, ◌/◌}
use mathlib.Core.Path.{◌≡◌, refl, ap, ◌∙◌}
use native.Mathlib.Omega.{arith}
use lib.ListN.{length}
use Rattle.values.specs.Words.{words, length-words, unwords, unwords-words}
use Rattle.values.specs.Floats.{set_float}
use Rattle.leaves.specs.Noise.{sample_of, xorshift, samples, state_after}
use Rattle.leaves.proofs.NoiseBlocks.{filled_next, filled_all, state-next}
use Rattle.leaves.proofs.noise.Noise.fill.Goals as goal

pub loop-i-init : goal.loop-i-init
unfolding samples state_after
loop-i-init c = (refl, (λ k. omega (arith, c.type_inv.block k)), refl, refl)

pub loop-i-preserved : goal.loop-i-preserved
loop-i-preserved c =
    let l = c.loop-i in
    let start = c.args.self.now in
    let stepped : c.next_sample.new.self ≡ state_after (l.i + 1) start = c.next_sample.ensures.state ∙ ap xorshift l.invariant.3 ∙ state-next l.i start in (
      omega arith,
      (λ k. omega (arith, c.type_inv.block k)),
      filled_next (words l.block) _ l.i start (omega (arith, length-words l.block)) l.invariant.2
          (c.store.ensures ∙ ap (set_float (words l.block) l.i) (c.next_sample.ensures.sample ∙ ap sample_of stepped)),
      stepped,
    )

pub returns-clause-block : goal.returns-clause-block
returns-clause-block c =
    let l = c.loop-i in
    let n : ℕ = length c.args.block.now / 4 in
    let all : l.i ≡ n = omega arith in
    unwords-words l.block n (omega arith) l.invariant.1
    ∙ ap unwords (filled_all (words l.block) n c.args.self.now (omega (arith, length-words l.block)) (rw all at l.invariant.2))
