-- `wav::block::fill_block` meets its contract: one sample more stands in the block. Assumes nothing.
use Rattle.std.proofs.Common.{◌≡◌, ℕ, ◌/◌, ◌<◌, length, take, refl, ap, subst, ◌∙◌, arith}
use Rattle.values.specs.Words.{words, length-words}
use Rattle.values.specs.Floats.{set_float}
use Rattle.wav.specs.Frames.{listed, block_of}
use Rattle.wav.proofs.Lists.{listed_next, listed_end}
use Rattle.wav.proofs.block.fill_block.Goals as goal

pub loop-i-init : goal.loop-i-init
unfolding listed
loop-i-init c = refl

pub loop-i-preserved : goal.loop-i-preserved
loop-i-preserved c =
    let l = c.loop-i in
    let room : l.i < length (words l.block) = omega (arith, length-words l.block) in
    listed_next _ _ _ _ room l.invariant (c.store.ensures ∙ ap (set_float (words l.block) l.i) c.sample_in.ensures)

pub returns : goal.returns
returns c =
    let l = c.loop-i in
    let all : l.i ≡ length c.args.block.now / 4 = omega arith in
    listed_end _ _ _ (omega (arith, length-words l.block))
    (subst (λ (n : ℕ). take n (words l.block) ≡ block_of c.args.format c.args.frames.now n) all l.invariant)
