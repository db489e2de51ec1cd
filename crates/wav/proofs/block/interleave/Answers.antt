-- `wav::block::interleave` meets its contract: one frame more is written. Assumes nothing.
use Rattle.std.proofs.Common.{◌≡◌, ℕ, ◌+◌, ◌*◌, ◌/◌, ◌<◌, length, take, set, refl, ap, subst, ◌∙◌, arith}
use Rattle.values.specs.Words.{words, length-words}
use Rattle.wav.specs.Frames.{interleaved}
use Rattle.wav.proofs.Lists.{pair_next, interleaved_end}
use Rattle.wav.proofs.block.interleave.Goals as goal

pub loop-i-init : goal.loop-i-init
unfolding interleaved
loop-i-init c = refl

pub loop-i-preserved : goal.loop-i-preserved
loop-i-preserved c =
    let l = c.loop-i in
    let args = c.args in
    let room : 2 * l.i + 1 < length (words l.frames) = omega (arith, length-words l.frames) in
    let in_left : l.i < length (words args.left.now) = omega (arith, length-words args.left.now) in
    let in_right : l.i < length (words args.right.now) = omega (arith, length-words args.right.now) in
    pair_next _ _ _ _ _ _ in_left in_right room l.invariant (c.put_word.ensures ∙ ap (set (words l.frames) (2 * l.i)) c.word_at.ensures)
    (c.put_word-in-loop-i.ensures ∙ ap (set (words c.put_word.new.mem) (2 * l.i + 1)) c.word_at-in-loop-i.ensures)

pub returns : goal.returns
returns c =
    let args = c.args in
    let l = c.loop-i in
    let left = words args.left.now in
    let right = words args.right.now in
    let all : l.i ≡ length args.left.now / 4 = omega arith in
    interleaved_end _ _ _ (length args.left.now / 4) (omega (arith, length-words args.left.now)) (omega (arith, length-words args.right.now)) (omega (arith, length-words l.frames))
    (subst (λ (n : ℕ). take (2 * n) (words l.frames) ≡ interleaved (take n left) (take n right)) all l.invariant)
