-- `rig::burst::rig_bytes` meets its contract: after i turns the bytes of the first i blocks are written, and those of the blocks to come are what the
-- generator and the memory, as they are, will give. Assumes nothing.
use Prim.Native.Nat.{ℕ, suc, ◌+◌, ◌-◌, ◌*◌}
use mathlib.Core.Path.{◌≡◌, refl, sym, ap, ◌∙◌}
use mathlib.Core.List.{List, ◌++◌, map, append-nil}
use native.Mathlib.Omega.{arith}
use borrow.Rule.Slice.PartMut.{put_mid}
use lib.ListN.{length, take}
use lib.Seq.{take_all}
use Rattle.leaves.specs.Noise.{default_start}
use Rattle.boards.specs.JudgeCases.{printed}
use Rattle.context.specs.Block.{block_of}
use Rattle.samples.specs.Burst.{quiet, burst, output_bytes}
use Rattle.rig.specs.Rig.{fresh, rig_replies, rig_bytes}
use Rattle.records.specs.declared.answer.Answer.{Answer}
use Rattle.rig.proofs.Read.{rig_accepted}
use Rattle.rig.proofs.Turns.{goes_on, laid_on, laid_long, laid_both}
use Rattle.rig.proofs.burst.rig_bytes.Goals as goal

pub loop-i-init : goal.loop-i-init
loop-i-init c =
    let start : rig_replies 4 c.new-noise.result c.fresh.new.memory ≡ rig_replies 4 default_start fresh = λ i. rig_replies 4 (c.new-noise.ensures i) (c.fresh.ensures.bytes i) in
    (refl, ap output_bytes start, ap (map (λ d. d.answer)) start ∙ rig_accepted)

pub prove-unreachable-requires : goal.prove-unreachable-requires
prove-unreachable-requires c =
    let l = c.loop-i in
    let more : 4 - l.i ≡ suc (3 - l.i) = omega arith in
    let run = c.block-answer.ensures ∙ ap (λ (x : List ℕ). block_of printed l.memory x (quiet 2) (quiet 2)) c.fill.ensures.block in
    c.if-prove.true (ap (λ (a : Answer). a.number) (goes_on (3 - l.i) l.noise l.memory _ _ _ _ _ c.fill.ensures.state run (rw more at l.invariant.2)).0)

pub loop-i-preserved : goal.loop-i-preserved
loop-i-preserved c =
    let l = c.loop-i in
    let more : 4 - l.i ≡ suc (3 - l.i) = omega arith in
    let fewer : 4 - (l.i + 1) ≡ 3 - l.i = omega arith in
    let run = c.block-answer.ensures ∙ ap (λ (x : List ℕ). block_of printed l.memory x (quiet 2) (quiet 2)) c.fill.ensures.block in
    let at = 16 * l.i in
    let front = take at l.bytes in
    let left = c.copy_from_slice.new.self in
    let right = c.copy_from_slice-in-loop-i.new.self in
    let copied : front ++ (left ++ right) ≡ front ++ (c.block-answer.new.out0 ++ c.block-answer.new.out1) = λ i. front ++ (c.copy_from_slice.ensures.after i ++ c.copy_from_slice-in-loop-i.ensures.after i) in
    let long : length (put_mid at (at + 8 - at) l.bytes left) ≡ 64 = laid_long at (at + 8) l.bytes left (omega arith) (omega arith) ∙ l.invariant.0 in
    rw fewer (
      laid_long (at + 8) (at + 16) _ right (omega (arith, long)) (omega arith) ∙ long,
      ap (λ (w : List ℕ). w ++ output_bytes (rig_replies (3 - l.i) c.fill.new.self c.block-answer.new.memory))
          (laid_both at _ (at + 8) _ (16 * (l.i + 1)) l.bytes left right (omega arith) (omega arith) (omega arith) (omega (arith, long)) ∙ copied)
          ∙ laid_on (3 - l.i) l.noise l.memory _ _ _ _ _ c.fill.ensures.state run front rig_bytes (rw more at l.invariant.1),
      (goes_on (3 - l.i) l.noise l.memory _ _ _ _ _ c.fill.ensures.state run (rw more at l.invariant.2)).1,
    )

pub returns : goal.returns
unfolding burst output_bytes
returns c =
    let l = c.loop-i in
    let all : l.i ≡ 4 = omega arith in
    sym (take_all 64 l.bytes (omega (arith, l.invariant.0))) ∙ rw (all, append-nil) at l.invariant.1
