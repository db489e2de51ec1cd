-- One block more of the rig's: what it answers and writes, and what the blocks behind it will.
--     goes_on     its answer, and theirs
--     laid_on     its bytes behind those that are written, and theirs
--     laid_long   an array keeps its length when a part of it is written
--     laid_both   two output blocks, written one behind the other
-- Assumes nothing.
use Prim.Native.Nat.{ℕ, suc, ◌+◌, ◌-◌, ◌≤◌}
use mathlib.Core.Path.{◌≡◌, refl, sym, ap, ◌∙◌}
use mathlib.Core.List.{List, ◌∷◌, ◌++◌, map, append_assoc}
use borrow.Rule.Slice.PartMut.{put_mid, same_len_mid, mid_len}
use lib.ListN.{length, take, replicate}
use Rattle.std.proofs.lemmas.Slice.{take-put_mid}
use Rattle.leaves.specs.Noise.{state_after, noise_block}
use Rattle.boards.specs.JudgeCases.{printed}
use Rattle.memory.specs.Memory.{passed}
use Rattle.context.specs.Block.{Outcome, as_left, block_of}
use Rattle.samples.specs.Reading.{Reply}
use Rattle.samples.specs.Claim.{replied}
use Rattle.samples.specs.Burst.{quiet, burst, output_bytes}
use Rattle.records.specs.declared.answer.Answer.{Answer}
use Rattle.rig.specs.Rig.{rig_replies}

-- n blocks come behind this one, which starts from the state s and the memory m, and leaves s', m' and the two outputs
module _ (n s : ℕ) (m : List ℕ) (a : Answer) (s' : ℕ) (m' l r : List ℕ) where
  abbrev turn : Outcome
  turn = block_of printed m (noise_block 2 s) (quiet 2) (quiet 2)

  abbrev rest : List Reply
  rest = rig_replies n (state_after 2 s) turn.memory

  next : rig_replies (suc n) s m ≡ replied turn ∷ rest
  unfolding burst
  next = refl

  first : output_bytes (rig_replies (suc n) s m) ≡ (turn.left ++ turn.right) ++ output_bytes rest
  unfolding burst output_bytes
  first = refl

  module _ (noise : s' ≡ state_after 2 s) (run : as_left a m' l r ≡ turn) where
    rest_is : rig_replies n s' m' ≡ rest
    rest_is = λ i. rig_replies n (noise i) (run i).memory

    pub goes_on : map (λ d. d.answer) (rig_replies (suc n) s m) ≡ replicate (suc n) passed
        → (a ≡ passed) × (map (λ d. d.answer) (rig_replies n s' m') ≡ replicate n passed)
    goes_on e =
        let all : turn.answer ∷ map (λ d. d.answer) rest ≡ passed ∷ replicate n passed = sym (ap (map (λ d. d.answer)) next) ∙ e in
        (ap (λ (d : Outcome). d.answer) run ∙ cc, ap (map (λ d. d.answer)) rest_is ∙ cc)

    pub laid_on : (front whole : List ℕ) → front ++ output_bytes (rig_replies (suc n) s m) ≡ whole → (front ++ (l ++ r)) ++ output_bytes (rig_replies n s' m') ≡ whole
    laid_on front whole e =
        let same : (l ++ r) ++ output_bytes (rig_replies n s' m') ≡ (turn.left ++ turn.right) ++ output_bytes rest = λ i. ((run i).left ++ (run i).right) ++ output_bytes (rest_is i) in
        append_assoc front (l ++ r) (output_bytes (rig_replies n s' m')) ∙ ap (λ (w : List ℕ). front ++ w) (same ∙ sym first) ∙ e

-- ---- an array in which a part is written

pub laid_long : (at end : ℕ) (xs ys : List ℕ) → end ≤ length xs → length ys ≡ end - at → length (put_mid at (end - at) xs ys) ≡ length xs
laid_long at end xs ys h long = same_len_mid at (end - at) xs ys (long ∙ sym (mid_len at end xs h))

-- its first bytes, where two parts are written one behind the other, up to n and up to n'
pub laid_both : (at k n k' n' : ℕ) (xs l r : List ℕ) → n ≡ at + length l → n' ≡ n + length r → at ≤ length xs → n ≤ length (put_mid at k xs l)
    → take n' (put_mid n k' (put_mid at k xs l) r) ≡ take at xs ++ (l ++ r)
laid_both at k n k' n' xs l r p q h h' =
    take-put_mid n k' (put_mid at k xs l) r n' q h' ∙ ap (λ (w : List ℕ). w ++ r) (take-put_mid at k xs l n p h) ∙ append_assoc (take at xs) l r
