-- Noise is never refused: on every board that the judge accepts, from fresh memory, each block of a burst answers 0, in every order that puts the
-- source first on exactly the same wires. Assumes nothing.
--     burst_accepted    the theorem
use Prim.Native.Nat.{ℕ, zero, suc, ◌+◌, ◌*◌, ◌^◌, ◌<◌}
use mathlib.Core.Path.{◌≡◌, refl, ap, ◌∙◌}
use mathlib.Core.Bool.{Bool, true, false}
use mathlib.Core.List.{List, ◌∷◌, map}
use native.Mathlib.Omega.{arith}
use lib.ListN.{length, replicate, length-replicate}
use lib.Ieee.{binary32, to_bits}
use Rattle.values.specs.Words.{Bytes, words, words-unwords, length-unwords}
use Rattle.values.specs.Floats.{finite_bits}
use Rattle.leaves.specs.Noise.{xorshift, state_after, sample_of, samples, noise_block}
use Rattle.leaves.proofs.NoiseLaws.{xorshift_lt, after_lt, sample_word, word_of}
use Rattle.kinds.specs.Rule.{Frame}
use Rattle.reading.specs.Order.{Reorders}
use Rattle.reading.specs.Effect.{blocks}
use Rattle.reading.specs.Time.{Timed, last_block}
use Rattle.reading.specs.Calls.{replies}
use Rattle.boards.specs.Board.{Parsed, whole}
use Rattle.boards.specs.Judge.{read_board}
use Rattle.memory.specs.Memory.{passed, listed}
use Rattle.memory.specs.Calls.{and_then}
use Rattle.context.specs.Block.{check_samples}
use Rattle.context.proofs.BlockChecks.{sizes_passed}
use Rattle.packed.proofs.Finite.{word_finite}
use Rattle.samples.specs.Reading.{block, answer_to, accepts, as_floats, Fixed, effects, silence, reply_by, reply_to, replies_to}
use Rattle.samples.specs.Claim.{call_in, fresh_memory}
use Rattle.samples.specs.Burst.{quiet, burst}
use Rattle.samples.proofs.Demand.{board_claim}
use Rattle.records.specs.declared.answer.Answer.{Answer}

-- ---- a block of noise

finite : (n s i : ℕ) → s < 2 ^ 32 → check_samples i (samples n s) ≡ passed
unfolding samples check_samples
finite zero s i h = refl
finite (suc n) s i h =
    let t = xorshift s in
    let small = xorshift_lt s h in
    let fine : finite_bits (to_bits binary32 (sample_of t)) ≡ true = rw (sample_word t small) (word_finite (word_of t) (omega arith)) in
    rw fine (finite n t (suc i) small)

many : (n s : ℕ) → length (samples n s) ≡ n
unfolding samples
many zero s = refl
many (suc n) s = ap suc (many n (xorshift s))

pub noise_long : (n s : ℕ) → length (noise_block n s) ≡ 4 * n
noise_long n s = length-unwords (samples n s) ∙ ap (λ (k : ℕ). 4 * k) (many n s)

module _ (p : Parsed) where
  noise_passes : (s : ℕ) → s < 2 ^ 32 → answer_to p (block (noise_block p.size s) (quiet p.size) (quiet p.size)) ≡ passed
  noise_passes s h =
      let N : ℕ = p.size in
      let x = noise_block N s in
      let still : length (quiet N) ≡ 4 * N = length-replicate (4 * N) 0 in
      ap (λ (a : Answer). and_then a (check_samples 0 (words x))) (sizes_passed N (length x) (length (quiet N)) (length (quiet N)) (noise_long N s, still, still))
      ∙ ap (check_samples 0) (words-unwords (samples N s)) ∙ finite N s 0 h

  -- ---- a burst

  -- the answer of a block's reply is that of its checks, whatever is given
  block_answer : (x l r : List ℕ) (fs : List Frame) → (reply_to p (block x l r) fs).answer ≡ answer_to p (block x l r)
  block_answer x l r fs = go (accepts p (block x l r))
    where
      go : (b : Bool) → (reply_by as_floats b (answer_to p (block x l r)) l r fs).answer ≡ answer_to p (block x l r)
      go true = refl
      go false = refl

  burst_replies : (f : Timed Frame) (n s b : ℕ) → s < 2 ^ 32 → map (λ d. d.answer) (replies_to p f b (burst p.size n s)) ≡ replicate n passed
  unfolding burst replies_to
  burst_replies f zero s b h = refl
  burst_replies f (suc n) s b h =
      let c = block (noise_block p.size s) (quiet p.size) (quiet p.size) in
      let m : ℕ = b + blocks {W = Fixed} (effects p c) in
      let answered : (reply_to p c (last_block p.size silence f m 0)).answer ≡ passed = block_answer (noise_block p.size s) (quiet p.size) (quiet p.size) (last_block p.size silence f m 0) ∙ noise_passes s h in
      λ i. answered i ∷ burst_replies f n (state_after p.size s) m (after_lt p.size s h) i

pub burst_accepted : (board : List ℕ) → Bytes board → (p : Parsed) → read_board board ≡ whole p → (n s : ℕ) → s < 2 ^ 32
    → (order : Parsed → List ℕ) → Reorders p.wires (listed p) (order p)
    → map (λ d. d.answer) (replies (call_in order board) (burst p.size n s) (fresh_memory p)) ≡ replicate n passed
burst_accepted board small p reads n s h order fit =
    let claim = board_claim board small p reads (burst p.size n s) in
    ap (map (λ d. d.answer)) (claim.as_read claim.samples claim.known claim.reads order fit).replies
    ∙ burst_replies p claim.samples n s 0 h
