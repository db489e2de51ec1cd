-- A block of a rendering is the block run on the samples that were read. Assumes nothing.
use mathlib.Core.Path.{◌≡◌, ap, ◌∙◌}
use mathlib.Core.List.{List}
use Prim.Native.Nat.{ℕ, ◌*◌}
use lib.ListN.{length}
use Rattle.values.specs.Words.{words, unwords, Bytes, unwords-words}
use Rattle.context.specs.Block.{Outcome, as_left}
use Rattle.context.specs.Block as calls
use Rattle.records.specs.declared.answer.Answer.{Answer}
use Rattle.wav.specs.Frames.{block_of, interleaved}
use Rattle.wav.specs.declared.format.Format.{Format}
use Rattle.render.specs.Turn.{run_on, Turned}

module _ (board memory bytes input l r : List ℕ) (f : Format) (n : ℕ) (a : Answer) (memory' l' r' frames : List ℕ) where
  pub turned : length input ≡ 4 * n → Bytes input → words input ≡ block_of f bytes n → as_left a memory' l' r' ≡ calls.block_of board memory input l r
      → words frames ≡ interleaved (words l') (words r') → Turned (run_on board memory f bytes n l r) a memory' frames
  turned long small filled ran made =
      let same : input ≡ unwords (block_of f bytes n) = unwords-words input n long small ∙ ap unwords filled in
      let run : as_left a memory' l' r' ≡ run_on board memory f bytes n l r = ran ∙ ap (λ (x : List ℕ). calls.block_of board memory x l r) same in
      record {
        answered = ap (λ (x : Outcome). x.answer) run;
        kept = ap (λ (x : Outcome). x.memory) run;
        made = made ∙ ap (λ (x : Outcome). interleaved (words x.left) (words x.right)) run;
      }
