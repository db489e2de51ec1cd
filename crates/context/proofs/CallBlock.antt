-- The bytes after an accepted block run, on the board as the code holds it (`block_ran`).
-- Assumes nothing.
use Prim.Native.Nat.{ℕ, ◌+◌, ◌*◌, ◌≤◌}
use mathlib.Core.Path.{◌≡◌, refl, ap, ◌∙◌}
use mathlib.Core.List.{List, [], ◌++◌, append-nil}
use native.Mathlib.Omega.{arith}
use lib.ListN.{length, take, drop, length-drop}
use lib.Seq.{paste, length-paste, drop-length}
use Rattle.values.specs.Words.{words, unwords, unwords-words, Bytes}
use Rattle.values.specs.Parts.{part, words-part}
use Rattle.kinds.specs.Kind.{samples_from}
use Rattle.boards.specs.Board.{cells_of}
use Rattle.memory.specs.Memory.{passed, listed}
use Rattle.running.specs.Run.{run_block}
use Rattle.context.specs.Block.{as_left, ran_block}
use Rattle.boards.specs.Read.{parsed_of}
use Rattle.boards.specs.declared.board.Board.{Board}
use Rattle.context.proofs.CallAccepted.{AcceptedRun, checked, output_room}

-- a copy over the whole of a slice
copied_whole : (d s : List ℕ) (n : ℕ) → length d ≡ n → paste d 0 s n ≡ take n s
copied_whole d s n e =
    let all : 0 + n ≡ length d = omega arith in
    let none : drop (0 + n) d ≡ [] = ap (λ (k : ℕ). drop k d) all ∙ drop-length d in
    ap (λ (l : List ℕ). take n s ++ l) none ∙ append-nil (take n s)

-- the bytes after an accepted block run: the memory's, and the two outputs, copied out of it
module _ {m x l r : List ℕ} {b : Board} (run : AcceptedRun m x l r b) (m' : List ℕ) (bytes : Bytes m') (kept : length m' ≡ length m)
    (ran : words m' ≡ run_block (parsed_of b) (listed (parsed_of b)) (words x) (words m)) where
  abbrev ws : List ℕ
  ws = run_block (parsed_of b) (listed (parsed_of b)) (words x) (words m)

  channel : (d d' : List ℕ) (at : ℕ) → length d ≡ 4 * b.size → Bytes d' → d' ≡ paste d 0 (drop (4 * at) m') (4 * b.size)
      → 4 * (at + b.size) ≤ length m' → d' ≡ unwords (part ws at b.size)
  channel d d' at size small copied inside =
      let here : d' ≡ take (4 * b.size) (drop (4 * at) m') = copied ∙ copied_whole d (drop (4 * at) m') (4 * b.size) size in
      let words_are : words d' ≡ part ws at b.size = ap words here ∙ words-part m' at b.size (4 * b.size) refl ∙ ap (λ (v : List ℕ). part v at b.size) ran in
      let long : length d' ≡ 4 * b.size =
      ap length copied ∙ length-paste d 0 (drop (4 * at) m') (4 * b.size) (omega arith) (omega (arith, length-drop (4 * at) m')) ∙ size in
      unwords-words d' b.size long small ∙ ap unwords words_are

  pub block_ran : (l' r' : List ℕ) → Bytes l' → Bytes r' → l' ≡ paste l 0 (drop (4 * samples_from) m') (length l)
      → r' ≡ paste r 0 (drop (4 * samples_from + length l) m') (length r) → as_left passed m' l' r' ≡ ran_block (parsed_of b) (listed (parsed_of b)) x m
  block_ran l' r' left-bytes right-bytes left-copied right-copied =
      let c = checked run in
      let p = parsed_of b in
      let at : 4 * samples_from + length l ≡ 4 * (samples_from + b.size) = omega (arith, c.left_long) in
      let memory : m' ≡ unwords ws = unwords-words m' (cells_of p.size p.nodes) (kept ∙ c.long) bytes ∙ ap unwords ran in
      let left : l' ≡ unwords (part ws samples_from b.size) = channel l l' samples_from c.left_long left-bytes (left-copied ∙ ap (paste l 0 (drop (4 * samples_from) m')) c.left_long) (omega (arith, output_room run)) in
      let right : r' ≡ unwords (part ws (samples_from + b.size) b.size) =
      channel r r' (samples_from + b.size) c.right_long right-bytes (right-copied ∙ (λ i. paste r 0 (drop (at i) m') (c.right_long i))) (omega (arith, output_room run)) in
      λ i. as_left passed (memory i) (left i) (right i)
