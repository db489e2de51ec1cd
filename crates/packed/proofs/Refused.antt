-- A packed block that the judged board or its own lengths refuse.
--     board_refused      checks 1 to 8
--     lengths_refused    check 13: a block is of another length than the board's head says
-- Assumes nothing.
use Prim.Native.Nat.{ℕ}
use mathlib.Core.Path.{◌≡◌, sym, ap, ◌∙◌}
use mathlib.Core.Bool.{false}
use mathlib.Core.List.{List}
use lib.ListN.{length}
use Rattle.values.specs.Words.{Bytes}
use Rattle.std.specs.Prelude.{Some}
use Rattle.records.specs.Answer.{answer, checked}
use Rattle.records.specs.declared.answer.Answer.{Answer}
use Rattle.boards.specs.Board.{Parsed, whole, memory_length}
use Rattle.boards.specs.BoardParts.{Refuses}
use Rattle.boards.specs.Judge.{read_board}
use Rattle.leaves.specs.Converter.{floats_of}
use Rattle.memory.specs.Memory.{listed}
use Rattle.memory.specs.Calls.{check_needed, check_values}
use Rattle.memory.specs.Stages.{read_open, read_judged}
use Rattle.memory.proofs.CallBy.{held_told, judged_call, call_refused, call_lacking}
use Rattle.context.specs.Block.{Outcome, as_left, ran_block}
use Rattle.packed.specs.Packed.{packed, check_packed_blocks, packed_in, packed_of}
use Rattle.packed.specs.Said.{size_said, lengths_fit}
use Rattle.packed.proofs.Head.{said_is}
use Rattle.packed.proofs.PackedLengths.{other_lengths}

module _ (s m x l r : List ℕ) where
  abbrev found : Answer → Outcome
  found a = as_left a m l r

  abbrev own : Parsed → Answer
  own p = check_packed_blocks p x l r

  abbrev done : Parsed → Outcome
  done p = packed (ran_block p (listed p) (floats_of x) m)

  pub board_refused : (a : Answer) → Refuses (read_judged s m) a → as_left a m l r ≡ packed_of s m x l r
  unfolding packed_in
  board_refused a h = sym (judged_call found own done s m ∙ call_refused found own done (read_judged s m) a h)

  module _ (bytes : Bytes s) (p : Parsed) (judged : read_judged s m ≡ whole p) where
    -- the board was read whole, so its head says its block size
    said : size_said s ≡ Some p.size
    said =
        let opened = (held_told (λ q. check_values q m) (read_open s (length m)) p judged).0 in
        said_is s bytes p (held_told (λ q. check_needed (memory_length q) (length m)) (read_board s) p opened).0

    pub lengths_refused : ((n : ℕ) → size_said s ≡ Some n → lengths_fit n (length x) (length l) (length r) ≡ false)
        → (a : Answer) → a ≡ answer 13 p.size → as_left a m l r ≡ packed_of s m x l r
    unfolding packed_in
    lengths_refused other a is =
        let thirteen : answer 13 p.size ≡ own p = other_lengths (length x) (length l) (length r) p.size (other p.size said) in
        ap found is ∙ sym (judged_call found own done s m ∙ call_lacking found own done (read_judged s m) p judged (answer 13 p.size) (ap checked thirteen))
