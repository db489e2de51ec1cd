-- A packed block whose lengths are those that the board's head says, by the float block's run.
--     packed_ran        accepted: the float block's outcome, packed
--     packed_refused    refused: the float block's answer, and every byte as found
--     as_float_block    so a packed block is the float block of the converted input, with its outputs converted
-- Assumes nothing.
use Prim.Native.Nat.{ℕ, ◌*◌}
use mathlib.Core.Path.{◌≡◌, refl, sym, ap, ◌∙◌}
use mathlib.Core.Bool.{Bool, true, false, cond}
use mathlib.Core.List.{List}
use native.Mathlib.Omega.{arith}
use borrow.Author.Tests.{eqb-false}
use lib.Dec.{eqb}
use lib.ListN.{length}
use Rattle.std.specs.Prelude.{Some, Ok, Err}
use Rattle.records.specs.Answer.{checked}
use Rattle.leaves.specs.Converter.{floats_of, words_of}
use Rattle.memory.proofs.CallChecks.{checked_passed, checked_refused}
use Rattle.values.specs.Words.{Bytes, words}
use Rattle.boards.specs.Board.{Parsed, Progress, going, refused, whole}
use Rattle.boards.specs.Judge.{read_board}
use Rattle.boards.proofs.Ending.{Ended, board_ends}
use Rattle.memory.specs.Memory.{passed, listed}
use Rattle.memory.specs.Calls.{and_then, check_memory, call_by}
use Rattle.context.specs.Block.{Outcome, as_left, check_block, check_samples, ran_block, block_in, block_of}
use Rattle.context.proofs.BlockChecks.{sizes_passed}
use Rattle.records.specs.declared.answer.Answer.{Answer}
use Rattle.packed.specs.Packed.{packed, check_packed_blocks, packed_in, packed_of}
use Rattle.packed.specs.Said.{size_said}
use Rattle.leaves.proofs.Triples.{floats_long}
use Rattle.packed.proofs.Finite.{words_finite}
use Rattle.packed.proofs.Head.{same_size, said_is}
use Rattle.packed.proofs.PackedLengths.{packed_passed}

-- the two calls agree: d is the float block's outcome, e the packed block's, for the bytes m, l and r
abbrev pub Agree : List ℕ → List ℕ → List ℕ → Outcome → Outcome → Type 0
Agree m l r d e = (d.answer.number ≡ 0 → (d.answer ≡ passed) × (packed d ≡ e)) × ((d.answer.number ≡ 0 → ⊥) → as_left d.answer d.memory l r ≡ e)

module _ (s m x l r L R : List ℕ) (n : ℕ) (bytes : Bytes s) (small : Bytes x) (said : size_said s ≡ Some n)
    (long : (length x ≡ 3 * n) × (length l ≡ 3 * n) × (length r ≡ 3 * n)) (room : (length L ≡ 4 * n) × (length R ≡ 4 * n)) where
  -- for an accepted board both checks come down to 7 and 8
  float_check : (p : Parsed) → n ≡ p.size → check_block p m (floats_of x) L R ≡ check_memory p m passed
  float_check p e =
      let four = ap (λ (k : ℕ). 4 * k) e in
      let floats : length (floats_of x) ≡ 4 * n = floats_long x n long.0 in
      ap (λ (a : Answer). check_memory p m (and_then a (check_samples 0 (words (floats_of x)))))
      (sizes_passed p.size (length (floats_of x)) (length L) (length R) (floats ∙ four, room.0 ∙ four, room.1 ∙ four))
      ∙ ap (check_memory p m) (words_finite x small)

  packed_check : (p : Parsed) → n ≡ p.size → check_memory p m (check_packed_blocks p x l r) ≡ check_memory p m passed
  packed_check p e =
      let three = ap (λ (k : ℕ). 3 * k) e in
      ap (check_memory p m) (packed_passed p.size (length x) (length l) (length r) (long.0 ∙ three, long.1 ∙ three, long.2 ∙ three))

  abbrev float_by : Progress → Outcome
  float_by v = call_by (λ a. as_left a m L R) (λ p. check_block p m (floats_of x) L R) (λ p. ran_block p (listed p) (floats_of x) m) v

  abbrev packed_by : Progress → Outcome
  packed_by v = call_by (λ a. as_left a m l r) (λ p. check_memory p m (check_packed_blocks p x l r)) (λ p. packed (ran_block p (listed p) (floats_of x) m)) v

  agree_by : (v : Progress) → read_board s ≡ v → Ended v → Agree m l r (float_by v) (packed_by v)
  agree_by (going at last p) e ended = absurd ended
  agree_by (refused n w) e ended = ((λ z. absurd (omega arith)), (λ h. refl))
  agree_by (whole p) e ended =
      let size = same_size n p.size (sym said ∙ said_is s bytes p e) in
      rw (float_check p size, packed_check p size) (go (check_memory p m passed) (eqb (check_memory p m passed).number 0) refl)
    where
      go : (a : Answer) (q : Bool) → eqb a.number 0 ≡ q
          → Agree m l r (cond q (ran_block p (listed p) (floats_of x) m) (as_left a m L R)) (cond q (packed (ran_block p (listed p) (floats_of x) m)) (as_left a m l r))
      go a true f = ((λ z. (refl, refl)), (λ h. absurd (h refl)))
      go a false f = ((λ z. absurd (eqb-false a.number 0 f z)), (λ h. refl))

  agree : Agree m l r (block_of s m (floats_of x) L R) (packed_of s m x l r)
  unfolding block_in packed_in
  agree = agree_by (read_board s) refl (board_ends s)

  -- as the code takes the input and runs the block
  module _ (d : Outcome) (floats : List ℕ) (taken : floats ≡ floats_of x) (e : d ≡ block_of s m floats L R) where
    both : Agree m l r d (packed_of s m x l r)
    both = rw (e, taken) agree

    -- where it is accepted, its answer is 0, 0
    pub packed_ran : Ok tt ≡ checked d.answer → record { answer = passed; memory = d.memory; left = words_of (words d.left); right = words_of (words d.right) } ≡ packed_of s m x l r
    packed_ran h =
        let two = both.0 (checked_passed d.answer h) in
        (λ i. record { answer = sym two.0 i; memory = d.memory; left = words_of (words d.left); right = words_of (words d.right) }) ∙ two.1

    pub packed_refused : (a : Answer) → Err a ≡ checked d.answer → as_left a d.memory l r ≡ packed_of s m x l r
    packed_refused a h =
        let given = checked_refused d.answer a h in
        let some : d.answer.number ≡ 0 → ⊥ = λ z. omega (arith, given.1, ap (λ (b : Answer). b.number) (sym given.0) ∙ z) in
        (λ i. as_left (sym given.0 i) d.memory l r) ∙ both.1 some

-- On a board that is read as p, with blocks of the lengths that go with it, the packed block and the float block of the converted input agree,
-- whatever the output blocks of the two hold before: answer and memory are the same, and where they are accepted the packed outputs are the
-- float outputs converted.
pub as_float_block : (s m x l r L R : List ℕ) → Bytes s → Bytes x → (p : Parsed) → read_board s ≡ whole p
    → (length x ≡ 3 * p.size) × (length l ≡ 3 * p.size) × (length r ≡ 3 * p.size) → (length L ≡ 4 * p.size) × (length R ≡ 4 * p.size)
    → Agree m l r (block_of s m (floats_of x) L R) (packed_of s m x l r)
as_float_block s m x l r L R bytes small p reads long room = agree s m x l r L R p.size bytes small (said_is s bytes p reads) long room
