-- The promise of one call: on memory that shows cells it leaves what shows the cells that its effects leave, and replies by node 0's samples
-- then, with the nodes of a block run taken in any order.
--     block_whole          the input block of an accepted block run is whole
--     message_given        the node of an accepted message is there, and its value in range
--     effects_fit, effects-whole, effects_leave, effects-wiring    so what calls set is in range, their blocks are whole, and the wiring stays
--     Writes, call_writes  a call runs no block, or one whose outputs it writes
--     call_shown           the promise
-- A new call has its case in `done_proper`, `call_writes` and `call_shown`; a new form of blocks takes `block_by`. Assumes nothing.
use Prim.Native.Nat.{ℕ, ◌+◌, ◌*◌, ◌<◌}
use mathlib.Core.Path.{◌≡◌, refl, sym, ap, ◌∙◌}
use mathlib.Core.Logic.{◌⊎◌, inl, inr}
use mathlib.Core.Bool.{Bool, true, false, cond}
use mathlib.Core.List.{List, [], ◌∷◌, map}
use native.Mathlib.Omega.{arith}
use borrow.Author.Tests.{eqb-true}
use lib.Dec.{eqb}
use lib.Ieee.{binary32}
use lib.Ieee.Bits.{of_bits-fits}
use lib.ListN.{length, get_or}
use Rattle.values.specs.Parts.{part}
use Rattle.values.specs.Words.{words, unwords, length-words, words-unwords}
use Rattle.leaves.specs.Converter.{floats_of, words_of}
use Rattle.leaves.proofs.Triples.{floats_long}
use Rattle.kinds.specs.Kind.{samples_from}
use Rattle.kinds.specs.Rule.{Frame}
use Rattle.kinds.specs.Cell.{value_fits, number_fits}
use Rattle.kinds.proofs.Kept.{value_number}
use Rattle.reading.specs.Table.{All}
use Rattle.reading.specs.Order.{Wire}
use Rattle.reading.specs.Effect.{Effect, run, set, rewire, wiring_after, blocks as blocks_of}
use Rattle.reading.specs.Board.{Leaves}
use Rattle.reading.specs.Blocks as blocks
use Rattle.reading.specs.Blocks.{acts, run_block, set_state}
use Rattle.boards.specs.Board.{Parsed, Progress, whole}
use Rattle.boards.specs.Judge.{read_board}
use Rattle.boards.specs.BoardParts.{wired as with_wires}
use Rattle.memory.specs.Memory.{kind_at, passed}
use Rattle.running.specs.Run.{run_nodes, run_block as run_block_of}
use Rattle.context.specs.Block.{Outcome, check_blocks, check_samples, as_left, check_block, ran_block, block_in}
use Rattle.memory.specs.Calls.{and_then, check_memory, call_by, change_by, check_message, put_number, message_of}
use Rattle.samples.specs.Reading.{mono, Call, block, block24, message, value_of, answer_to, accepts, done, effects, Fixed, Form, as_floats, as_words, form_of, bytes_in, Reply, outputs, reply_by, reply_to}
use Rattle.samples.specs.Claim.{replied, call_in}
use Rattle.samples.specs.Instance.{Cells, net_of, board_with, memory_rules, memory_with, shown, memory_of, Held}
use Rattle.memory.specs.Fine.{Fine}
use Rattle.records.specs.declared.answer.Answer.{Answer}
use Rattle.samples.proofs.ShownCells.{Long}
use Rattle.samples.proofs.ShownBlock.{OfBoard, order_long, order_shown, message_shown, input_long, input_shown, left_out, right_out}
use Rattle.memory.proofs.CallChecks.{then_both}
use Rattle.context.proofs.BlockChecks.{sizes_accepted, sizes_passed, samples_passed}
use Rattle.memory.proofs.CallMessage.{number_told}
use Rattle.packed.specs.Packed.{packed, check_packed_blocks, packed_in}
use Rattle.packed.proofs.PackedLengths.{packed_accepted, packed_passed}
use Rattle.samples.proofs.ShownBytes.{memory_passes}

-- ---- what an accepted call's checks say

pub accepted-answer : (p : Parsed) (c : Call) → accepts p c ≡ true → (answer_to p c).number ≡ 0
accepted-answer p c e = eqb-true (answer_to p c).number 0 e

module _ (p : Parsed) (x l r : List ℕ) (yes' : accepts p (block x l r) ≡ true) where
  both_pass : ((check_blocks p x l r).number ≡ 0) × ((check_samples 0 (words x)).number ≡ 0)
  both_pass = then_both (check_blocks p x l r) (check_samples 0 (words x)) (accepted-answer p (block x l r) yes')

  sizes : (length x ≡ 4 * p.size) × (length l ≡ 4 * p.size) × (length r ≡ 4 * p.size)
  sizes = sizes_accepted p.size (length x) (length l) (length r) both_pass.0

  blocks_pass : answer_to p (block x l r) ≡ passed
  blocks_pass = λ i. and_then (sizes_passed p.size (length x) (length l) (length r) sizes i) (samples_passed 0 (words x) both_pass.1 i)

  pub block_whole : length (words x) ≡ p.size
  block_whole = length-words x ∙ omega (arith, sizes.0)

module _ (p : Parsed) (x l r : List ℕ) (yes' : accepts p (block24 x l r) ≡ true) where
  threes : (length x ≡ 3 * p.size) × (length l ≡ 3 * p.size) × (length r ≡ 3 * p.size)
  threes = packed_accepted p.size (length x) (length l) (length r) (accepted-answer p (block24 x l r) yes')

  packed_pass : answer_to p (block24 x l r) ≡ passed
  packed_pass = packed_passed p.size (length x) (length l) (length r) threes

  words_whole : length (words (floats_of x)) ≡ p.size
  words_whole = length-words (floats_of x) ∙ omega (arith, floats_long x p.size threes.0)

-- the node of an accepted message is there, and its value in range; the answer is 0
pub message_given : (p : Parsed) (k w : ℕ) → accepts p (message k w) ≡ true
    → (k < length p.nodes) × (value_fits (kind_at p k) (value_of w) ≡ true) × (answer_to p (message k w) ≡ passed)
message_given p k w e = number_told p k (value_of w) (accepted-answer p (message k w) e)

-- what calls do: their blocks are whole, the numbers that they set in range, and the wiring stays
abbrev Proper : {W : Type 0} → Parsed → Effect W ℕ ℕ → Type 0
Proper p (run xs) = length xs ≡ p.size
Proper p (set k v) = number_fits (kind_at p k) v ≡ true
Proper p (rewire w) = ⊥

done_proper : (W : Type 0) (p : Parsed) (c : Call) → accepts p c ≡ true → All {A = Effect W ℕ ℕ} (Proper p) (done c)
done_proper W p (block x l r) e = (block_whole p x l r e, tt)
done_proper W p (block24 x l r) e = (words_whole p x l r e, tt)
done_proper W p (message k w) e = (value_number (kind_at p k) (value_of w) (of_bits-fits binary32 w) (message_given p k w e).1, tt)

effects_proper : (W : Type 0) (p : Parsed) (c : Call) → All {A = Effect W ℕ ℕ} (Proper p) (effects p c)
effects_proper W p c = go (accepts p c) refl
  where
    go : (b : Bool) → accepts p c ≡ b → All {A = Effect W ℕ ℕ} (Proper p) (cond b (done c) [])
    go true e = done_proper W p c e
    go false e = tt

-- so, of the effects of any calls
abbrev pub NumberFits : {W : Type 0} → Parsed → Effect W ℕ ℕ → Type 0
NumberFits p (run xs) = Unit {0}
NumberFits p (set k v) = number_fits (kind_at p k) v ≡ true
NumberFits p (rewire w) = Unit {0}

abbrev pub Whole : {W : Type 0} → ℕ → Effect W ℕ ℕ → Type 0
Whole n (run xs) = length xs ≡ n
Whole n (set k v) = Unit {0}
Whole n (rewire w) = Unit {0}

module _ {W : Type 0} (p : Parsed) where
  proper_fits : (es : List (Effect W ℕ ℕ)) → All (Proper p) es → All (NumberFits p) es
  proper_fits [] a = tt
  proper_fits (run xs ∷ es) a = (tt, proper_fits es a.1)
  proper_fits (set k v ∷ es) a = (a.0, proper_fits es a.1)
  proper_fits (rewire w ∷ es) a = absurd a.0

  proper_whole : (es : List (Effect W ℕ ℕ)) → All (Proper p) es → All (Whole p.size) es
  proper_whole [] a = tt
  proper_whole (run xs ∷ es) a = (a.0, proper_whole es a.1)
  proper_whole (set k v ∷ es) a = (tt, proper_whole es a.1)
  proper_whole (rewire w ∷ es) a = absurd a.0

  proper_leaves : (Ok : W → Type 0) (es : List (Effect W ℕ ℕ)) → All (Proper p) es → All (Leaves Ok) es
  proper_leaves Ok [] a = tt
  proper_leaves Ok (run xs ∷ es) a = (tt, proper_leaves Ok es a.1)
  proper_leaves Ok (set k v ∷ es) a = (tt, proper_leaves Ok es a.1)
  proper_leaves Ok (rewire w ∷ es) a = absurd a.0

  proper_wiring : (w : W) (es : List (Effect W ℕ ℕ)) → All (Proper p) es → wiring_after w es ≡ w
  proper_wiring w [] a = refl
  proper_wiring w (run xs ∷ es) a = proper_wiring w es a.1
  proper_wiring w (set k v ∷ es) a = proper_wiring w es a.1
  proper_wiring w (rewire v ∷ es) a = absurd a.0

pub effects_fit : (W : Type 0) (p : Parsed) (c : Call) → All {A = Effect W ℕ ℕ} (NumberFits p) (effects p c)
effects_fit W p c = proper_fits p (effects p c) (effects_proper W p c)

pub effects-whole : (W : Type 0) (p : Parsed) (c : Call) → All {A = Effect W ℕ ℕ} (Whole p.size) (effects p c)
effects-whole W p c = proper_whole p (effects p c) (effects_proper W p c)

pub effects_leave : {W : Type 0} (p : Parsed) (Ok : W → Type 0) (c : Call) → All (Leaves Ok) (effects p c)
effects_leave {W} p Ok c = proper_leaves p Ok (effects p c) (effects_proper W p c)

pub effects-wiring : {W : Type 0} (p : Parsed) (w : W) (c : Call) → wiring_after w (effects p c) ≡ w
effects-wiring {W} p w c = proper_wiring p w (effects p c) (effects_proper W p c)

-- a block run, accepted or not
block_writes : (b : Bool) (form : Form) (xs : List ℕ) (a : Answer) (l r : List ℕ) (fs : List Frame) → (blocks_of {W = Fixed} {Value = ℕ} (cond b (run xs ∷ []) []) ≡ 0)
    ⊎ ((blocks_of {W = Fixed} {Value = ℕ} (cond b (run xs ∷ []) []) ≡ 1) × (reply_by form b a l r fs ≡ outputs form a fs))
block_writes true form xs a l r fs = inr (refl, refl)
block_writes false form xs a l r fs = inl refl

-- a call runs no block, or one whose outputs it writes
abbrev pub Writes : Parsed → Call → List Frame → Type 0
Writes p c fs = (blocks_of {W = Fixed} (effects p c) ≡ 0) ⊎ ((blocks_of {W = Fixed} (effects p c) ≡ 1) × (reply_to p c fs ≡ outputs (form_of c) (answer_to p c) fs))

pub call_writes : (p : Parsed) (c : Call) (fs : List Frame) → Writes p c fs
call_writes p (block x l r) fs = block_writes (accepts p (block x l r)) as_floats (words x) (answer_to p (block x l r)) l r fs
call_writes p (block24 x l r) fs = block_writes (accepts p (block24 x l r)) as_words (words (floats_of x)) (answer_to p (block24 x l r)) l r fs
call_writes p (message k w) fs = inl (go (accepts p (message k w)))
  where
    go : (b : Bool) → blocks_of {W = Fixed} (cond b (done (message k w)) []) ≡ 0
    go true = refl
    go false = refl

-- ---- a call, under a wiring w, on memory that shows the cells m

module _ {C W : Type 0} (p : Parsed) (first : W) (wires : W → List Wire) (does : W → C → List (Effect W ℕ ℕ)) (order : Parsed → List ℕ) where
  -- what calls do to the cells, with the nodes of a block run taken in the order of each board
  abbrev pub doing : List (Effect W ℕ ℕ) → W × Cells → W × Cells
  doing =
      acts (run_block (board_with p first wires does) (memory_with p wires) (λ v. order (with_wires p (wires v))))
      (set_state (board_with p first wires does) (memory_with p wires))

module _ {C W : Type 0} (p : Parsed) (first : W) (wires : W → List Wire) (does : W → C → List (Effect W ℕ ℕ)) (order : Parsed → List ℕ)
    (board : List ℕ) (w : W) (reads : read_board board ≡ whole (with_wires p (wires w))) (fine : Fine (with_wires p (wires w)))
    (nodes : OfBoard (with_wires p (wires w)) (order (with_wires p (wires w))))
    (m : Cells) (long : Long p m) (held : (k : ℕ) → Held (kind_at p k) (m k).state) where
  abbrev q : Parsed
  q = with_wires p (wires w)

  abbrev o : List ℕ
  o = order q

  abbrev M : List ℕ
  M = memory_of p m

  -- the cells that the effects leave
  abbrev leaves : List (Effect W ℕ ℕ) → Cells
  leaves es = (doing p first wires does order es (w, m)).1

  long' : Long q m
  long' k = record { samples = (long k).samples; line = (long k).line }

  -- checks 7 and 8 leave the answer to the others
  checks_rest : (a : Answer) → check_memory q M a ≡ a
  checks_rest = memory_passes q fine m long' held

  -- ---- a block run

  -- of a float block that is whole
  module _ (x : List ℕ) (whole-block : length (words x) ≡ p.size) where
    abbrev put : Cells
    put = blocks.put_input (net_of q) (λ i. mono (get_or (words x) i 0)) m

    abbrev after : Cells
    after = blocks.run_nodes (net_of q) (memory_rules q) o put

    ran_block_lem : ran_block q o x M ≡ record {
      answer = passed;
      memory = memory_of p after;
      left = unwords (map (λ (f : Frame). f.left) (after 0).samples);
      right = unwords (map (λ (f : Frame). f.right) (after 0).samples);
    }
    ran_block_lem =
        let before-long : Long q put = input_long q fine m long' (words x) whole-block in
        let after-long : Long q after = order_long q o put before-long in
        let values : run_block_of q o (words x) (words M) ≡ shown q after =
        ap (run_block_of q o (words x)) (words-unwords (shown q m))
        ∙ ap (run_nodes q o) (input_shown q fine m long' (words x) whole-block)
        ∙ order_shown q fine o nodes put before-long in
        let ls = ap (λ (v : List ℕ). part v samples_from p.size) values ∙ left_out q fine after after-long in
        let rs = ap (λ (v : List ℕ). part v (samples_from + p.size) p.size) values ∙ right_out q fine after after-long in
        λ i. record { answer = passed; memory = unwords (values i); left = unwords (ls i); right = unwords (rs i) }

  abbrev left_by : Outcome → List ℕ × Reply
  left_by d = (d.memory, replied d)

  module _ (x l r : List ℕ) where
    -- what the two forms share: `does` is the run, and `form` what its outputs are written as
    block_by : (form : Form) (xs : List ℕ) (a : Answer) (does : Outcome)
        → (eqb a.number 0 ≡ true → does ≡ record {
          answer = a;
          memory = memory_of p (leaves (run xs ∷ []));
          left = bytes_in form (map (λ (f : Frame). f.left) (leaves (run xs ∷ []) 0).samples);
          right = bytes_in form (map (λ (f : Frame). f.right) (leaves (run xs ∷ []) 0).samples);
        })
        → (b : Bool) → eqb a.number 0 ≡ b
        → left_by (cond b does (as_left a M l r)) ≡ (memory_of p (leaves (cond b (run xs ∷ []) [])), reply_by form b a l r (leaves (cond b (run xs ∷ []) []) 0).samples)
    block_by form xs a does ran true e = ap left_by (ran e)
    block_by form xs a does ran false e = refl

    block_shown : call_in order board (block x l r) M ≡ (memory_of p (leaves (effects p (block x l r))), reply_to p (block x l r) (leaves (effects p (block x l r)) 0).samples)
    unfolding block_in
    block_shown =
        let c : Call = block x l r in
        ap (λ (d : Progress). left_by (call_by (λ a. as_left a M l r) (λ v. check_block v M x l r) (λ v. ran_block v (order v) x M) d)) reads
        ∙ ap (λ (a : Answer). left_by (cond (eqb a.number 0) (ran_block q o x M) (as_left a M l r))) (checks_rest (answer_to p c))
        ∙ block_by as_floats (words x) (answer_to p c) (ran_block q o x M)
        (λ e. ran_block_lem x (block_whole p x l r e) ∙ ap (λ (a : Answer). record {
          answer = a;
          memory = memory_of p (after x (block_whole p x l r e));
          left = unwords (map (λ (f : Frame). f.left) (after x (block_whole p x l r e) 0).samples);
          right = unwords (map (λ (f : Frame). f.right) (after x (block_whole p x l r e) 0).samples);
        }) (sym (blocks_pass p x l r e)))
        (accepts p c) refl

    packed_shown : call_in order board (block24 x l r) M
        ≡ (memory_of p (leaves (effects p (block24 x l r))), reply_to p (block24 x l r) (leaves (effects p (block24 x l r)) 0).samples)
    unfolding packed_in
    packed_shown =
        let c : Call = block24 x l r in
        ap (λ (d : Progress). left_by (call_by (λ a. as_left a M l r) (λ v. check_memory v M (check_packed_blocks v x l r)) (λ v. packed (ran_block v (order v) (floats_of x) M)) d)) reads
        ∙ ap (λ (a : Answer). left_by (cond (eqb a.number 0) (packed (ran_block q o (floats_of x) M)) (as_left a M l r))) (checks_rest (answer_to p c))
        ∙ block_by as_words (words (floats_of x)) (answer_to p c) (packed (ran_block q o (floats_of x) M))
        (λ e.
        let done = after (floats_of x) (words_whole p x l r e) 0 in
        ap packed (ran_block_lem (floats_of x) (words_whole p x l r e))
        ∙ (λ i. record {
          answer = sym (packed_pass p x l r e) i;
          memory = memory_of p (after (floats_of x) (words_whole p x l r e));
          left = words_of (words-unwords (map (λ (f : Frame). f.left) done.samples) i);
          right = words_of (words-unwords (map (λ (f : Frame). f.right) done.samples) i);
        }))
        (accepts p c) refl

  -- ---- a number message

  module _ (k v : ℕ) where
    abbrev told : List ℕ
    told = unwords (put_number q k (value_of v) (words M))

    message_by : call_in order board (message k v) M
        ≡ (memory_of p (leaves (effects p (message k v))), reply_to p (message k v) (leaves (effects p (message k v)) 0).samples)
    unfolding message_of memory_rules
    message_by =
        ap (λ (d : Progress). told_by (change_by M (λ y. check_message y M k (value_of v)) (λ y. put_number y k (value_of v) (words M)) d)) reads
        ∙ ap (λ (a : Answer). told_by (cond (eqb a.number 0) (passed, told) (a, M))) (checks_rest (answer_to p (message k v)))
        ∙ go (accepts p (message k v)) refl
      where
        told_by : Answer × List ℕ → List ℕ × Reply
        told_by r = (r.1, record { answer = r.0; left = []; right = [] })

        go : (b : Bool) → accepts p (message k v) ≡ b
            → told_by (cond b (passed, told) (answer_to p (message k v), M))
            ≡ (memory_of p (leaves (cond b (done (message k v)) [])), record { answer = answer_to p (message k v); left = []; right = [] })
        go true e =
            let given = message_given p k v e in
            let values = ap (put_number q k (value_of v)) (words-unwords (shown q m)) ∙ message_shown q fine m long' k given.0 (value_of v) in
            λ i. (unwords (values i), record { answer = sym given.2 i; left = []; right = [] })
        go false e = refl

  -- the promise of a call
  pub call_shown : (c : Call) → call_in order board c (memory_of p m)
      ≡ (memory_of p (doing p first wires does order (effects p c) (w, m)).1, reply_to p c ((doing p first wires does order (effects p c) (w, m)).1 0).samples)
  call_shown (block x l r) = block_shown x l r
  call_shown (block24 x l r) = packed_shown x l r
  call_shown (message k v) = message_by k v
