-- The reading by samples (document 01). Block b, from 0, has the times b × N to b × N + N − 1; at each time every reached node applies its row
-- of the table (`sample_heard`, `heard_after` of the crate kinds) to what its wires bring. A call has its answer, what it does where it is accepted,
-- and its reply (`answer_to`, `done`, `reply_to`); all else speaks of what calls do (`Effect` of the crate reading). Part of what the statements
-- say. Definitions only.
use Rattle.std.specs.Prelude.{ℕ, suc, ◌+◌, ◌*◌, ◌/◌, ◌%◌, ◌<◌, ◌≡◌, Bool, true, cond, List, [], ◌∷◌, ◌++◌, map, length, get_or, replicate, eqb, Float}
use Rattle.std.specs.Float.{binary32}
use Rattle.std.specs.Float.Ieee.{of_bits, to_bits}
use Rattle.values.specs.Words.{words, unwords}
use Rattle.leaves.specs.Converter.{floats_of, words_of}
use Rattle.kinds.specs.Kind.{channels_of}
use Rattle.kinds.specs.Rule.{Brought, Frame, with_number}
use Rattle.kinds.specs.Cell.{Cell, values_of, number_of, fresh_cell}
use Rattle.kinds.specs.History.{Heard, fresh_heard, set_number, sample_heard, heard_after, state_of}
use Rattle.reading.specs.Table.{mem, joined}
use Rattle.reading.specs.Order.{late}
use Rattle.reading.specs.Effect.{Effect, run, set, inputs, blocks, told, told_by, heard}
use Rattle.reading.specs.Time.{Timed, block_ago, last_block}
use Rattle.sources.specs.Sources.{distinct_sources, second_source}
use Rattle.boards.specs.Board.{Parsed}
use Rattle.memory.specs.Memory.{kind_at, listed}
use Rattle.memory.specs.Calls.{and_then, check_number}
use Rattle.context.specs.Block.{check_blocks, check_samples}
use Rattle.packed.specs.Packed.{check_packed_blocks}
use Rattle.records.specs.declared.answer.Answer.{Answer}

-- ---- calls: a line for each in what it answers, what it does and what it replies

-- a call as it comes: a block run with the bytes of its input block and of the two output blocks, float blocks or packed ones (document 02, [1]),
-- or a number message with its node and its value's 32 bits
pub data Call : Type 0 where
  block : List ℕ → List ℕ → List ℕ → Call
  block24 : List ℕ → List ℕ → List ℕ → Call
  message : ℕ → ℕ → Call

-- a message's value
abbrev pub value_of : ℕ → Float
value_of w = of_bits binary32 w

-- 9, 10 for float blocks, 13 for packed ones, 11, 12 for messages: a board that is read, and its memory as calls leave it, pass the checks before
-- these, and 8 never occurs
abbrev pub answer_to : Parsed → Call → Answer
answer_to p (block x l r) = and_then (check_blocks p x l r) (check_samples 0 (words x))
answer_to p (block24 x l r) = check_packed_blocks p x l r
answer_to p (message k w) = check_number p k (value_of w)

-- what an accepted call does: a block is run with its samples' patterns, those that its words are converted to, a message sets its node's number
abbrev pub done : {W : Type 0} → Call → List (Effect W ℕ ℕ)
done (block x l r) = run (words x) ∷ []
done (block24 x l r) = run (words (floats_of x)) ∷ []
done (message k w) = set k (to_bits binary32 (value_of w)) ∷ []

-- the answer, and the output blocks as the call left them (a message has none)
pub record Reply : Type 0 where
  pub answer : Answer
  pub left : List ℕ
  pub right : List ℕ

abbrev pub accepts : Parsed → Call → Bool
accepts p c = eqb (answer_to p c).number 0

-- the form of the blocks that a call writes: floats of 4 bytes, or words of 3 bytes; a message writes none
pub data Form : Type 0 where
  as_floats : Form
  as_words : Form

abbrev pub form_of : Call → Form
form_of (block x l r) = as_floats
form_of (block24 x l r) = as_words
form_of (message k w) = as_floats

-- the bytes of samples, from their patterns
abbrev pub bytes_in : Form → List ℕ → List ℕ
bytes_in as_floats ws = unwords ws
bytes_in as_words ws = words_of ws

-- two channels as output blocks
abbrev pub outputs : Form → Answer → List Frame → Reply
outputs form a fs = record { answer = a; left = bytes_in form (map (λ f. f.left) fs); right = bytes_in form (map (λ f. f.right) fs) }

-- the reply, from node 0's last block after the call: the outputs are node 0's channels; a refused call leaves its blocks as found
abbrev pub reply_by : Form → Bool → Answer → List ℕ → List ℕ → List Frame → Reply
reply_by form accepted a l r fs = cond accepted (outputs form a fs) (record { answer = a; left = l; right = r })

abbrev pub reply_to : Parsed → Call → List Frame → Reply
reply_to p (block x l r) fs = reply_by as_floats (accepts p (block x l r)) (answer_to p (block x l r)) l r fs
reply_to p (block24 x l r) fs = reply_by as_words (accepts p (block24 x l r)) (answer_to p (block24 x l r)) l r fs
reply_to p (message k w) fs = record { answer = answer_to p (message k w); left = []; right = [] }

-- ---- what calls do

-- a refused call changes nothing
abbrev pub effects : {W : Type 0} → Parsed → Call → List (Effect W ℕ ℕ)
effects p c = cond (accepts p c) (done c) []

-- what a list of calls does on a board whose wires stay: there is one wiring
abbrev pub Fixed : Type 0
Fixed = Unit {0}

abbrev pub accepted : Parsed → List Call → List (Effect Fixed ℕ ℕ)
accepted p cs = heard (λ w c. effects p c) tt cs

-- ---- samples by time and node

-- a sample of one channel, and zero on both
abbrev pub mono : ℕ → Frame
mono x = record { left = x; right = 0 }

abbrev pub silence : Frame
silence = mono 0

-- the reached nodes are the listed ones: node 0 and each from which wires lead to it (`lists_reached` of the crate graph)
abbrev pub reached : Parsed → ℕ → Bool
reached p k = mem k (listed p)

module _ {W : Type 0} (p : Parsed) (es : List (Effect W ℕ ℕ)) where
  -- the time after the last block
  abbrev pub end : ℕ
  end = blocks es * p.size

  -- the input sample of a time
  abbrev pub input_at : ℕ → ℕ
  input_at t = get_or (get_or (inputs es) (t / p.size) []) (t % p.size) 0

  -- what the accepted messages between block b - 1 and block b make of what is known of node k: each to the node sets its number to the
  -- message's value, from then on
  abbrev pub told_in : ℕ → ℕ → Heard → Heard
  told_in b k h = told (λ j. set_number) es b k h

  -- at a time: messages come between blocks
  abbrev pub told_at : ℕ → ℕ → Heard → Heard
  told_at t k h = cond (eqb (t % p.size) 0) (told_in (t / p.size) k h) h

-- of the frame f that node a brings, what the destination's channel 1 reads: a stereo source's channel 1, else channel 0
abbrev pub right_sample : Parsed → ℕ → Frame → ℕ
right_sample p a f = cond (eqb (channels_of (kind_at p a)) 2) f.right f.left

-- what node k's wires bring, where the wire from a brings f a: each distinct source, by first wire, and the second wire's source
abbrev pub brought_of : Parsed → ℕ → (ℕ → Frame) → Brought
brought_of p k f = record {
  left = map (λ a. of_bits binary32 (f a).left) (distinct_sources p.wires k);
  right = map (λ a. of_bits binary32 (right_sample p a (f a))) (distinct_sources p.wires k);
  second = of_bits binary32 (f (second_source p.wires k)).left;
}

module _ (p : Parsed) (s : Timed Frame) where
  -- node a's sample of N earlier, zero before time 0
  abbrev pub ago_n : Timed Frame
  ago_n t a = block_ago p.size silence s t a

  -- what the wire from a to k brings at time t: its source's sample of the same time, a late one that of N earlier
  abbrev pub brings : ℕ → ℕ → ℕ → Frame
  brings t k a = cond (late (listed p) a k) (ago_n t a) (s t a)

  -- what node k's wires bring at time t
  abbrev pub brought_to : Timed Brought
  brought_to t k = brought_of p k (brings t k)

-- what a pass without wires in gives: the input sample if it is the input node, else its own of N earlier
abbrev pub held_at : {W : Type 0} → Parsed → List (Effect W ℕ ℕ) → Timed Frame → ℕ → ℕ → Frame
held_at p es s t k = cond (eqb k p.input) (mono (input_at p es t)) (ago_n p s t k)

-- s is the samples of the reached nodes, and u what is known of them just before each time
pub record IsReading {W : Type 0} (p : Parsed) (es : List (Effect W ℕ ℕ)) (s : Timed Frame) (u : Timed Heard) : Type 0 where
  -- the number starts as in fresh memory; phase, y1 and the last n x and y start at 0
  pub first : (k : ℕ) → reached p k ≡ true → u 0 k ≡ told_in p es 0 k (fresh_heard (kind_at p k))
  -- each reached node applies its table row to what its wires bring
  pub sample : (t k : ℕ) → t < end p es → reached p k ≡ true
      → s t k ≡ sample_heard (kind_at p k) (u t k) (held_at p es s t k) (brought_to p s t k)
  -- and holds what earlier times left, and the number that a message has set
  pub next : (t k : ℕ) → t < end p es → reached p k ≡ true
      → u (suc t) k ≡ told_at p es (suc t) k (heard_after (kind_at p k) (u t k) (brought_to p s t k))

-- ---- afterwards

-- N frames as a cell's samples: N a channel, channel 0 first
abbrev pub samples_of : ℕ → List Frame → List ℕ
samples_of channels fs = cond (eqb channels 2) (map (λ f. f.left) fs ++ map (λ f. f.right) fs) (map (λ f. f.left) fs)

-- the last of a list of blocks, z if there is none
unfoldable pub last_of : List ℕ → List (List ℕ) → List ℕ
last_of z [] = z
last_of z (x ∷ xs) = last_of x xs

module _ {W : Type 0} (p : Parsed) (es : List (Effect W ℕ ℕ)) where
  -- node k's number after all messages, where nothing else sets it: it starts as in fresh memory
  abbrev pub last_number : ℕ → ℕ
  last_number k = told_by (λ j v n. v) es (blocks es) k (to_bits binary32 (number_of (kind_at p k)))

  module _ (s : Timed Frame) (u : Timed Heard) where
    -- a reached node's cell: its number, its phase or y1, its place and line (`state_of`), and its last block, zeros if none
    abbrev pub reached_cell : ℕ → Cell
    reached_cell k = record {
      state = state_of (kind_at p k) (u (end p es) k);
      samples = samples_of (channels_of (kind_at p k)) (last_block p.size silence s (blocks es) k);
    }

    -- another cell is as fresh but for the number
    abbrev pub other_cell : ℕ → Cell
    other_cell k =
        let c = fresh_cell p.size (kind_at p k) in
        record { state = with_number c.state (last_number k); samples = c.samples }

    -- the input node's samples, listed or not, are the last accepted input block, zeros if none
    abbrev pub cell_after : ℕ → Cell
    cell_after k =
        let c = cond (reached p k) (reached_cell k) (other_cell k) in
        record { state = c.state; samples = cond (eqb k p.input) (last_of (replicate p.size 0) (inputs es)) c.samples }

    -- every byte of the memory: cells in node order
    abbrev pub memory_after : List ℕ
    memory_after = unwords (joined (length p.nodes) (λ k. values_of (cell_after k)))

-- ---- the replies to a list of calls, where b blocks have been run before it

unfoldable pub replies_to : Parsed → Timed Frame → ℕ → List Call → List Reply
replies_to p s b [] = []
replies_to p s b (c ∷ cs) =
    let n = b + blocks {W = Fixed} (effects p c) in
    reply_to p c (last_block p.size silence s n 0) ∷ replies_to p s n cs

-- ---- with wires that change while the board plays (document 02, [8])

-- The same with the board taken at each time as the changes before left it, and with a sample for every node at every time: a reached node
-- applies its row of the table, and a node out of reach stands still. So a sample of N earlier is one of the block that the node last wrote, and
-- what is known of a node counts the samples for which it was run. The boards have p's nodes; s is the samples of the nodes, and u what is known
-- of them just before each time.
pub record IsReadingOn {W : Type 0} (p : Parsed) (board : ℕ → Parsed) (es : List (Effect W ℕ ℕ)) (s : Timed Frame) (u : Timed Heard) : Type 0 where
  pub first : (k : ℕ) → u 0 k ≡ told_in p es 0 k (fresh_heard (kind_at p k))
  -- a reached node applies its table row to what its wires bring, late ones the block that their source last wrote; another keeps what stands
  -- at its place: its own of N earlier, the input node the input sample
  pub sample : (t k : ℕ) → t < end p es
      → s t k ≡ cond (reached (board t) k) (sample_heard (kind_at p k) (u t k) (held_at p es s t k) (brought_to (board t) s t k))
      (held_at p es s t k)
  -- and holds what the times left at which it was run
  pub next : (t k : ℕ) → t < end p es
      → u (suc t) k ≡ told_at p es (suc t) k
      (cond (reached (board t) k) (heard_after (kind_at p k) (u t k) (brought_to (board t) s t k)) (u t k))
