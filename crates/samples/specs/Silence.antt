-- Silence after the tail (document 01, "Leaves"): "from fresh memory, output is zero at most that many samples after input turns zero for
-- good". Of a list of calls only the accepted block runs count time, block b the times b × N to b × N + N − 1; refused calls and number messages
-- may stand anywhere among them. If the input samples from time `since` on are zeros, of either sign, then the outputs from time `since` plus
-- the tail on are 0: those of every reading of the calls, and those that the calls write, +0 in float blocks, since a destination's sum starts at +0,
-- and the word 0 in packed ones.
-- Part of what the statements say. Definitions only; the theorem is in proofs/Silence.antt.
use Rattle.std.specs.Prelude.{ℕ, ◌+◌, ◌/◌, ◌%◌, ◌≤◌, ◌<◌, ◌≡◌, ◌⊎◌, cond, List, [], ◌∷◌, map, get_or, eqb}
use Rattle.values.specs.Words.{words}
use Rattle.leaves.specs.Converter.{triples}
use Rattle.kinds.specs.Rule.{Frame}
use Rattle.kinds.specs.History.{Heard}
use Rattle.reading.specs.Order.{Reorders}
use Rattle.reading.specs.Effect.{Effect, blocks}
use Rattle.reading.specs.Time.{Timed}
use Rattle.reading.specs.Calls.{replies}
use Rattle.boards.specs.Board.{Parsed, whole}
use Rattle.boards.specs.Judge.{read_board}
use Rattle.memory.specs.Memory.{listed}
use Rattle.samples.specs.Reading.{Call, Form, as_floats, as_words, form_of, Reply, silence, IsReading, effects, Fixed, accepted, end, input_at}
use Rattle.samples.specs.Claim.{call_in, fresh_memory}

-- the pattern of a zero, of either sign
abbrev pub Zero : ℕ → Type 0
Zero w = (w ≡ 0) ⊎ (w ≡ 0x8000_0000)

-- the input of accepted calls is zero from time `since` on
abbrev pub QuietInput : Parsed → List (Effect Fixed ℕ ℕ) → ℕ → Type 0
QuietInput p es since = (t : ℕ) → since ≤ t → t < end p es → Zero (input_at p es t)

-- ---- what the calls write

-- of the replies to calls, those to accepted block runs
unfoldable pub played : Parsed → List Call → List Reply → List Reply
played p [] rs = []
played p (c ∷ cs) [] = []
played p (c ∷ cs) (d ∷ rs) = cond (eqb (blocks {W = Fixed} (effects p c)) 0) (played p cs rs) (d ∷ played p cs rs)

-- the forms of the blocks that they wrote
unfoldable pub forms : Parsed → List Call → List Form
forms p [] = []
forms p (c ∷ cs) = cond (eqb (blocks {W = Fixed} (effects p c)) 0) (forms p cs) (form_of c ∷ forms p cs)

-- the samples in a block's bytes: floats' patterns, or words' patterns
abbrev pub samples_in : Form → List ℕ → List ℕ
samples_in as_floats b = words b
samples_in as_words b = triples b

-- the output sample of a time, of the blocks that they wrote on one channel; where there is none it is 1, and no zero
abbrev pub output_at : Parsed → List Form → List (List ℕ) → ℕ → ℕ
output_at p fs bs t = get_or (samples_in (get_or fs (t / p.size) as_floats) (get_or bs (t / p.size) [])) (t % p.size) 1

-- ---- the claim about a board that reads as p, a list of calls whose input is zero from time `since` on, and a tail

pub record Silent (board : List ℕ) (p : Parsed) (cs : List Call) (since tail : ℕ) : Type 0 where
  -- whatever solves the reading's equations: node 0's samples are 0 on both channels
  pub samples : (s : Timed Frame) (u : Timed Heard) → IsReading p (accepted p cs) s u → (t : ℕ) → since + tail ≤ t
      → t < end p (accepted p cs) → s t 0 ≡ silence
  -- from fresh memory, in the visiting list's order and in every other that demand 3 speaks of: the samples that the accepted block runs write
  -- into their two output blocks are 0
  pub outputs : (order : Parsed → List ℕ) → Reorders p.wires (listed p) (order p) → (t : ℕ) → since + tail ≤ t → t < end p (accepted p cs)
      → let rs = played p cs (replies (call_in order board) cs (fresh_memory p)) in
      (output_at p (forms p cs) (map (λ r. r.left) rs) t ≡ 0) × (output_at p (forms p cs) (map (λ r. r.right) rs) t ≡ 0)

-- ---- what a tail of n samples says of a board's bytes: they are read as a board, and the claim holds of every list of calls and of
-- every time from which on their input is zero

pub record Tailed (board : List ℕ) (n : ℕ) : Type 0 where
  pub parsed : Parsed
  pub reads : read_board board ≡ whole parsed
  pub silent : (cs : List Call) (since : ℕ) → QuietInput parsed (accepted parsed cs) since → Silent board parsed cs since n
