-- One preset at two block sizes (document 02, request 12). Two accepted boards differ only in block size, N above M, and in one line. Exactly
-- one wire is late; its target is a delay with that one wire in, of n samples on the N board and n + N − M on the M board. Without messages,
-- from fresh memory, the same input gives the same stereo stream, sample for sample. Definitions only; the theorem is in proofs/Sizes.antt.
use Rattle.std.specs.Prelude.{ℕ, zero, suc, ◌+◌, ◌-◌, ◌*◌, ◌/◌, ◌<◌, ◌≡◌, true, List, [], ◌∷◌, ◌++◌, map, length, get_or, set, take, drop, replicate}
use Rattle.values.specs.Words.{unwords}
use Rattle.values.specs.Floats.{finite_bits}
use Rattle.kinds.specs.declared.kind.NodeKind.TheVariants.{Delay}
use Rattle.reading.specs.Order.{sources, wire}
use Rattle.reading.specs.Effect.{Effect, run, rewire, inputs}
use Rattle.reading.specs.Effect as effect
use Rattle.reading.specs.Calls.{replies}
use Rattle.records.specs.Answer.{answer}
use Rattle.boards.specs.Board.{Parsed}
use Rattle.boards.specs.Judge.{judge_of}
use Rattle.graph.specs.Late.{late_wires}
use Rattle.memory.specs.Memory.{kind_at, kinds, passed, listed}
use Rattle.memory.specs.Calls.{fresh_of}
use Rattle.samples.specs.Reading.{Call, block, Form, as_floats, Reply, Fixed, accepted}
use Rattle.samples.specs.Claim.{call_in, fresh_memory}
use Rattle.samples.specs.Silence.{played, forms}

-- ---- the two boards

-- What the nodes are, `kinds`: a record's channels follow from its kind; where its cell starts follows from the block size and the kinds before it,
-- so that cells stand elsewhere on the two boards.

-- p is the board of the larger blocks, q that of the smaller ones: they differ in block size, and in the line of the one late wire's target.
-- The visiting list depends on the wires alone, so that the same wire is late on both
pub record OneLine (p q : Parsed) : Type 0 where
  pub larger : q.size < p.size
  pub same_input : q.input ≡ p.input
  pub same_wires : q.wires ≡ p.wires
  -- the one late wire
  pub source : ℕ
  pub target : ℕ
  pub one_late : late_wires (listed p) p.wires ≡ wire source target ∷ []
  -- it is the only wire into its target, a delay of n samples
  pub one_in : sources p.wires target ≡ source ∷ []
  pub n : ℕ
  pub is_delay : kind_at p target ≡ Delay n
  -- on the board of the smaller blocks that delay is of m = n + N − M samples, and all other nodes are the same
  pub m : ℕ
  pub longer : m ≡ n + p.size - q.size
  pub same_kinds : kinds q ≡ set (kinds p) target (Delay m)

-- beyond the request: no wire is late, and the two boards differ in block size alone
pub record SizeOnly (p q : Parsed) : Type 0 where
  pub same_input : q.input ≡ p.input
  pub same_wires : q.wires ≡ p.wires
  pub none_late : late_wires (listed p) p.wires ≡ []
  pub same_kinds : kinds q ≡ kinds p

-- ---- calls without messages, and the streams

-- no number is set
abbrev pub NoMessage : List (Effect Fixed ℕ ℕ) → Type 0
NoMessage [] = Unit {0}
NoMessage (run x ∷ es) = NoMessage es
NoMessage (effect.set k v ∷ es) = ⊥
NoMessage (rewire w ∷ es) = NoMessage es

-- lists one behind another
abbrev pub join : {A : Type 0} → List (List A) → List A
join [] = []
join (l ∷ ls) = l ++ join ls

-- the input samples of the accepted calls of a list, block behind block
abbrev pub input_stream : Parsed → List Call → List ℕ
input_stream p cs = join (inputs (accepted p cs))

-- the stereo stream, as bytes: the output blocks that calls wrote, block behind block
pub record Stereo : Type 0 where
  pub left : List ℕ
  pub right : List ℕ

abbrev pub stereo_of : List Reply → Stereo
stereo_of rs = record { left = join (map (λ r. r.left) rs); right = join (map (λ r. r.right) rs) }

-- what the accepted calls of a list write, from fresh memory
abbrev pub output_stream : List ℕ → Parsed → List Call → Stereo
output_stream board p cs = stereo_of (played p cs (replies (call_in listed board) cs (fresh_memory p)))

-- each sample is written in the same form by both lists, as a float or as a word: block runs of both boards may be of float blocks or of packed
-- ones, where at each time they are of the same
abbrev pub form_at : Parsed → List Call → ℕ → Form
form_at p cs t = get_or (forms p cs) (t / p.size) as_floats

abbrev pub SameForms : Parsed → Parsed → List Call → List Call → Type 0
SameForms p q cs ds = (t : ℕ) → form_at p cs t ≡ form_at q ds t

-- Boards' bytes P and Q, read as p and q: without messages, from fresh memory, the same input stream gives the same stereo stream. Refused
-- calls may stand among the others: they count for nothing. That both sizes divide the stream's length is what its being cut into whole
-- blocks says.
abbrev pub SameSound : List ℕ → List ℕ → Parsed → Parsed → Type 0
SameSound P Q p q = (cs ds : List Call) → NoMessage (accepted p cs) → NoMessage (accepted q ds) → input_stream p cs ≡ input_stream q ds
    → SameForms p q cs ds → output_stream P p cs ≡ output_stream Q q ds

-- ---- beyond the request: the same messages between the same samples

pub data Event : Type 0 where
  sampled : ℕ → Event
  numbered : ℕ → ℕ → Event

-- what calls bring, one after the other: the samples of input blocks, and number messages
abbrev pub events : List (Effect Fixed ℕ ℕ) → List Event
events [] = []
events (run x ∷ es) = map sampled x ++ events es
events (effect.set k v ∷ es) = numbered k v ∷ events es
events (rewire w ∷ es) = events es

-- from fresh memory, the same accepted samples and messages in the same order give the same stereo stream. As messages stand between blocks, it
-- speaks of those that stand where blocks of both sizes end
abbrev pub SameWithMessages : List ℕ → List ℕ → Parsed → Parsed → Type 0
SameWithMessages P Q p q = (cs ds : List Call) → events (accepted p cs) ≡ events (accepted q ds) → SameForms p q cs ds
    → output_stream P p cs ≡ output_stream Q q ds

-- ---- the request's claim of one list of finite samples

-- each sample is the pattern of a finite float
abbrev pub AllFinite : List ℕ → Type 0
AllFinite xs = (i : ℕ) → i < length xs → finite_bits (get_or xs i 0) ≡ true

-- a list cut into c pieces of n
abbrev pub cut : {A : Type 0} → ℕ → ℕ → List A → List (List A)
cut zero n xs = []
cut (suc c) n xs = take n xs ∷ cut c n (drop n xs)

-- the block runs that play a list of samples in c blocks of n, with output blocks of zeros
abbrev pub runs_of : ℕ → ℕ → List ℕ → List Call
runs_of c n xs = map (λ b. block (unwords b) (replicate (4 * n) 0) (replicate (4 * n) 0)) (cut c n xs)

-- what they answer and write, each on the memory that the one before left, the first on what the fresh call makes of the lent memory m
abbrev pub plays : List ℕ → List ℕ → ℕ → ℕ → List ℕ → List Reply
plays board m c n xs = replies (call_in listed board) (runs_of c n xs) (fresh_of board m).1

-- all block runs are accepted, b of the one board and c of the other, and the two stereo streams are the same bytes
pub record SamePlayed (rs : List Reply) (b : ℕ) (qs : List Reply) (c : ℕ) : Type 0 where
  pub accepted : map (λ r. r.answer) rs ≡ replicate b passed
  pub accepted_too : map (λ r. r.answer) qs ≡ replicate c passed
  pub same : stereo_of rs ≡ stereo_of qs

-- Boards' bytes P and Q of block sizes N and M, that the judge accepts, with lent memory as long as it answers: finite samples xs, of a length
-- that both sizes divide, are played in b blocks of N and in c of M, and sound the same
abbrev pub CarriesOver : List ℕ → List ℕ → ℕ → ℕ → Type 0
CarriesOver P Q N M = (m m' : List ℕ) → judge_of P ≡ answer 0 (length m) → judge_of Q ≡ answer 0 (length m')
    → (xs : List ℕ) (b c : ℕ) → AllFinite xs → length xs ≡ b * N → length xs ≡ c * M
    → SamePlayed (plays P m b N xs) b (plays Q m' c M xs) c

-- these claims together, of bytes P and Q that are read as p and q
pub record SoundsAs (P Q : List ℕ) (p q : Parsed) : Type 0 where
  pub same_sound : SameSound P Q p q
  pub with_messages : SameWithMessages P Q p q
  pub carries_over : CarriesOver P Q p.size q.size
