-- The tail of document 01, "Leaves": where it is a figure, and not endless, output is zero at most that many samples after input turns zero for
-- good, whatever calls are made from fresh memory, refused ones and number messages among them.
--     played_is       the blocks that accepted block runs write are node 0's samples by time
--     falls_silent    of a board that is read as p
--     tail_holds      of bytes for which the tail call answers a figure
-- Assumes nothing.
use Prim.Native.Nat.{ℕ, suc, ◌+◌, ◌*◌, ◌/◌, ◌%◌, ◌≤◌, ◌<◌}
use mathlib.Core.Path.{◌≡◌, refl, sym, ap, subst, ◌∙◌}
use mathlib.Core.Logic.{◌≢◌, inl, ⊎_elim}
use mathlib.Core.Bool.{Bool, true, false, cond, ◌&&◌, ◌||◌, false≢true}
use mathlib.Core.List.{List, [], ◌∷◌, ◌++◌, map}
use native.Mathlib.Nat.{div-add-mod', div-lt_iff_lt-mul, mod-lt, zero-add}
use native.Mathlib.Omega.{arith}
use borrow.Author.Tests.{eqb-true}
use lib.Dec.{eqb}
use lib.Ieee.{binary32, of_bits}
use lib.ListN.{length, get_or}
use Rattle.values.specs.Words.{words-unwords, Bytes}
use Rattle.leaves.specs.Converter.{to_word}
use Rattle.leaves.proofs.Triples.{triples_words}
use Rattle.kinds.specs.Kind.{line_of}
use Rattle.kinds.specs.Rule.{Frame}
use Rattle.kinds.specs.History.{Heard}
use Rattle.kinds.specs.declared.kind.NodeRecord.{NodeRecord}
use Rattle.kinds.proofs.Kept.{both}
use Rattle.kinds.proofs.HistoryFrames.{map_tab}
use Rattle.reading.specs.Table.{mem, tab, All}
use Rattle.reading.specs.Order.{Wire, Each, late}
use Rattle.reading.specs.Visit.{start}
use Rattle.reading.specs.Effect.{Effect, blocks, wiring_after, heard}
use Rattle.reading.specs.Time.{Timed, block_ago, last_block}
use Rattle.reading.specs.Tail.{sum_of, NoLate}
use Rattle.reading.proofs.Table.{tab_agree, get_d_tab}
use Rattle.reading.proofs.Order.{each-source}
use Rattle.reading.proofs.Effect.{blocks_append}
use Rattle.reading.proofs.Solution.{earlier_block}
use Rattle.reading.proofs.Tail.{tail}
use Rattle.records.specs.Answer.{answer}
use Rattle.boards.specs.Board.{Parsed, Progress, blank, going, refused, whole}
use Rattle.boards.specs.Judge.{read_board, answer_by}
use Rattle.graph.specs.Late.{is_late, late_wires}
use Rattle.memory.specs.Memory.{kind_at, listed}
use Rattle.samples.specs.Reading.{Call, Form, as_floats, as_words, form_of, bytes_in, Reply, answer_to, effects, Fixed, accepted, outputs, reply_to, mono, silence, reached, end, input_at, IsReading, replies_to}
use Rattle.samples.specs.Claim.{Claim}
use Rattle.samples.specs.Instance.{net_of}
use Rattle.memory.specs.Fine.{Fine}
use Rattle.graph.specs.Tail.{delays, only_delays, listed_lines, endless, tail_of, tail_answer}
use Rattle.samples.specs.Silence.{QuietInput, played, forms, samples_in, output_at, Silent, Tailed}
use Rattle.records.specs.declared.answer.Answer.{Answer}
use Rattle.boards.proofs.Ending.{Ended, board_ends}
use Rattle.graph.proofs.Lines.{tail-late, tail_on_time}
use Rattle.memory.proofs.FineBoard.{fine_board, lists}
use Rattle.samples.proofs.Lawful.{net_orderly}
use Rattle.samples.proofs.ShownCall.{NumberFits, call_writes}
use Rattle.samples.proofs.DemandAfter.{accepted_fit}
use Rattle.samples.proofs.Demand.{board_claim}
use Rattle.samples.proofs.SilenceNodes.{ZeroFrame}
use Rattle.samples.proofs.SilenceLags.{node_lags, sink_silent}

-- ---- a tail that is a figure

-- no wire of a list is late
none_late : (l : List ℕ) (ws : List Wire) → length (late_wires l ws) ≡ 0 → Each (λ w. is_late l w ≡ false) ws
unfolding late_wires
none_late l [] e = tt
none_late l (w ∷ ws) e = go (is_late l w) refl e (none_late l ws)
  where
    go : (b : Bool) → is_late l w ≡ b → length (cond b (w ∷ late_wires l ws) (late_wires l ws)) ≡ 0
        → (length (late_wires l ws) ≡ 0 → Each (λ v. is_late l v ≡ false) ws) → (is_late l w ≡ false) × Each (λ v. is_late l v ≡ false) ws
    go true i h ih = absurd (omega arith)
    go false i h ih = (i, ih h)

-- each listed node only delays
each-delays : (ns : List NodeRecord) (l : List ℕ) → only_delays ns l ≡ true → (k : ℕ) → mem k l ≡ true → delays (get_or ns k blank).kind ≡ true
each-delays ns [] o k e = absurd (false≢true e)
each-delays ns (x ∷ l) o k e =
    let h = both (delays (get_or ns x blank).kind) (only_delays ns l) o in
    go (eqb k x) refl e h.0 (each-delays ns l h.1 k)
  where
    go : (b : Bool) → eqb k x ≡ b → (b || mem k l) ≡ true → delays (get_or ns x blank).kind ≡ true
        → (mem k l ≡ true → delays (get_or ns k blank).kind ≡ true) → delays (get_or ns k blank).kind ≡ true
    go true q m d ih = rw (eqb-true k x q) d
    go false q m d ih = ih m

lines_sum : (p : Parsed) (l : List ℕ) → sum_of (λ k. line_of (kind_at p k)) l ≡ listed_lines p.nodes l
lines_sum p [] = refl
lines_sum p (k ∷ l) = ap (λ (n : ℕ). line_of (kind_at p k) + n) (lines_sum p l)

-- what a tail that is not endless says
record Figure (p : Parsed) : Type 0 where
  pub in_time : length (late_wires (listed p) p.wires) ≡ 0
  pub only : only_delays p.nodes (listed p) ≡ true
  pub lines : tail_of p ≡ listed_lines p.nodes (listed p)

figure : (p : Parsed) → tail_of p ≢ endless → Figure p
unfolding tail_of
figure p other = go (eqb (length (late_wires (listed p) p.wires)) 0) (only_delays p.nodes (listed p)) refl refl
  where
    by_kinds : (b : Bool) → eqb (length (late_wires (listed p) p.wires)) 0 ≡ true → only_delays p.nodes (listed p) ≡ b
        → tail_of p ≡ cond b (listed_lines p.nodes (listed p)) endless
    by_kinds b i o =
        tail_on_time p.nodes p.wires (listed p) i ∙ ap (λ (c : Bool). cond c (listed_lines p.nodes (listed p)) endless) o

    go : (a b : Bool) → eqb (length (late_wires (listed p) p.wires)) 0 ≡ a → only_delays p.nodes (listed p) ≡ b → Figure p
    go true true i o = record { in_time = eqb-true _ _ i; only = o; lines = by_kinds true i o }
    go true false i o = absurd (other (by_kinds false i o))
    go false b i o = absurd (other (tail-late p.nodes p.wires (listed p) i))

-- ---- node 0's samples, in every reading

module _ (p : Parsed) (fine : Fine p) (f : Figure p) where
  wires_in_time : NoLate (net_of p)
  unfolding is_late
  wires_in_time k a m e =
      let w = each-source (λ w. is_late (listed p) w ≡ false) p.wires (none_late (listed p) p.wires f.in_time) k a e in
      ap (λ (b : Bool). b && late (listed p) a k) (sym (ap (λ (b : Bool). b && mem k (listed p)) ((lists p fine).closed k a m e) ∙ m))
      ∙ (λ i. mem (sym w.2 i) (listed p) && mem (sym w.3 i) (listed p) && late (listed p) (sym w.2 i) (sym w.3 i)) ∙ w.1

  module _ (es : List (Effect Fixed ℕ ℕ)) (fit : All (NumberFits p) es) (s : Timed Frame) (u : Timed Heard) (reads : IsReading p es s u) (since : ℕ)
      (input : QuietInput p es since) where
    -- every listed node
    listed_zero : (k : ℕ) → reached p k ≡ true → (t : ℕ) → since + tail_of p ≤ t → t < end p es → ZeroFrame (s t k)
    listed_zero k there t l h =
        tail (net_of p) (λ r. mono (input_at p es r)) (end p es) s ZeroFrame (λ j. line_of (kind_at p j)) wires_in_time
        (λ j m. node_lags p fine es fit s u reads j m (each-delays p.nodes (listed p) f.only j m) (λ a e. wires_in_time j a m e))
        (net_orderly p fine) since (λ r m e. (input r m e, inl refl)) k there t (omega (arith, f.lines, lines_sum p (listed p))) h

    -- and so node 0, whose zeros are +0
    sink_zero : (t : ℕ) → since + tail_of p ≤ t → t < end p es → s t 0 ≡ silence
    sink_zero =
        let there = (lists p fine).all 0 start in
        sink_silent p fine es fit s u reads 0 there (λ a e. wires_in_time 0 a there e) (since + tail_of p) (λ t l h. input t (omega arith) h)
        (λ a e. listed_zero a ((lists p fine).closed 0 a there e)) fine.destination

-- ---- the output blocks that the calls write

-- what stands in a block for a sample's pattern: itself, or the pattern of its word
abbrev pub sent : Form → ℕ → ℕ
sent as_floats w = w
sent as_words w = to_word (of_bits binary32 w)

sent_same : (ws : List ℕ) → ws ≡ map (sent as_floats) ws
sent_same [] = refl
sent_same (w ∷ ws) = ap (λ (l : List ℕ). w ∷ l) (sent_same ws)

samples_sent : (form : Form) (ws : List ℕ) → samples_in form (bytes_in form ws) ≡ map (sent form) ws
samples_sent as_floats ws = words-unwords ws ∙ sent_same ws
samples_sent as_words ws = triples_words ws

-- silence goes out as 0
sent_zero : (form : Form) → sent form 0 ≡ 0
unfolding to_word of_bits
sent_zero as_floats = refl
sent_zero as_words = refl

-- node 0's last block after b + 1 blocks is block b
pub last_at : (p : Parsed) (s : Timed Frame) (channel : Frame → ℕ) (b : ℕ) → map channel (last_block p.size silence s (suc b) 0)
    ≡ tab p.size (λ i. channel (s (b * p.size + i) 0))
last_at p s channel b =
    map_tab channel p.size (λ i. block_ago p.size silence s (suc b * p.size + i) 0)
    ∙ tab_agree p.size _ _ (λ i h. ap channel (earlier_block p.size silence s (suc b) i 0 h))

-- g takes a reply's block of one channel
module _ (p : Parsed) (s : Timed Frame) (g : Reply → List ℕ) (channel : Frame → ℕ)
    (writes : (form : Form) (a : Answer) (fs : List Frame) → g (outputs form a fs) ≡ bytes_in form (map channel fs)) where
  abbrev block_at : Form → ℕ → List ℕ
  block_at form b = bytes_in form (tab p.size (λ i. channel (s (b * p.size + i) 0)))

  -- the blocks that the accepted block runs write, where b have been accepted before
  played_from : (v : Fixed) (cs : List Call) (b : ℕ) → map g (played p cs (replies_to p s b cs))
      ≡ tab (blocks (heard (λ x c. effects p c) v cs)) (λ j. block_at (get_or (forms p cs) j as_floats) (b + j))
  unfolding played forms replies_to heard
  played_from v [] b = refl
  played_from v (c ∷ cs) b =
      ⊎_elim
      (λ z.
      let n : b + 0 ≡ b = omega arith in
      let m : 0 + blocks rest ≡ blocks rest = omega arith in
      ap (λ (m : ℕ). shape m (b + m)) z
      ∙ ap (λ (x : ℕ). map g (played p cs (replies_to p s x cs))) n
      ∙ played_from (wiring_after v (effects p c)) cs b
      ∙ ap (λ (x : ℕ). tab x (λ j. block_at (get_or (forms p cs) j as_floats) (b + j))) (sym (total z ∙ m))
      ∙ ap said (sym z))
      (λ w.
      let n : b + 1 ≡ suc b = omega arith in
      let m : 1 + blocks rest ≡ suc (blocks rest) = omega arith in
      let z : b ≡ b + 0 = omega arith in
      let head = ap g w.1 ∙ writes (form_of c) (answer_to p c) (last_block p.size silence s (b + 1) 0)
      ∙ ap (λ (x : ℕ). bytes_in (form_of c) (map channel (last_block p.size silence s x 0))) n ∙ ap (bytes_in (form_of c)) (last_at p s channel b) ∙ ap (block_at (form_of c)) z in
      let others = tab_agree (blocks rest) (λ j. block_at (get_or (forms p cs) j as_floats) (b + 1 + j)) (λ j. block_at (get_or (forms p cs) j as_floats) (b + suc j))
      (λ j _. let e : b + 1 + j ≡ b + suc j = omega arith in ap (block_at (get_or (forms p cs) j as_floats)) e) in
      ap (λ (m : ℕ). shape m (b + m)) w.0
      ∙ (λ i. head i ∷ (played_from (wiring_after v (effects p c)) cs (b + 1) ∙ others) i)
      ∙ ap (λ (x : ℕ). tab x (λ j. block_at (get_or (form_of c ∷ forms p cs) j as_floats) (b + j))) (sym (total w.0 ∙ m))
      ∙ ap said (sym w.0))
      (call_writes p c (last_block p.size silence s (b + 1) 0))
    where
      rest : List (Effect Fixed ℕ ℕ)
      rest = heard (λ x d. effects p d) (wiring_after v (effects p c)) cs

      -- where m blocks are run, and n have been run after the call
      shape : ℕ → ℕ → List (List ℕ)
      shape m n =
          map g (cond (eqb m 0) (played p cs (replies_to p s n cs)) (reply_to p c (last_block p.size silence s n 0) ∷ played p cs (replies_to p s n cs)))

      -- the blocks in their forms, where the call runs m
      said : ℕ → List (List ℕ)
      said m = tab (blocks (effects p c ++ rest)) (λ j. block_at (get_or (cond (eqb m 0) (forms p cs) (form_of c ∷ forms p cs)) j as_floats) (b + j))

      total : {n : ℕ} → blocks {W = Fixed} (effects p c) ≡ n → blocks (effects p c ++ rest) ≡ n + blocks rest
      total e = blocks_append (effects p c) rest ∙ ap (λ (m : ℕ). m + blocks rest) e

  pub played_is : (cs : List Call) (b : ℕ) → map g (played p cs (replies_to p s b cs))
      ≡ tab (blocks (accepted p cs)) (λ j. bytes_in (get_or (forms p cs) j as_floats) (tab p.size (λ i. channel (s ((b + j) * p.size + i) 0))))
  played_is cs b = played_from tt cs b

  -- so the output sample of a time is the reading's, as it stands in the block
  output_is : 0 < p.size → (cs : List Call) (t : ℕ) → t < end p (accepted p cs)
      → output_at p (forms p cs) (map g (played p cs (replies_to p s 0 cs))) t ≡ sent (get_or (forms p cs) (t / p.size) as_floats) (channel (s t 0))
  output_is pos cs t h =
      let N : ℕ = p.size in
      let b : ℕ = 0 + t / N in
      let form = get_or (forms p cs) (t / N) as_floats in
      ap (λ (bs : List (List ℕ)). get_or (samples_in form (get_or bs (t / N) [])) (t % N) 1) (played_is cs 0)
      ∙ ap (λ (l : List ℕ). get_or (samples_in form l) (t % N) 1)
      (get_d_tab (blocks (accepted p cs)) (λ j. block_at (get_or (forms p cs) j as_floats) (0 + j)) (t / N) [] ((div-lt_iff_lt-mul pos).1 h))
      ∙ ap (λ (l : List ℕ). get_or l (t % N) 1) (samples_sent form (tab N (λ i. channel (s (b * N + i) 0))) ∙ map_tab (sent form) N (λ i. channel (s (b * N + i) 0)))
      ∙ get_d_tab N (λ i. sent form (channel (s (b * N + i) 0))) (t % N) 1 (mod-lt t pos)
      ∙ ap (λ (r : ℕ). sent form (channel (s r 0))) (rw zero-add (div-add-mod' t N))

-- ---- the theorem

-- of a board that is read as p
pub falls_silent : (bytes : List ℕ) → Bytes bytes → (p : Parsed) → read_board bytes ≡ whole p → tail_of p ≢ endless
    → (cs : List Call) (since : ℕ) → QuietInput p (accepted p cs) since → Silent bytes p cs since (tail_of p)
falls_silent bytes b p e other cs since input = record {
  samples = quiet;
  outputs = λ order fit t l m.
      let s = claim.samples in
      let same = (claim.as_read s claim.known claim.reads order fit).replies in
      let zero-frame = quiet s claim.known claim.reads t l m in
      rw same (
        output_is p s (λ r. r.left) (λ f. f.left) (λ form a fs. refl) fine.least_size cs t m ∙ ap (λ (f : Frame). sent (form t) f.left) zero-frame ∙ sent_zero (form t),
        output_is p s (λ r. r.right) (λ f. f.right) (λ form a fs. refl) fine.least_size cs t m ∙ ap (λ (f : Frame). sent (form t) f.right) zero-frame ∙ sent_zero (form t),
      );
}
  where
    fine : Fine p
    fine = fine_board bytes b p e

    claim : Claim bytes p cs
    claim = board_claim bytes b p e cs

    form : ℕ → Form
    form t = get_or (forms p cs) (t / p.size) as_floats

    quiet : (s : Timed Frame) (u : Timed Heard) → IsReading p (accepted p cs) s u → (t : ℕ) → since + tail_of p ≤ t
        → t < end p (accepted p cs) → s t 0 ≡ silence
    quiet s u reads = sink_zero p fine (figure p other) (accepted p cs) (accepted_fit p cs) s u reads since input

-- of bytes for which the tail call answers a figure
pub tail_holds : (bytes : List ℕ) → Bytes bytes → (n : ℕ) → tail_answer bytes ≡ answer 0 n → n ≢ endless → Tailed bytes n
unfolding tail_answer
tail_holds bytes b n = go (read_board bytes) refl (board_ends bytes)
  where
    go : (r : Progress) → read_board bytes ≡ r → Ended r → answer_by tail_of r ≡ answer 0 n → n ≢ endless → Tailed bytes n
    go (going at last p) e d a other = absurd (omega (arith, ap (λ (x : Answer). x.number) a))
    go (refused k w) e d a other = absurd (omega (arith, ap (λ (x : Answer). x.number) a))
    go (whole p) e d a other =
        let is : tail_of p ≡ n = ap (λ (x : Answer). x.place) a in
        subst (Tailed bytes) is (record { parsed = p; reads = e; silent = falls_silent bytes b p e (λ q. other (sym is ∙ q)) })
