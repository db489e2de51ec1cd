-- What is sent in and straight out comes back unchanged, by the reading: node 0 gives +0 and the input sample, and of a word's sample that is the sample.
--     heard_back       node 0's frame at a time
--     block_back       an accepted packed block
--     straight         the theorem
-- Assumes nothing.
use Prim.Native.Nat.{ℕ, suc, ◌+◌, ◌*◌, ◌/◌, ◌%◌, ◌^◌, ◌≤◌, ◌<◌}
use mathlib.Core.Path.{◌≡◌, refl, sym, ap, subst, ◌∙◌}
use mathlib.Core.Bool.{Bool, true, false, cond, ◌||◌}
use mathlib.Core.List.{List, [], ◌∷◌, ◌++◌, map, append_assoc}
use native.Mathlib.Nat.{add-mul-div_right, add-mul-mod_self_right, div-eq_of_lt, mod-eq_of_lt, mul-le-mul_right, zero-add}
use native.Mathlib.Omega.{arith}
use borrow.Author.Tests.{eq-eqb}
use lib.Dec.{eqb}
use lib.ListN.{length, get_or, length-append, length-map, get_or-map}
use lib.Seq.{get_or-append_seam, ext_get_or}
use lib.Ieee.{binary32, of_bits, to_bits, add, round}
use lib.Ieee.Bits.{of_bits-to_bits}
use Rattle.values.specs.Words.{Bytes, words, words-unwords}
use Rattle.values.specs.Floors.{zero_f}
use Rattle.leaves.specs.Sine.{over23}
use Rattle.leaves.specs.Converter.{of_word, triples, floats_of, words_of}
use Rattle.leaves.proofs.WordLaws.{word_fits, zero_plus}
use Rattle.leaves.proofs.Triples.{length-triples, triples_lt, words_back}
use Rattle.kinds.specs.Kind.{channels_of}
use Rattle.kinds.specs.Rule.{Brought, Frame, total, left_of, right_of, keeps}
use Rattle.kinds.specs.History.{Heard, sample_heard}
use Rattle.kinds.specs.declared.kind.NodeKind.{NodeKind}
use Rattle.kinds.specs.declared.kind.NodeKind.TheVariants.{Pass, Destination}
use Rattle.reading.specs.Table.{mem}
use Rattle.reading.specs.Order.{Reorders, late, sources}
use Rattle.reading.specs.Visit.{start}
use Rattle.reading.specs.Effect.{Effect, run, inputs, blocks, wiring_after, heard}
use Rattle.reading.specs.Time.{Timed, block_ago, last_block}
use Rattle.reading.specs.Calls.{replies}
use Rattle.reading.proofs.Effect.{inputs_append}
use Rattle.reading.proofs.Table.{tab_agree, length_tab, get_d_tab}
use Rattle.sources.specs.Sources.{distinct}
use Rattle.boards.specs.Board.{Parsed, whole}
use Rattle.boards.specs.Judge.{read_board}
use Rattle.memory.specs.Memory.{listed}
use Rattle.memory.specs.Fine.{Fine}
use Rattle.memory.proofs.FineBoard.{fine_board, lists}
use Rattle.packed.proofs.PackedLengths.{packed_accepted}
use Rattle.samples.specs.Reading.{Call, block, block24, message, done, answer_to, effects, as_words, Fixed, accepted, outputs, Reply, reply_by, reply_to, mono, silence, reached, end, input_at, right_sample, brings, brought_to, held_at, IsReading, replies_to}
use Rattle.samples.specs.Claim.{call_in, fresh_memory}
use Rattle.samples.specs.Straight.{Direct, Back, AllBack}
use Rattle.samples.proofs.ShownCall.{accepted-answer}
use Rattle.samples.proofs.Silence.{last_at}
use Rattle.samples.proofs.Demand.{board_claim}

-- the pattern of a word's sample
abbrev pattern : ℕ → ℕ
pattern u = to_bits binary32 (of_word u)

pattern_zero : pattern 0 ≡ 0
unfolding of_word over23 round to_bits
pattern_zero = refl

-- +0 and that sample
heard_word : (u : ℕ) → u < 2 ^ 24 → to_bits binary32 (add binary32 zero_f (of_bits binary32 (pattern u))) ≡ pattern u
heard_word u h = ap (to_bits binary32) (ap (add binary32 zero_f) (of_bits-to_bits binary32 (of_word u) (word_fits u)) ∙ zero_plus u h)

word_at : (x : List ℕ) (i : ℕ) → get_or (words (floats_of x)) i 0 ≡ pattern (get_or (triples x) i 0)
word_at x i =
    ap (λ (l : List ℕ). get_or l i 0) (words-unwords (map pattern (triples x)))
    ∙ ap (get_or (map pattern (triples x)) i) (sym pattern_zero)
    ∙ get_or-map pattern (triples x) i 0

-- one sample on both channels
abbrev both : ℕ → Frame
both w = record { left = w; right = w }

-- what the destination makes of one source's frame
abbrev given : ℕ → ℕ → Frame
given l r = record { left = to_bits binary32 (add binary32 zero_f (of_bits binary32 l)); right = to_bits binary32 (add binary32 zero_f (of_bits binary32 r)) }

module _ (p : Parsed) (fine : Fine p) (direct : Direct p) where
  source_here : mem p.input (sources p.wires 0) ≡ true
  source_here = ap (mem p.input) direct ∙ ap (λ (b : Bool). b || false) (eq-eqb p.input p.input refl)

  sink_here : reached p 0 ≡ true
  sink_here = (lists p fine).all 0 start

  input_here : reached p p.input ≡ true
  input_here = (lists p fine).closed 0 p.input sink_here source_here

  in_time : late (listed p) p.input 0 ≡ false
  in_time = (lists p fine).input_first p.input fine.input_free 0 sink_here source_here

  module _ (es : List (Effect Fixed ℕ ℕ)) (s : Timed Frame) (u : Timed Heard) (r : IsReading p es s u) where
    -- what a node's wires bring, by its sources in wire order
    abbrev brought_by : ℕ → ℕ → List ℕ → Brought
    brought_by t k ss = record {
      left = map (λ a. of_bits binary32 (brings p s t k a).left) (distinct ss);
      right = map (λ a. of_bits binary32 (right_sample p a (brings p s t k a))) (distinct ss);
      second = of_bits binary32 (brings p s t k (get_or ss 1 0)).left;
    }

    input_frame : (t : ℕ) → t < end p es → s t p.input ≡ mono (input_at p es t)
    unfolding sample_heard keeps distinct
    input_frame t h =
        let held = held_at p es s t p.input in
        r.sample t p.input h input_here
        ∙ ap (λ (k : NodeKind). sample_heard k (u t p.input) held (brought_to p s t p.input)) fine.input_pass
        ∙ ap (λ (ss : List ℕ). sample_heard Pass (u t p.input) held (brought_by t p.input ss)) fine.input_free
        ∙ ap (λ (b : Bool). cond b (mono (input_at p es t)) (block_ago p.size silence s t p.input)) (eq-eqb p.input p.input refl)

    heard_back : (t : ℕ) → t < end p es → s t 0 ≡ both (to_bits binary32 (add binary32 zero_f (of_bits binary32 (input_at p es t))))
    unfolding sample_heard keeps left_of right_of total distinct
    heard_back t h =
        let held = held_at p es s t 0 in
        let brought : Frame = brings p s t 0 p.input in
        let is : brought ≡ mono (input_at p es t) =
        ap (λ (b : Bool). cond b (block_ago p.size silence s t p.input) (s t p.input)) in_time ∙ input_frame t h in
        r.sample t 0 h sink_here
        ∙ ap (λ (k : NodeKind). sample_heard k (u t 0) held (brought_to p s t 0)) fine.destination
        ∙ ap (λ (ss : List ℕ). sample_heard Destination (u t 0) held (brought_by t 0 ss)) direct
        ∙ ap (λ (k : NodeKind). given brought.left (cond (eqb (channels_of k) 2) brought.right brought.left)) fine.input_pass
        ∙ ap (λ (f : Frame). given f.left f.left) is

    -- block b of the input is the words of x
    module _ (x : List ℕ) (small : Bytes x) (long : length x ≡ 3 * p.size) (b : ℕ) (there : b < blocks es) (block_is : get_or (inputs es) b [] ≡ words (floats_of x)) where
      sample_is : (i : ℕ) → i < p.size → s (b * p.size + i) 0 ≡ both (pattern (get_or (triples x) i 0))
      sample_is i h =
          let N : ℕ = p.size in
          let most : suc b * N ≤ blocks es * N = mul-le-mul_right N there in
          let swap : b * N + i ≡ i + b * N = omega arith in
          let d : (b * N + i) / N ≡ b = ap (λ (n : ℕ). n / N) swap ∙ add-mul-div_right i b (omega arith) ∙ ap (λ (n : ℕ). n + b) (div-eq_of_lt h) ∙ zero-add b in
          let m : (b * N + i) % N ≡ i = ap (λ (n : ℕ). n % N) swap ∙ add-mul-mod_self_right i b N ∙ mod-eq_of_lt h in
          let at : input_at p es (b * N + i) ≡ pattern (get_or (triples x) i 0) =
          (λ j. get_or (get_or (inputs es) (d j) []) (m j) 0) ∙ ap (λ (l : List ℕ). get_or l i 0) block_is ∙ word_at x i in
          heard_back (b * N + i) (omega arith)
          ∙ ap (λ (w : ℕ). both (to_bits binary32 (add binary32 zero_f (of_bits binary32 w)))) at
          ∙ ap both (heard_word (get_or (triples x) i 0) (triples_lt x small i))

      samples_are : (channel : Frame → ℕ) → ((w : ℕ) → channel (both w) ≡ w) → map channel (last_block p.size silence s (suc b) 0) ≡ words (floats_of x)
      samples_are channel one =
          let N : ℕ = p.size in
          let many : length (triples x) ≡ N = omega (arith, length-triples x, long) in
          last_at p s channel b
          ∙ tab_agree N _ (λ i. pattern (get_or (triples x) i 0)) (λ i h. ap channel (sample_is i h) ∙ one (pattern (get_or (triples x) i 0)))
          ∙ ext_get_or 0 _ (words (floats_of x))
          (length_tab N _ ∙ sym (ap length (words-unwords (map pattern (triples x))) ∙ length-map (triples x) pattern ∙ many))
          (λ i h. get_d_tab N (λ j. pattern (get_or (triples x) j 0)) i 0 (omega (arith, length_tab N (λ j. pattern (get_or (triples x) j 0)))) ∙ sym (word_at x i))

    -- ---- the replies

    call_back : (c : Call) (pre rest : List (List ℕ)) → inputs es ≡ (pre ++ inputs {W = Fixed} (effects p c)) ++ rest
        → Back p c (reply_to p c (last_block p.size silence s (length pre + blocks {W = Fixed} (effects p c)) 0))
    call_back (block x l r') pre rest e = tt
    call_back (message k w) pre rest e = tt
    call_back (block24 x l r') pre rest e = λ small yes'.
        let long = (packed_accepted p.size (length x) (length l) (length r') (accepted-answer p (block24 x l r') yes')).0 in
        let does : effects {W = Fixed} p (block24 x l r') ≡ run (words (floats_of x)) ∷ [] = ap (λ (b : Bool). cond b (done (block24 x l r')) []) yes' in
        let ins : inputs es ≡ pre ++ (words (floats_of x) ∷ rest) =
        e ∙ ap (λ (fs : List (Effect Fixed ℕ ℕ)). (pre ++ inputs fs) ++ rest) does ∙ append_assoc pre (words (floats_of x) ∷ []) rest in
        let there : length pre < blocks es = omega (arith, ap length ins, length-append pre (words (floats_of x) ∷ rest)) in
        let block_is : get_or (inputs es) (length pre) [] ≡ words (floats_of x) =
        ap (λ (l : List (List ℕ)). get_or l (length pre) []) ins ∙ get_or-append_seam pre (words (floats_of x)) rest [] in
        let after : length pre + 1 ≡ suc (length pre) = omega arith in
        let says : reply_to p (block24 x l r') (last_block p.size silence s (length pre + blocks {W = Fixed} (effects p (block24 x l r'))) 0)
        ≡ outputs as_words (answer_to p (block24 x l r')) (last_block p.size silence s (suc (length pre)) 0) =
        ap (λ (fs : List (Effect Fixed ℕ ℕ)). reply_to p (block24 x l r') (last_block p.size silence s (length pre + blocks fs) 0)) does
        ∙ ap (λ (n : ℕ). reply_to p (block24 x l r') (last_block p.size silence s n 0)) after
        ∙ ap (λ (b : Bool). reply_by as_words b (answer_to p (block24 x l r')) l r' (last_block p.size silence s (suc (length pre)) 0)) yes' in
        let back = λ (channel : Frame → ℕ) (one : (w : ℕ) → channel (both w) ≡ w).
        ap words_of (samples_are x small long (length pre) there block_is channel one) ∙ words_back x small p.size long in
        (ap (λ (d : Reply). d.left) says ∙ back (λ f. f.left) (λ w. refl), ap (λ (d : Reply). d.right) says ∙ back (λ f. f.right) (λ w. refl))

    calls_back : (v : Fixed) (cs : List Call) (pre : List (List ℕ)) → inputs es ≡ pre ++ inputs (heard (λ w c. effects p c) v cs)
        → AllBack p cs (replies_to p s (length pre) cs)
    unfolding AllBack replies_to heard
    calls_back v [] pre e = tt
    calls_back v (c ∷ cs) pre e =
        let rest = heard (λ w d. effects p d) (wiring_after v (effects p c)) cs in
        let parts : inputs es ≡ (pre ++ inputs (effects p c)) ++ inputs rest =
        e ∙ ap (λ (l : List (List ℕ)). pre ++ l) (inputs_append (effects p c) rest) ∙ sym (append_assoc pre (inputs (effects p c)) (inputs rest)) in (
          call_back c pre (inputs rest) parts,
          subst (λ (n : ℕ). AllBack p cs (replies_to p s n cs)) (length-append pre (inputs (effects p c)))
              (calls_back (wiring_after v (effects p c)) cs (pre ++ inputs (effects p c)) parts),
        )

-- ---- the theorem

pub straight : (board : List ℕ) → Bytes board → (p : Parsed) → read_board board ≡ whole p → Direct p → (cs : List Call)
    → (order : Parsed → List ℕ) → Reorders p.wires (listed p) (order p) → AllBack p cs (replies (call_in order board) cs (fresh_memory p))
straight board small p reads direct cs order fit =
    let claim = board_claim board small p reads cs in
    subst (AllBack p cs) (sym (claim.as_read claim.samples claim.known claim.reads order fit).replies)
    (calls_back p (fine_board board small p reads) direct (accepted p cs) claim.samples claim.known claim.reads tt cs [] refl)
