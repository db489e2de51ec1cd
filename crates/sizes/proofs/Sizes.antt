-- One preset at two block sizes (document 02, request 12): boards whose nodes are alike sound the same.
--     same_stream          any two lists of calls that bring the same; same_sound, of block runs with the same input stream
--     same_played          one list of finite samples, whose length both sizes divide
--     one_line_sounds      all of it, of the request's boards; size_only_sounds, of boards of which no wire is late
--     sounds_back          the claims do not depend on which board is named first
-- Assumes nothing.
use Prim.Native.Nat.{ℕ, ◌*◌}
use mathlib.Core.Path.{◌≡◌, refl, sym, ap, subst, ◌∙◌}
use mathlib.Core.Bool.{true}
use mathlib.Core.List.{List, map}
use lib.ListN.{length, replicate}
use Rattle.values.specs.Words.{Bytes}
use Rattle.kinds.specs.Rule.{Frame}
use Rattle.reading.specs.Table.{tab, All}
use Rattle.reading.proofs.Table.{tab_agree}
use Rattle.reading.specs.Time.{Timed}
use Rattle.reading.specs.Calls.{replies}
use Rattle.records.specs.Answer.{answer}
use Rattle.boards.specs.Board.{Parsed, whole, memory_length}
use Rattle.boards.specs.Judge.{read_board, answer_by, judge_of}
use Rattle.records.specs.declared.answer.Answer.{Answer}
use Rattle.memory.specs.Memory.{passed, listed}
use Rattle.memory.specs.Calls.{fresh_of}
use Rattle.memory.specs.Fine.{Fine}
use Rattle.samples.specs.Reading.{Call, Form, bytes_in, Reply, reached, accepted, end, outputs, replies_to}
use Rattle.samples.specs.Silence.{played}
use Rattle.samples.specs.Claim.{Claim, call_in, fresh_memory}
use Rattle.samples.proofs.DemandAfter.{accepted-whole}
use Rattle.memory.proofs.FineBoard.{fine_board}
use Rattle.samples.proofs.Demand.{board_claim, own_order, demand}
use Rattle.sizes.specs.Sizes.{OneLine, SizeOnly, join, form_at, SameForms, input_stream, stereo_of, output_stream, SameSound, events, AllFinite, runs_of, plays, SamePlayed, SoundsAs}
use Rattle.sizes.proofs.Streams.{bytes_of, stream_is, same_events}
use Rattle.sizes.proofs.Plays.{Taken, played_taken, answers_taken, replies_long, runs_taken, runs_inputs, runs_still, runs_floats, runs_long, join-cut}
use Rattle.sizes.proofs.Apart.{one_line_alike, size_only_alike}
use Rattle.sizes.proofs.Carried.{Alike, resized, ReadsToo, carried}

-- ---- the fresh call

-- the judge's place is the memory's length, and on memory of that length the fresh call makes fresh memory
module _ (board : List ℕ) (bytes : Bytes board) (p : Parsed) (reads : read_board board ≡ whole p) (m : List ℕ) (judged : judge_of board ≡ answer 0 (length m)) where
  memory_long : length m ≡ memory_length p
  unfolding judge_of
  memory_long = ap (λ (a : Answer). a.place) (sym judged ∙ ap (answer_by memory_length) reads)

  fresh_is : (fresh_of board m).1 ≡ fresh_memory p
  fresh_is =
      let d = demand board bytes (ap (λ (a : Answer). a.number) judged) in
      let e : d.parsed ≡ p = cc (d.reads, reads) in
      ap (λ (r : Answer × List ℕ). r.1) (d.fresh m (memory_long ∙ ap memory_length (sym e))) ∙ ap fresh_memory e

-- ---- two boards that are alike

module _ (P Q : List ℕ) (bytes : Bytes P) (bytes' : Bytes Q) (p q : Parsed) (reads : read_board P ≡ whole p) (reads' : read_board Q ≡ whole q)
    (same_input : q.input ≡ p.input) (same_wires : q.wires ≡ p.wires) (alike : (j : ℕ) → reached p j ≡ true → Alike p q j) where
  abbrev fine : Fine p
  fine = fine_board P bytes p reads

  -- the other board, with this one's input node and wires
  as_other : q ≡ resized p q.size q.nodes
  as_other = λ i. record { size = q.size; input = same_input i; nodes = q.nodes; wires = same_wires i }

  alike_other : (j : ℕ) → reached p j ≡ true → Alike p (resized p q.size q.nodes) j
  alike_other j r = subst (λ (x : Parsed). Alike p x j) as_other (alike j r)

  module _ (cs ds : List Call) (same : events (accepted p cs) ≡ events (accepted q ds)) (alike-forms : SameForms p q cs ds) where
    abbrev claim : Claim P p cs
    claim = board_claim P bytes p reads cs

    abbrev s : Timed Frame
    s = claim.samples

    -- the other board's reading has the same samples
    there : ReadsToo p q (accepted p cs) (accepted q ds) s
    there =
        subst (λ (x : Parsed). ReadsToo p x (accepted p cs) (accepted q ds) s) (sym as_other)
        (carried p fine q.size q.nodes (fine_board Q bytes' q reads').least_size alike_other (accepted p cs) (accepted q ds)
        (accepted-whole p cs) (accepted-whole q ds) same s claim.known claim.reads)

    is_p : replies (call_in listed P) cs (fresh_memory p) ≡ replies_to p s 0 cs
    is_p = (claim.as_read s claim.known claim.reads listed (own_order P bytes p reads)).replies

    is_q : replies (call_in listed Q) ds (fresh_memory q) ≡ replies_to q s 0 ds
    is_q = ((board_claim Q bytes' q reads' ds).as_read s there.known there.reads listed (own_order Q bytes' q reads')).replies

    -- g takes a reply's block of one channel
    same_channel : (g : Reply → List ℕ) (channel : Frame → ℕ) → ((form : Form) (a : Answer) (fs : List Frame) → g (outputs form a fs) ≡ bytes_in form (map channel fs))
        → join (map g (played p cs (replies (call_in listed P) cs (fresh_memory p)))) ≡ join (map g (played q ds (replies (call_in listed Q) ds (fresh_memory q))))
    same_channel g channel writes =
        let w : ℕ → ℕ = λ t. channel (s t 0) in
        ap (λ (rs : List Reply). join (map g (played p cs rs))) is_p
        ∙ stream_is p fine.least_size s g channel writes cs
        ∙ ap join (tab_agree (end p (accepted p cs)) (λ t. bytes_of (form_at p cs t) (w t)) (λ t. bytes_of (form_at q ds t) (w t))
        (λ t h. ap (λ (f : Form). bytes_of f (w t)) (alike-forms t)))
        ∙ ap (λ (n : ℕ). join (tab n (λ t. bytes_of (form_at q ds t) (w t)))) there.same_end
        ∙ sym (stream_is q (fine_board Q bytes' q reads').least_size s g channel writes ds)
        ∙ ap (λ (rs : List Reply). join (map g (played q ds rs))) (sym is_q)

    same_stream : output_stream P p cs ≡ output_stream Q q ds
    same_stream =
        let lefts = same_channel (λ r. r.left) (λ f. f.left) (λ form a fs. refl) in
        let rights = same_channel (λ r. r.right) (λ f. f.right) (λ form a fs. refl) in
        λ i. record { left = lefts i; right = rights i }

  same_sound : SameSound P Q p q
  same_sound cs ds still still' same alike-forms = same_stream cs ds (same_events p q cs ds still still' same) alike-forms

  -- ---- of one list of samples

  module _ (m m' : List ℕ) (judged : judge_of P ≡ answer 0 (length m)) (judged' : judge_of Q ≡ answer 0 (length m'))
      (xs : List ℕ) (b c : ℕ) (number : AllFinite xs) (long : length xs ≡ b * p.size) (long' : length xs ≡ c * q.size) where
    abbrev cs : List Call
    cs = runs_of b p.size xs

    abbrev ds : List Call
    ds = runs_of c q.size xs

    same_samples : input_stream p cs ≡ input_stream q ds
    same_samples =
        ap join (runs_inputs p b xs long number)
        ∙ join-cut b p.size xs long
        ∙ sym (join-cut c q.size xs long')
        ∙ ap join (sym (runs_inputs q c xs long' number))

    -- a board's answers and its stream, where every call is accepted
    module _ (board : List ℕ) (h : Bytes board) (x : Parsed) (e : read_board board ≡ whole x) (w : List ℕ) (j : judge_of board ≡ answer 0 (length w))
        (n : ℕ) (l : length xs ≡ n * x.size) where
      taken : All (Taken x) (runs_of n x.size xs)
      taken = runs_taken x n xs l number

      from_fresh : plays board w n x.size xs ≡ replies (call_in listed board) (runs_of n x.size xs) (fresh_memory x)
      from_fresh = ap (replies (call_in listed board) (runs_of n x.size xs)) (fresh_is board h x e w j)

      answers : map (λ r. r.answer) (plays board w n x.size xs) ≡ replicate n passed
      answers =
          let claim = board_claim board h x e (runs_of n x.size xs) in
          ap (map (λ (r : Reply). r.answer)) (from_fresh ∙ (claim.as_read claim.samples claim.known claim.reads listed (own_order board h x e)).replies)
          ∙ answers_taken x claim.samples (runs_of n x.size xs) 0 taken
          ∙ ap (λ (k : ℕ). replicate k passed) (runs_long n x.size xs)

      all_played : stereo_of (plays board w n x.size xs) ≡ output_stream board x (runs_of n x.size xs)
      all_played =
          let rs : List Reply = replies (call_in listed board) (runs_of n x.size xs) (fresh_memory x) in
          ap stereo_of (from_fresh ∙ sym (played_taken x (runs_of n x.size xs) taken rs (replies_long (call_in listed board) (runs_of n x.size xs) (fresh_memory x))))

    same_played : SamePlayed (plays P m b p.size xs) b (plays Q m' c q.size xs) c
    same_played = record {
      accepted = answers P bytes p reads m judged b long;
      accepted_too = answers Q bytes' q reads' m' judged' c long';
      same = all_played P bytes p reads m judged b long
          ∙ same_sound cs ds (runs_still p b xs long number) (runs_still q c xs long' number) same_samples (λ t. runs_floats p b xs t ∙ sym (runs_floats q c xs t))
          ∙ sym (all_played Q bytes' q reads' m' judged' c long');
    }

  pub alike_sounds : SoundsAs P Q p q
  alike_sounds = record { same_sound = same_sound; with_messages = same_stream; carries_over = same_played }

-- ---- the request's boards, and those of which no wire is late

module _ (P Q : List ℕ) (bytes : Bytes P) (bytes' : Bytes Q) (p q : Parsed) (reads : read_board P ≡ whole p) (reads' : read_board Q ≡ whole q) where
  pub one_line_sounds : OneLine p q → SoundsAs P Q p q
  one_line_sounds o =
      alike_sounds P Q bytes bytes' p q reads reads' o.same_input o.same_wires (one_line_alike p q (fine_board P bytes p reads) o)

  pub size_only_sounds : SizeOnly p q → SoundsAs P Q p q
  size_only_sounds o =
      alike_sounds P Q bytes bytes' p q reads reads' o.same_input o.same_wires (size_only_alike p q (fine_board P bytes p reads) o)

-- ---- the other way round

pub sounds_back : (P Q : List ℕ) (p q : Parsed) → SoundsAs P Q p q → SoundsAs Q P q p
sounds_back P Q p q h = record {
  same_sound = λ cs ds still still' same forms. sym (h.same_sound ds cs still' still (sym same) (λ t. sym (forms t)));
  with_messages = λ cs ds same forms. sym (h.with_messages ds cs (sym same) (λ t. sym (forms t)));
  carries_over = λ m m' judged judged' xs b c number long long'.
      let r = h.carries_over m' m judged' judged xs c b number long' long in
      record { accepted = r.accepted_too; accepted_too = r.accepted; same = sym r.same };
}
