-- The reading by samples (`IsReadingOn` of specs/Reading.antt) is the theory's (`IsSolution` of the crate reading), for any calls and any wirings
-- of which it is known that the board with them is fine.
--     step_sent        a node's rule on the frames that its wires bring
--     input_gives      the input node gives what stands at its place
--     to_reading, to_theory    what solves the theory's equations solves the reading's, and the other way round
--     there_is         so there is a reading of every list of calls
--     as_read          and calls that keep the promise do as any reading says
-- Assumes nothing.
use Prim.Native.Nat.{ℕ, suc, ◌/◌, ◌%◌, ◌<◌}
use mathlib.Core.Path.{◌≡◌, refl, sym, ap, ◌∙◌}
use mathlib.Core.List.{List, map}
use mathlib.Core.Bool.{Bool, true, false, cond}
use borrow.Author.Tests.{ltb-true, eq-eqb}
use lib.Dec.{ltb}
use lib.ListN.{length, length-map}
use lib.Ieee.{Float, nan, binary32, of_bits, to_bits}
use Rattle.kinds.specs.Kind.{sources_fit}
use Rattle.kinds.specs.declared.kind.NodeKind.{NodeKind}
use Rattle.kinds.specs.Rule.{Frame, right_of, keeps}
use Rattle.kinds.specs.History.{Heard, left_heard, sample_heard, heard_after, state_of}
use Rattle.kinds.proofs.Unread.{unread, heard_sample_unread, heard_unread}
use Rattle.reading.specs.Table.{mem}
use Rattle.reading.specs.Order.{Wire, sources, Reorders}
use Rattle.reading.specs.Effect.{Effect, wiring_after, wiring_in, heard}
use Rattle.reading.specs.Time.{Timed}
use Rattle.reading.specs.Calls.{replies, after_calls}
use Rattle.reading.specs.Board.{Board}
use Rattle.reading.specs.Encode.{enc_cells}
use Rattle.reading.specs.Solution.{IsSolution, row, cells_after, outputs_by}
use Rattle.reading.specs.Memory.{answers, KeepsPromise}
use Rattle.reading.proofs.Table.{map_agree}
use Rattle.reading.proofs.Calls.{wiring_ok}
use Rattle.reading.proofs.Solution as theorem
use Rattle.reading.proofs.Memory.{memory_claim}
use Rattle.sources.specs.Sources.{distinct, distinct_sources, second_source}
use Rattle.boards.specs.Board.{blank, Parsed}
use Rattle.boards.specs.BoardParts.{wired as with_wires}
use Rattle.graph.specs.Visit.{visiting_list}
use Rattle.memory.specs.Memory.{kind_at}
use Rattle.samples.specs.Reading.{reached, right_sample, brought_of, told_at, brings, brought_to, held_at, IsReadingOn}
use Rattle.samples.specs.Instance.{Cells, board_with, frame_of, brought_from, memory_rules, memory_with, reading_rules, reading_with, Held, fresh_cells}
use Rattle.memory.specs.Fine.{Fine}
use Rattle.boards.proofs.RoundSources.{mem_distinct}
use Rattle.memory.proofs.FineBoard.{listed_there}
use Rattle.samples.proofs.Lawful.{Setting, board_of, board_sound, rules_encode, rules_lawful}
use Rattle.samples.proofs.ShownRun.{frame_of_lem, second_source_lem}

module _ (p : Parsed) (k : ℕ) (f : ℕ → Frame) where
  abbrev once : List ℕ
  once = distinct_sources p.wires k

  abbrev got : ℕ → Frame
  got = frame_of (sources p.wires k) (map f (sources p.wires k))

  got_once : (a : ℕ) → mem a once ≡ true → got a ≡ f a
  got_once a e = frame_of_lem f (sources p.wires k) a (sym (mem_distinct a (sources p.wires k)) ∙ e)

  got_second : (q : Bool) → ltb 1 (length once) ≡ q
      → cond q (of_bits binary32 (got (second_source p.wires k)).left) nan ≡ cond q (of_bits binary32 (f (second_source p.wires k)).left) nan
  got_second true e =
      ap (λ (x : Frame). of_bits binary32 x.left)
      (frame_of_lem f (sources p.wires k) (second_source p.wires k) (second_source_lem p.wires k (ltb-true 1 (length once) e)))
  got_second false e = refl

  two_left : (q : Float) → cond (ltb 1 (length once)) q nan ≡ cond (ltb 1 (length (brought_of p k f).left)) q nan
  two_left q = ap (λ (n : ℕ). cond (ltb 1 n) q nan) (sym (length-map once (λ a. of_bits binary32 (f a).left)))

  -- of frames in wire order, what is read
  brought_of_lem : brought_from p k (map f (sources p.wires k)) ≡ unread (brought_of p k f)
  brought_of_lem =
      let ls = map_agree (λ a. of_bits binary32 (got a).left) (λ a. of_bits binary32 (f a).left) once
      (λ a e. ap (λ (x : Frame). of_bits binary32 x.left) (got_once a e)) in
      let rs = map_agree (λ a. of_bits binary32 (right_sample p a (got a))) (λ a. of_bits binary32 (right_sample p a (f a))) once
      (λ a e. ap (λ (x : Frame). of_bits binary32 (right_sample p a x)) (got_once a e)) in
      let second = got_second (ltb 1 (length once)) refl ∙ two_left (of_bits binary32 (f (second_source p.wires k)).left) in
      λ i. record { left = ls i; right = rs i; second = second i }

-- a node's rule on the frames that its wires bring
pub step_sent : (p : Parsed) → Fine p → (k i : ℕ) → k < length p.nodes → (h : Heard) (held : Frame) (f : ℕ → Frame)
    → (reading_rules p).step k i h held (map f (sources p.wires k))
    ≡ (sample_heard (kind_at p k) h held (brought_of p k f), heard_after (kind_at p k) h (brought_of p k f))
unfolding reading_rules
step_sent p fine k i there h held f =
    let b = brought_of p k f in
    let fits : sources_fit (kind_at p k) (length b.left) ≡ true =
    ap (sources_fit (kind_at p k)) (length-map (distinct_sources p.wires k) (λ a. of_bits binary32 (f a).left)) ∙ fine.formed.sources_fit_lem blank k there in
    let s = ap (sample_heard (kind_at p k) h held) (brought_of_lem p k f) ∙ sym (heard_sample_unread (kind_at p k) b fits h held) in
    let n = ap (heard_after (kind_at p k) h) (brought_of_lem p k f) ∙ sym (heard_unread (kind_at p k) b h) in
    λ j. (s j, n j)

-- the input node, a pass without wires in, gives what stands at its place
pub input_gives : (p : Parsed) → Fine p → (s : Timed Frame) (t : ℕ) (h : Heard) (held : Frame)
    → sample_heard (kind_at p p.input) h held (brought_to p s t p.input) ≡ held
unfolding sample_heard keeps distinct
input_gives p fine s t h held =
    let k : ℕ = p.input in
    let none : length (brought_to p s t k).left ≡ 0 =
    ap (λ (l : List ℕ). length (map (λ a. of_bits binary32 (brings p s t k a).left) (distinct l))) fine.input_free in
    let kept : keeps (kind_at p k) (brought_to p s t k) ≡ true =
    ap (λ (d : NodeKind). keeps d (brought_to p s t k)) fine.input_pass ∙ eq-eqb (length (brought_to p s t k).left) 0 none in
    ap (λ (b : Bool). cond b held (record {
      left = to_bits binary32 (left_heard (kind_at p k) h (brought_to p s t k));
      right = to_bits binary32 (right_of (kind_at p k) (brought_to p s t k));
    })) kept

-- ---- equations

module _ {C W : Type 0} (p : Parsed) (first : W) (wires : W → List Wire) (does : W → C → List (Effect W ℕ ℕ)) where
  -- the board at a time, as the effects before left it
  abbrev pub board_by : List (Effect W ℕ ℕ) → ℕ → Parsed
  board_by es t = with_wires p (wires (wiring_in first es (t / p.size)))

  abbrev B : Board C W ℕ Frame ℕ
  B = board_with p first wires does

  module _ (es : List (Effect W ℕ ℕ)) (fine : (b : ℕ) → Fine (with_wires p (wires (wiring_in first es b)))) (s : Timed Frame) (u : Timed Heard) where
    -- a node's sample of a time and what it leaves, reached or not
    abbrev row_heard : Bool → ℕ → ℕ → Frame × Heard
    row_heard b t k = (
      cond b (sample_heard (kind_at p k) (u t k) (held_at p es s t k) (brought_to (board_by es t) s t k)) (held_at p es s t k),
      cond b (heard_after (kind_at p k) (u t k) (brought_to (board_by es t) s t k)) (u t k),
    )

    row_is : (t k : ℕ) → row B (reading_with p wires) es s u t k ≡ row_heard (reached (board_by es t) k) t k
    row_is t k = go (reached (board_by es t) k) refl
      where
        q : Parsed
        q = board_by es t

        ruled : Bool → Frame × Heard
        ruled b =
            cond b ((reading_rules q).step k (t % p.size) (u t k) (held_at p es s t k) (map (brings q s t k) (sources q.wires k)))
            (held_at p es s t k, u t k)

        go : (b : Bool) → reached q k ≡ b → ruled (reached q k) ≡ row_heard (reached q k) t k
        go true r =
            ap ruled r
            ∙ step_sent q (fine (t / p.size)) k (t % p.size) (listed_there q (fine (t / p.size)) k r) (u t k) (held_at p es s t k) (brings q s t k)
            ∙ (λ j. row_heard (sym r j) t k)
        go false r = ap ruled r ∙ (λ j. row_heard (sym r j) t k)

    pub to_reading : IsSolution B (reading_with p wires) es s u → IsReadingOn p (board_by es) es s u
    unfolding reading_rules
    to_reading f = record {
      first = f.first;
      sample = λ t k h. f.sample t k h ∙ ap (λ (x : Frame × Heard). x.0) (row_is t k);
      next = λ t k h. f.next t k h ∙ ap (λ (x : Frame × Heard). told_at p es (suc t) k x.1) (row_is t k);
    }

    pub to_theory : IsReadingOn p (board_by es) es s u → IsSolution B (reading_with p wires) es s u
    unfolding reading_rules
    to_theory r = record {
      first = r.first;
      sample = λ t k h. r.sample t k h ∙ sym (ap (λ (x : Frame × Heard). x.0) (row_is t k));
      next = λ t k h. r.next t k h ∙ sym (ap (λ (x : Frame × Heard). told_at p es (suc t) k x.1) (row_is t k));
    }

-- ---- the claim about a list of calls

module _ {C W : Type 0} (p : Parsed) (S : Setting C W p) (cs : List C) where
  abbrev pub effects_in : List (Effect W ℕ ℕ)
  effects_in = heard S.does S.first cs

  abbrev pub boards_in : ℕ → Parsed
  boards_in = board_by p S.first S.wires S.does effects_in

  pub in_force : (b : ℕ) → S.Ok (wiring_in S.first effects_in b)
  in_force = wiring_ok (board_of p S) S.Ok (board_sound p S) cs

  fines : (b : ℕ) → Fine (with_wires p (S.wires (wiring_in S.first effects_in b)))
  fines b = S.fine (wiring_in S.first effects_in b) (in_force b)

  least : 0 < p.size
  least = (S.fine S.first S.start).least_size

  pub samples : Timed Frame
  samples = theorem.samples (board_of p S) (reading_with p S.wires) S.Ok least (board_sound p S) cs

  pub known : Timed Heard
  known = theorem.known (board_of p S) (reading_with p S.wires) S.Ok least (board_sound p S) cs

  pub there_is : IsReadingOn p boards_in effects_in samples known
  unfolding samples known
  there_is =
      to_reading p S.first S.wires S.does effects_in fines samples known
      (theorem.there_is (board_of p S) (reading_with p S.wires) S.Ok least (board_sound p S) cs)

  -- `show` is how lent bytes show a wiring and cells, and `call` what a call does to them
  pub as_read : {X A : Type 0} (order : Parsed → List ℕ)
      → ((w : W) → S.Ok w → Reorders (S.wires w) (visiting_list (S.wires w)) (order (with_wires p (S.wires w))))
      → (show : W × Cells → X) (answer : W → C → List Frame → A) (call : C → X → X × A)
      → KeepsPromise (board_of p S) (memory_with p S.wires) S.Ok (λ k. Held (kind_at p k)) (λ w. order (with_wires p (S.wires w))) show answer call
      → (s : Timed Frame) (u : Timed Heard) → IsReadingOn p boards_in effects_in s u
      → (replies call cs (show (S.first, fresh_cells p)) ≡ answers (board_of p S) answer S.first cs (outputs_by (board_of p S) s S.first 0 cs))
      × (after_calls call cs (show (S.first, fresh_cells p))
      ≡ show (wiring_after S.first effects_in, enc_cells (λ k. state_of (kind_at p k)) (cells_after (board_of p S) effects_in s u)))
  unfolding memory_rules
  as_read order fit show answer call promise s u r =
      memory_claim (board_of p S) (memory_with p S.wires) S.Ok (λ k. Held (kind_at p k)) (board_sound p S) (rules_lawful p S)
      (λ w. order (with_wires p (S.wires w))) show answer call promise least fit (reading_with p S.wires) (λ k. state_of (kind_at p k)) (rules_encode p S)
      cs s u (to_theory p S.first S.wires S.does effects_in fines s u r)
