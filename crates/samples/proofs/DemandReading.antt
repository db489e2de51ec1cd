-- Document 01's reading (`IsReading`) speaks of the reached nodes alone. With wires that stay it is the reading that speaks of every node.
--     on_reached       what is a reading of every node is one of those that are reached
--     whole, before    and what is one of those, with the input node's blocks, silence and what messages leave for the nodes that are not reached,
--     with_others      is one of every node
--     input_whole      of the input node, listed or not, these are the input blocks
--     still            what is known of a node that is not reached: its messages, and nothing else
-- Assumes nothing.
use Prim.Native.Nat.{ℕ, suc, ◌-◌, ◌/◌, ◌%◌, ◌<◌}
use mathlib.Core.Path.{◌≡◌, refl, sym, ap, ◌∙◌}
use mathlib.Core.Logic.{◌≢◌, ⊎_elim}
use mathlib.Core.List.{List}
use mathlib.Core.Bool.{Bool, true, false, cond}
use native.Mathlib.Nat.{zero-div}
use native.Mathlib.Omega.{arith}
use borrow.Author.Tests.{eq-eqb, ne_eqb}
use lib.Dec.{eqb, leb}
use Rattle.kinds.specs.Rule.{Frame}
use Rattle.kinds.specs.History.{Heard, fresh_heard, set_number, sample_heard, heard_after}
use Rattle.reading.specs.Table.{mem}
use Rattle.reading.specs.Order.{sources, late}
use Rattle.reading.specs.Effect.{Effect, told_by}
use Rattle.reading.specs.Time.{Timed}
use Rattle.reading.proofs.Table.{map_agree}
use Rattle.reading.proofs.Times.{next_time}
use Rattle.reading.proofs.Effect.{told_first, told_next}
use Rattle.boards.specs.Board.{Parsed}
use Rattle.memory.specs.Memory.{kind_at, listed}
use Rattle.samples.specs.Reading.{mono, silence, reached, end, input_at, told_in, told_at, ago_n, brings, brought_to, held_at, IsReading, IsReadingOn}
use Rattle.samples.specs.Instance.{reading_rules}
use Rattle.memory.specs.Fine.{Fine}
use Rattle.memory.proofs.FineBoard.{lists, listed_there}
use Rattle.samples.proofs.DemandOn.{step_sent, input_gives}

module _ {W : Type 0} (p : Parsed) (es : List (Effect W ℕ ℕ)) where
  pub on_reached : (s : Timed Frame) (u : Timed Heard) → IsReadingOn p (λ t. p) es s u → IsReading p es s u
  on_reached s u r = record {
    first = λ k m. r.first k;
    sample = λ t k h m.
        r.sample t k h
        ∙ ap (λ (b : Bool). cond b (sample_heard (kind_at p k) (u t k) (held_at p es s t k) (brought_to p s t k)) (held_at p es s t k)) m;
    next = λ t k h m.
        r.next t k h ∙ ap (λ (b : Bool). told_at p es (suc t) k (cond b (heard_after (kind_at p k) (u t k) (brought_to p s t k)) (u t k))) m;
  }

module _ {W : Type 0} (p : Parsed) (fine : Fine p) (es : List (Effect W ℕ ℕ)) where
  -- a node that is not reached hears its messages, and nothing else
  abbrev pub still : Timed Heard
  still t k = told_by (λ j. set_number) es (t / p.size) k (fresh_heard (kind_at p k))

  still_first : (k : ℕ) → still 0 k ≡ told_in p es 0 k (fresh_heard (kind_at p k))
  still_first k =
      ap (λ (b : ℕ). told_by (λ j. set_number) es b k (fresh_heard (kind_at p k))) (zero-div p.size)
      ∙ sym (told_first (λ j. set_number) es k (fresh_heard (kind_at p k)))

  still_next : (t k : ℕ) → still (suc t) k ≡ told_at p es (suc t) k (still t k)
  still_next t k =
      ⊎_elim
      (λ w. ap by w.0 ∙ sym (told_next (λ j. set_number) es b k h)
      ∙ (λ i. cond (sym (eq-eqb (suc t % p.size) 0 w.1) i) (told_in p es (sym w.0 i) k (still t k)) (still t k)))
      (λ w. ap by w.0
      ∙ (λ i. cond (sym (ne_eqb (suc t % p.size) 0 (let z : suc t % p.size ≢ 0 = omega (arith, w.1) in z)) i) (told_in p es (suc t / p.size) k (still t k)) (still t k)))
      (next_time p.size t fine.least_size)
    where
      b : ℕ
      b = t / p.size

      h : Heard
      h = fresh_heard (kind_at p k)

      by : ℕ → Heard
      by n = told_by (λ j. set_number) es n k h

  module _ (s : Timed Frame) where
    -- the input node has the input blocks, listed or not; another that is not reached is silent
    abbrev pub whole : Timed Frame
    whole t k = cond (reached p k) (s t k) (cond (eqb k p.input) (mono (input_at p es t)) silence)

    pub whole_reached : (t k : ℕ) → reached p k ≡ true → whole t k ≡ s t k
    whole_reached t k r = ap (λ (b : Bool). cond b (s t k) (cond (eqb k p.input) (mono (input_at p es t)) silence)) r

    pub whole_other : (t k : ℕ) → reached p k ≡ false → whole t k ≡ cond (eqb k p.input) (mono (input_at p es t)) silence
    whole_other t k r = ap (λ (b : Bool). cond b (s t k) (cond (eqb k p.input) (mono (input_at p es t)) silence)) r

    pub ago_reached : (t k : ℕ) → reached p k ≡ true → ago_n p whole t k ≡ ago_n p s t k
    ago_reached t k r = ap (λ (x : Frame). cond (leb p.size t) x silence) (whole_reached (t - p.size) k r)

    brings_reached : (t k a : ℕ) → reached p k ≡ true → mem a (sources p.wires k) ≡ true → brings p whole t k a ≡ brings p s t k a
    brings_reached t k a r e =
        let ra = (lists p fine).closed k a r e in
        λ i. cond (late (listed p) a k) (ago_reached t a ra i) (whole_reached t a ra i)

    held_reached : (t k : ℕ) → reached p k ≡ true → held_at p es whole t k ≡ held_at p es s t k
    held_reached t k r = ap (λ (x : Frame). cond (eqb k p.input) (mono (input_at p es t)) x) (ago_reached t k r)

    held_other : (t k : ℕ) → reached p k ≡ false → whole t k ≡ held_at p es whole t k
    held_other t k r = whole_other t k r ∙ go (eqb k p.input) refl
      where
        quiet : eqb k p.input ≡ false → (b : Bool) → silence ≡ cond b (whole (t - p.size) k) silence
        quiet e true = sym (whole_other (t - p.size) k r ∙ ap (λ (c : Bool). cond c (mono (input_at p es (t - p.size))) silence) e)
        quiet e false = refl

        go : (b : Bool) → eqb k p.input ≡ b → cond b (mono (input_at p es t)) silence ≡ cond b (mono (input_at p es t)) (ago_n p whole t k)
        go true e = refl
        go false e = quiet e (leb p.size t)

    -- the input node gives the input sample, listed or not
    pub input_whole : (u : Timed Heard) → IsReading p es s u → (t : ℕ) → t < end p es → whole t p.input ≡ mono (input_at p es t)
    input_whole u f t h = go (reached p k) refl
      where
        k : ℕ
        k = p.input

        same : eqb k k ≡ true
        same = eq-eqb k k refl

        go : (b : Bool) → reached p k ≡ b → whole t k ≡ mono (input_at p es t)
        go true r =
            whole_reached t k r
            ∙ f.sample t k h r
            ∙ input_gives p fine s t (u t k) (held_at p es s t k)
            ∙ ap (λ (b : Bool). cond b (mono (input_at p es t)) (ago_n p s t k)) same
        go false r = whole_other t k r ∙ ap (λ (b : Bool). cond b (mono (input_at p es t)) silence) same

    module _ (u : Timed Heard) where
      -- what is known before a time, with the nodes that are not reached
      abbrev pub before : Timed Heard
      before t k = cond (reached p k) (u t k) (still t k)

      -- a reached node's row is the same
      row_same : (t k : ℕ) → reached p k ≡ true
          → ◌≡◌ {A = Frame × Heard} (sample_heard (kind_at p k) (u t k) (held_at p es s t k) (brought_to p s t k), heard_after (kind_at p k) (u t k) (brought_to p s t k))
          (sample_heard (kind_at p k) (before t k) (held_at p es whole t k) (brought_to p whole t k), heard_after (kind_at p k) (before t k) (brought_to p whole t k))
      row_same t k r =
          let there = listed_there p fine k r in
          let known = ap (λ (b : Bool). cond b (u t k) (still t k)) r in
          let brought = map_agree (brings p s t k) (brings p whole t k) (sources p.wires k) (λ a e. sym (brings_reached t k a r e)) in
          sym (step_sent p fine k (t % p.size) there (u t k) (held_at p es s t k) (brings p s t k))
          ∙ (λ i. (reading_rules p).step k (t % p.size) (sym known i) (sym (held_reached t k r) i) (brought i))
          ∙ step_sent p fine k (t % p.size) there (before t k) (held_at p es whole t k) (brings p whole t k)

      module _ (f : IsReading p es s u) where
        abbrev given : Bool → ℕ → ℕ → Frame
        given b t k = cond b (sample_heard (kind_at p k) (before t k) (held_at p es whole t k) (brought_to p whole t k)) (held_at p es whole t k)

        abbrev then : Bool → ℕ → ℕ → Heard
        then b t k = cond b (heard_after (kind_at p k) (before t k) (brought_to p whole t k)) (before t k)

        known_of : (t k : ℕ) {b : Bool} → reached p k ≡ b → before t k ≡ cond b (u t k) (still t k)
        known_of t k r = ap (λ (b : Bool). cond b (u t k) (still t k)) r

        first_of : (k : ℕ) (b : Bool) → reached p k ≡ b → before 0 k ≡ told_in p es 0 k (fresh_heard (kind_at p k))
        first_of k true r = known_of 0 k r ∙ f.first k r
        first_of k false r = known_of 0 k r ∙ still_first k

        sample_of : (t k : ℕ) → t < end p es → (b : Bool) → reached p k ≡ b → whole t k ≡ given b t k
        sample_of t k h true r = whole_reached t k r ∙ f.sample t k h r ∙ ap (λ (x : Frame × Heard). x.0) (row_same t k r)
        sample_of t k h false r = held_other t k r

        next_of : (t k : ℕ) → t < end p es → (b : Bool) → reached p k ≡ b → before (suc t) k ≡ told_at p es (suc t) k (then b t k)
        next_of t k h true r =
            known_of (suc t) k r ∙ f.next t k h r ∙ ap (λ (x : Frame × Heard). told_at p es (suc t) k x.1) (row_same t k r)
        next_of t k h false r = known_of (suc t) k r ∙ still_next t k ∙ ap (told_at p es (suc t) k) (sym (known_of t k r))

        pub with_others : IsReadingOn p (λ t. p) es (whole) (before)
        with_others = record {
          first = λ k. first_of k (reached p k) refl;
          sample = λ t k h. sample_of t k h (reached p k) refl;
          next = λ t k h. next_of t k h (reached p k) refl;
        }
