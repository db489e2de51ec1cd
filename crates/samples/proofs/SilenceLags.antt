-- In every reading of accepted calls a node of type 1 to 5 or 7 without late wires in turns zero at most its line's length after its sources
-- and the input have.
--     number_fits_lem a node's number is in range all along
--     past_zero       what its line holds, once its sources are zero
--     node_lags       the node
--     sink_silent     a destination is then +0
-- Assumes nothing.
use Prim.Native.Nat.{ℕ, zero, suc, ◌+◌, ◌-◌, ◌%◌, ◌≤◌, ◌<◌}
use mathlib.Core.Path.{◌≡◌, refl, sym, ap, ◌∙◌}
use mathlib.Core.Logic.{◌≢◌, inl}
use mathlib.Core.Bool.{Bool, true, false, cond, false≢true}
use mathlib.Core.List.{List, [], ◌∷◌}
use native.Mathlib.Nat.{zero-mod}
use native.Mathlib.Omega.{arith}
use borrow.Author.Tests.{ltb-true, eqb-true, eqb-false, ne_eqb}
use lib.Dec.{eqb, ltb, leb}
use lib.ListN.{length, get_or, length-map}
use lib.Ieee.{binary32, to_bits}
use Rattle.kinds.specs.Kind.{channels_of, line_of, sources_fit}
use Rattle.kinds.specs.Rule.{Brought, Frame, first, two, keeps}
use Rattle.kinds.specs.Cell.{number_fits}
use Rattle.kinds.specs.History.{Heard, xs, fresh_heard, ago_by, length_of, sample_heard, heard_after}
use Rattle.kinds.specs.declared.kind.NodeKind.{NodeKind}
use Rattle.kinds.specs.declared.kind.NodeKind.TheVariants.{Pass, Sum, Destination, Balance, Mul, Add, Delay, AllPass, OnePole, Sine}
use Rattle.reading.specs.Table.{mem, All}
use Rattle.reading.specs.Order.{sources, late}
use Rattle.reading.specs.Effect.{Effect}
use Rattle.reading.specs.Time.{Timed}
use Rattle.reading.specs.Tail.{Lags}
use Rattle.reading.proofs.Tail.{all_map, keeps_silent}
use Rattle.sources.specs.Sources.{distinct_sources, second_source}
use Rattle.boards.specs.Board.{blank, Parsed}
use Rattle.memory.specs.Memory.{kind_at, listed}
use Rattle.samples.specs.Reading.{mono, Fixed, silence, reached, right_sample, end, input_at, ago_n, brings, brought_to, held_at, IsReading}
use Rattle.samples.specs.Instance.{net_of}
use Rattle.memory.specs.Fine.{Fine}
use Rattle.graph.specs.Tail.{delays}
use Rattle.samples.specs.Silence.{Zero, QuietInput}
use Rattle.boards.proofs.RoundSources.{mem_distinct}
use Rattle.memory.proofs.FineBoard.{listed_there}
use Rattle.samples.proofs.ShownRun.{second_source_lem}
use Rattle.samples.proofs.ShownCall.{NumberFits}
use Rattle.samples.proofs.Told.{told_fits, told_xs, told_at_fits, told_at_xs}
use Rattle.samples.proofs.SilenceFloats.{ZeroFloat, zero_float, zero_pattern}
use Rattle.samples.proofs.SilenceNodes.{ZeroFrame, Quiet, at_least, line-wired, line-length, first-zero, sample_zero, destination_silent}

-- ---- small facts

-- only a pass without sources keeps its block
keeps-pass : (k : NodeKind) (b : Brought) → keeps k b ≡ true → (k ≡ Pass) × (length b.left ≡ 0)
unfolding keeps
keeps-pass Pass b e = (refl, eqb-true (length b.left) 0 e)
keeps-pass Sum b e = absurd (false≢true e)
keeps-pass Destination b e = absurd (false≢true e)
keeps-pass Balance b e = absurd (false≢true e)
keeps-pass (Mul f) b e = absurd (false≢true e)
keeps-pass (Add f) b e = absurd (false≢true e)
keeps-pass (Delay n) b e = absurd (false≢true e)
keeps-pass (AllPass n f) b e = absurd (false≢true e)
keeps-pass (OnePole f) b e = absurd (false≢true e)
keeps-pass (Sine f) b e = absurd (false≢true e)

pass-keeps : (h : Heard) (held : Frame) (b : Brought) → length b.left ≡ 0 → sample_heard Pass h held b ≡ held
unfolding sample_heard keeps
pass-keeps h held b e = rw e

-- ---- a reading

module _ (p : Parsed) (fine : Fine p) (es : List (Effect Fixed ℕ ℕ)) (fit : All (NumberFits p) es) (s : Timed Frame) (u : Timed Heard) (reads : IsReading p es s u)
    (k : ℕ) (there : reached p k ≡ true) where
  abbrev kind : NodeKind
  kind = kind_at p k

  inside : k < length p.nodes
  inside = listed_there p fine k there

  -- the number is in range all along
  number_fits_lem : (t : ℕ) → t ≤ end p es → number_fits kind (u t k).number ≡ true
  unfolding fresh_heard heard_after
  number_fits_lem zero h = rw (reads.first k there) (told_fits p es fit 0 k (fresh_heard kind) (fine.nodes k inside).number)
  number_fits_lem (suc t) h =
      rw (reads.next t k h there) (told_at_fits p es (suc t) k (heard_after kind (u t k) (brought_to p s t k)) fit (number_fits_lem t (omega arith)))

  -- what the node took
  xs_first : xs (u 0 k) ≡ []
  unfolding fresh_heard
  xs_first = ap xs (reads.first k there) ∙ told_xs es 0 k (fresh_heard kind)

  xs_next : (t : ℕ) → t < end p es → xs (u (suc t) k) ≡ to_bits binary32 (first (brought_to p s t k)) ∷ xs (u t k)
  unfolding heard_after
  xs_next t h = ap xs (reads.next t k h there) ∙ told_at_xs p es (suc t) k (heard_after kind (u t k) (brought_to p s t k))

  -- ---- without late wires in

  module _ (in_time : (a : ℕ) → mem a (sources p.wires k) ≡ true → late (listed p) a k ≡ false) where
    -- a pass without sources that is not the input node is silent
    silent : kind ≡ Pass → length (distinct_sources p.wires k) ≡ 0 → k ≢ p.input → (t : ℕ) → t < end p es → s t k ≡ silence
    silent pass bare other =
        keeps_silent p.size silence s (end p es) k fine.least_size
        (λ t h.
        reads.sample t k h there
        ∙ ap (λ (n : NodeKind). sample_heard n (u t k) (held_at p es s t k) (brought_to p s t k)) pass
        ∙ pass-keeps (u t k) (held_at p es s t k) (brought_to p s t k) (length-map (distinct_sources p.wires k) _ ∙ bare)
        ∙ ap (λ (b : Bool). cond b (mono (input_at p es t)) (ago_n p s t k)) (ne_eqb k p.input other))

  -- ---- once the input and the node's sources are zero

  module _ (in_time : (a : ℕ) → mem a (sources p.wires k) ≡ true → late (listed p) a k ≡ false) (since : ℕ) (input : QuietInput p es since)
      (zeros : (a : ℕ) → mem a (sources p.wires k) ≡ true → (t : ℕ) → since ≤ t → t < end p es → ZeroFrame (s t a)) where
    brings_zero : (t : ℕ) → since ≤ t → t < end p es → (a : ℕ) → mem a (sources p.wires k) ≡ true → ZeroFrame (brings p s t k a)
    brings_zero t l h a e = rw (in_time a e) (zeros a e t l h)

    right_zero : (a : ℕ) (f : Frame) → ZeroFrame f → Zero (right_sample p a f)
    right_zero a f z = go (eqb (channels_of (kind_at p a)) 2)
      where
        go : (b : Bool) → Zero (cond b f.right f.left)
        go true = z.1
        go false = z.0

    brought_zero : (t : ℕ) → since ≤ t → t < end p es → Quiet (brought_to p s t k)
    brought_zero t l h = record {
      left = all_map ZeroFloat _ once (λ a e. zero_float _ (brings_zero t l h a (wired a e)).0);
      right = all_map ZeroFloat _ once (λ a e. zero_float _ (right_zero a (brings p s t k a) (brings_zero t l h a (wired a e))));
      second = λ e. zero_float _ (brings_zero t l h (second_source p.wires k) (second_source_lem p.wires k (more e))).0;
    }
      where
        once : List ℕ
        once = distinct_sources p.wires k

        wired : (a : ℕ) → mem a once ≡ true → mem a (sources p.wires k) ≡ true
        wired a e = sym (mem_distinct a (sources p.wires k)) ∙ e

        more : two (brought_to p s t k) ≡ true → 1 < length once
        more e = ltb-true 1 (length once) (ap (ltb 1) (sym (length-map once _)) ∙ e)

    -- the sample that it took j + 1 ago, or 0 if there is none
    past_zero : 0 < length (distinct_sources p.wires k) → (t j : ℕ) → t ≤ end p es → (j < t → since ≤ t - suc j) → Zero (get_or (xs (u t k)) j 0)
    past_zero w zero j h l = rw xs_first (inl refl)
    past_zero w (suc t) zero h l =
        let since-then : since ≤ t = omega (arith, l (omega arith)) in
        rw (xs_next t h) (zero_pattern _ (first-zero (brought_to p s t k) (brought_zero t since-then h) (rw length-map w)))
    past_zero w (suc t) (suc j) h l = rw (xs_next t h) (past_zero w t j (omega arith) (λ m. omega (arith, l (omega arith))))

    -- with a line of n, zero from n after that on
    oldest_zero : 0 < length_of kind → (t : ℕ) → since + length_of kind ≤ t → t < end p es → ZeroFloat (ago_by (length_of kind) (xs (u t k)) 0)
    unfolding ago_by
    oldest_zero pos t l h =
        let n : ℕ = length_of kind in
        let none_over : 0 % n ≡ 0 = zero-mod n in
        let fewest-there = at_least kind (length (distinct_sources p.wires k)) (fine.formed.sources_fit_lem blank k inside) in
        zero_float _ (past_zero (omega (arith, line-wired kind pos, fewest-there)) t (n - 0 % n - 1) (omega arith) (λ m. omega arith))

    -- what stands at its place, where it keeps it: the input, or nothing since time 0
    held_zero : (t : ℕ) → since ≤ t → t < end p es → keeps kind (brought_to p s t k) ≡ true → ZeroFrame (held_at p es s t k)
    held_zero t l h kept = go (eqb k p.input) refl
      where
        before : k ≢ p.input → (b : Bool) → ZeroFrame (cond b (s (t - p.size) k) silence)
        before other true =
            let pass = keeps-pass kind (brought_to p s t k) kept in
            let bare = sym (length-map (distinct_sources p.wires k) _) ∙ pass.1 in
            rw (silent in_time pass.0 bare other (t - p.size) (omega arith)) (inl refl, inl refl)
        before other false = (inl refl, inl refl)

        go : (b : Bool) → eqb k p.input ≡ b → ZeroFrame (cond b (mono (input_at p es t)) (ago_n p s t k))
        go true e = (input t l h, inl refl)
        go false e = before (eqb-false k p.input e) (leb p.size t)

    node_zero : delays kind ≡ true → (t : ℕ) → since + line_of kind ≤ t → t < end p es → ZeroFrame (s t k)
    node_zero only t l h =
        let after : since ≤ t = omega arith in
        let long : line_of kind ≡ length_of kind = line-length kind only in
        rw (reads.sample t k h there)
        (sample_zero (u t k) (brought_to p s t k) kind
        (record {
          only = only;
          line = (fine.nodes k inside).line;
          sources = ap (sources_fit kind) (length-map (distinct_sources p.wires k) _) ∙ fine.formed.sources_fit_lem blank k inside;
          number = number_fits_lem t (omega arith);
          brought = brought_zero t after h;
          oldest = λ pos. oldest_zero pos t (omega arith) h;
        })
        (held_at p es s t k) (held_zero t after h))

    pub sink_silent : kind ≡ Destination → (t : ℕ) → since ≤ t → t < end p es → s t k ≡ silence
    sink_silent e t l h =
        reads.sample t k h there ∙ ap (λ (n : NodeKind). sample_heard n (u t k) (held_at p es s t k) (brought_to p s t k)) e
        ∙ destination_silent (u t k) (held_at p es s t k) (brought_to p s t k) (brought_zero t l h)

  -- as the theory of the tail says it
  pub node_lags : delays kind ≡ true → ((a : ℕ) → mem a (sources p.wires k) ≡ true → late (listed p) a k ≡ false)
      → Lags (net_of p) (λ r. mono (input_at p es r)) (end p es) s ZeroFrame (line_of kind) k
  node_lags only in_time since input zeros t l h = node_zero in_time since (λ r m e. (input r m e).0) zeros only t l h
