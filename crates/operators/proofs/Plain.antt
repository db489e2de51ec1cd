-- Types that keep no carry, no place and no line: a block run stores their samples one after the other and leaves the rest of the cell.
--     Plain           what is asked of such a type
--     stored_mono     one channel: the samples are stored
--     stored_stereo   two channels: those of channel 0 are stored, then those of channel 1
--     block_kept      a node that keeps its block is left as it is
--     operator_run    an operator on two sources, or on one and its number
-- Assumes nothing.
use mathlib.Core.Path.{◌≡◌, refl, sym, ap, ◌∙◌}
use mathlib.Core.Bool.{true, false}
use mathlib.Core.List.{List}
use Prim.Native.Nat.{ℕ, ◌+◌, ◌*◌, ◌≤◌, ◌<◌}
use native.Mathlib.Omega.{arith}
use lib.ListN.{length, set, length-set}
use lib.Seq.{set-get_or}
use lib.Ieee.{Float, binary32, of_bits, to_bits, add, mul}
use Rattle.values.specs.Words.{words, length-words}
use Rattle.values.specs.Floats.{float_at}
use Rattle.kinds.specs.Kind.{channels_of, line_of, cell_size, samples_from, number_index}
use Rattle.kinds.specs.Iter.{iter}
use Rattle.kinds.specs.Rule.{Brought, State, first, operand, keeps, left_of, left_by, right_of, carry_after, place_after, line_after, sample_by, state_by}
use Rattle.kinds.specs.Cell.{Cell, with_samples, values_of, cell_of, frame_at, put_frame, step_cell, run_cell, run_values}
use Rattle.effects.specs.Block.{stored, op_number, op_sources, alone, pair, given_by}
use Rattle.operators.specs.Operators.{op_by}
use Rattle.std.specs.Prelude.{Option, Some, None}
use Rattle.kinds.specs.declared.kind.NodeKind.{NodeKind}
use Rattle.kinds.specs.declared.kind.NodeKind.TheVariants.{Mul, Add}
use Rattle.kinds.proofs.Iterated.{iter_builds}
use Rattle.effects.proofs.Woven.{two_at, woven_two}
use Rattle.kinds.proofs.Kept.{step_samples}
use Rattle.kinds.proofs.Cells.{values_cell, samples_long, set_sample}

-- ---- stores of blocks

-- the stores of two blocks, of which the second lies behind the first: sample by sample, or one block after the other
stored_both : (y z : ℕ → Float) (at next n : ℕ) (ws : List ℕ) → at + n ≤ next → stored z next n (stored y at n ws) ≡ iter (two_at y at z next) n ws
stored_both y z at next n ws h = woven_two y at z next n ws (λ i j a b e. omega arith)

-- ---- a block run

-- the state stays as it is
abbrev pub Plain : NodeKind → Type 0
Plain k = (s : State) (b : Brought) → state_by k s b ≡ s

module _ (k : NodeKind) (plain : Plain k) (N : ℕ) (bs : ℕ → Brought) where
  -- where each sample of a cell with the state s is the turn w of its values, the block run is its iteration
  run_as : (w : ℕ → List ℕ → List ℕ) (c : Cell)
      → ((i : ℕ) → i < N → (t : Cell) → t.state ≡ c.state → length t.samples ≡ length c.samples → w i (values_of t) ≡ values_of (step_cell k N bs i t))
      → iter w N (values_of c) ≡ values_of (run_cell k N bs c)
  unfolding iter run_cell step_cell
  run_as w c turn =
      (iter_builds (step_cell k N bs)
      (λ i t. (t.state ≡ c.state) × (length t.samples ≡ length c.samples) × (iter w i (values_of c) ≡ values_of t))
      c N (refl, refl, refl)
      (λ i h t p. (
        plain t.state (bs i) ∙ p.0,
        step_samples k N bs i t ∙ p.1,
        ap (w i) p.2 ∙ turn i h t p.0 p.1,
      ))
      ).2

cell_same : {s t : State} {l m : List ℕ} → s ≡ t → l ≡ m → ◌≡◌ {A = Cell} (record { state = s; samples = l }) (record { state = t; samples = m })
cell_same e f = λ i. record { state = e i; samples = f i }

module _ (k : NodeKind) (plain : Plain k) (N : ℕ) (bs : ℕ → Brought) (ws : List ℕ) (long : length ws ≡ cell_size N k) where
  abbrev start : Cell
  start = cell_of N k ws

  pub stored_mono : (y : ℕ → Float) → channels_of k ≡ 1 → ((i : ℕ) → i < N → keeps k (bs i) ≡ false)
      → ((i : ℕ) → i < N → left_by k start.state (bs i) ≡ y i) → stored y samples_from N ws ≡ run_values k N bs ws
  unfolding stored step_cell put_frame sample_by
  stored_mono y one goes gives =
      ap (stored y samples_from N) (sym (values_cell N k ws long))
      ∙ run_as k plain N bs (λ i vs. set vs (samples_from + i) (to_bits binary32 (y i))) start turn
    where
      turn : (i : ℕ) → i < N → (t : Cell) → t.state ≡ start.state → length t.samples ≡ length start.samples
          → set (values_of t) (samples_from + i) (to_bits binary32 (y i)) ≡ values_of (step_cell k N bs i t)
      turn i h t same as_long =
          let sampled : left_by k t.state (bs i) ≡ y i = ap (λ (s : State). left_by k s (bs i)) same ∙ gives i h in
          let fits : i < length t.samples = omega (arith, samples_long N k ws long, ap (λ (j : ℕ). N * j) one) in
          set_sample t (to_bits binary32 (y i)) i fits
          ∙ ap values_of (cell_same (sym (plain t.state (bs i))) (rw (one, goes i h, sampled) refl))

  pub stored_stereo : (y z : ℕ → Float) → channels_of k ≡ 2 → ((i : ℕ) → i < N → keeps k (bs i) ≡ false)
      → ((i : ℕ) → i < N → left_by k start.state (bs i) ≡ y i) → ((i : ℕ) → i < N → right_of k (bs i) ≡ z i)
      → stored z (samples_from + N) N (stored y samples_from N ws) ≡ run_values k N bs ws
  unfolding step_cell put_frame sample_by
  stored_stereo y z stereo goes gives right =
      stored_both y z samples_from (samples_from + N) N ws (omega arith)
      ∙ ap (iter (λ i vs. set (set vs (samples_from + i) (to_bits binary32 (y i))) (samples_from + N + i) (to_bits binary32 (z i))) N) (sym (values_cell N k ws long))
      ∙ run_as k plain N bs (λ i vs. set (set vs (samples_from + i) (to_bits binary32 (y i))) (samples_from + N + i) (to_bits binary32 (z i))) start turn
    where
      turn : (i : ℕ) → i < N → (t : Cell) → t.state ≡ start.state → length t.samples ≡ length start.samples
          → set (set (values_of t) (samples_from + i) (to_bits binary32 (y i))) (samples_from + N + i) (to_bits binary32 (z i)) ≡ values_of (step_cell k N bs i t)
      turn i h t same as_long =
          let a = to_bits binary32 (y i) in
          let b = to_bits binary32 (z i) in
          let sampled : left_by k t.state (bs i) ≡ y i = ap (λ (s : State). left_by k s (bs i)) same ∙ gives i h in
          let both : length t.samples ≡ N * 2 = as_long ∙ samples_long N k ws long ∙ ap (λ (j : ℕ). N * j) stereo in
          let place : samples_from + N + i ≡ samples_from + (N + i) = omega arith in
          ap (λ (l : List ℕ). set l (samples_from + N + i) b) (set_sample t a i (omega arith))
          ∙ ap (λ (j : ℕ). set (values_of (with_samples t (set t.samples i a))) j b) place
          ∙ set_sample (with_samples t (set t.samples i a)) b (N + i) (omega (arith, length-set t.samples i a))
          ∙ ap values_of (cell_same (sym (plain t.state (bs i))) (rw (stereo, goes i h, sampled, right i h) refl))

  pub block_kept : channels_of k ≡ 1 → ((i : ℕ) → i < N → keeps k (bs i) ≡ true) → ws ≡ run_values k N bs ws
  unfolding run_cell step_cell put_frame sample_by frame_at
  block_kept one keep =
      sym (values_cell N k ws long)
      ∙ ap values_of (sym (iter_builds (step_cell k N bs) (λ i t. t ≡ start) start N refl (λ i h t e.
      ap (step_cell k N bs i) e ∙ cell_same (plain start.state (bs i)) (rw (one, keep i h) (set-get_or start.samples i 0)))))

-- ---- operators

-- a type whose sample is an operation on its source and its number, or on its two sources
pub record Operator (op : Float → Float → Float) (k : NodeKind) : Type 0 where
  pub plain : Plain k
  pub mono : channels_of k ≡ 1
  pub lineless : line_of k ≡ 0
  pub goes : (b : Brought) → keeps k b ≡ false
  pub rule : (s : State) (b : Brought) → left_by k s b ≡ op (first b) (operand (of_bits binary32 s.number) b)

pub mul_operator : (f : Float) → Operator (mul binary32) (Mul f)
unfolding state_by carry_after place_after line_after keeps left_of
mul_operator f = record { plain = λ s b. refl; mono = refl; lineless = refl; goes = λ b. refl; rule = λ s b. refl }

pub add_operator : (f : Float) → Operator (add binary32) (Add f)
unfolding state_by carry_after place_after line_after keeps left_of
add_operator f = record { plain = λ s b. refl; mono = refl; lineless = refl; goes = λ b. refl; rule = λ s b. refl }

-- of a cell that is lent whole the loop leaves vs
module _ {op : Float → Float → Float} {k : NodeKind} (o : Operator op k) (N : ℕ) (x : List Float) (cell vs : List ℕ) (whole : length cell ≡ 4 * (samples_from + N)) where
  cell_long : length (words cell) ≡ cell_size N k
  cell_long = omega (arith, length-words cell, ap (λ (j : ℕ). N * j) o.mono, o.lineless)

  -- with its second source, or with its number
  pub operator_run : (m : Option (List Float)) → vs ≡ stored (op_by op x (float_at (words cell) number_index) m) samples_from N (words cell)
      → vs ≡ run_values k N (given_by x m) (words cell)
  unfolding cell_of
  operator_run None e =
      e ∙ stored_mono k o.plain N (alone x) (words cell) cell_long (op_number op x (float_at (words cell) number_index)) o.mono (λ i h. o.goes _) (λ i h. o.rule _ _)
  operator_run (Some m) e =
      e ∙ stored_mono k o.plain N (pair x m) (words cell) cell_long (op_sources op x m) o.mono (λ i h. o.goes _) (λ i h. o.rule _ _)
