-- The loops that carry a float from sample to sample, a one-pole's last output or a sine's phase, in a local: the samples are stored one by one,
-- and the carry once, at the end. `Carrying` is what holds before each sample.
--     carrying_none, carrying_more, carrying_end    at the loop's start, after one more sample, and after the last
-- Assumes nothing.
use mathlib.Core.Path.{◌≡◌, sym, ap, ◌∙◌}
use mathlib.Core.List.{List}
use Prim.Native.Nat.{ℕ, ◌+◌, ◌*◌, ◌<◌}
use native.Mathlib.Omega.{arith}
use native.Mathlib.Numerals.{add-one}
use lib.Dec.{T}
use lib.ListN.{length, get_or, set}
use lib.Ieee.{Float, binary32, of_bits, to_bits, fits}
use lib.Ieee.Bits.{of_bits-to_bits}
use Rattle.values.specs.Floats.{float_at, set_float}
use Rattle.kinds.specs.Kind.{cell_size, channels_of, samples_from, number_index, carry_index}
use Rattle.kinds.specs.Iter.{iter}
use Rattle.kinds.specs.Rule.{Brought, with_carry}
use Rattle.kinds.specs.Cell.{Cell, with_state, values_of, cell_of, step_cell, run_cell, run_values}
use Rattle.kinds.specs.declared.kind.NodeKind.{NodeKind}
use Rattle.kinds.proofs.Cells.{values_cell, samples_long, set_carry, set_sample}
use Rattle.kinds.proofs.Kept.{number_kept, samples_kept}

-- one sample of such a type at place i: it gives y and carries v from there
abbrev pub carried_by : (y v : Float) → ℕ → Cell → Cell
carried_by y v i c = record { state = with_carry c.state (to_bits binary32 v); samples = set c.samples i (to_bits binary32 y) }

-- the two by the number g and the carry v that stand there
abbrev pub carried : (out on : ℕ → Float → Float → Float) → ℕ → Cell → Cell
carried out on i c =
    let g = of_bits binary32 c.state.number in
    let v = of_bits binary32 c.state.carry in
    carried_by (out i g v) (on i g v) i c

module _ (k : NodeKind) (N : ℕ) (bs : ℕ → Brought) (ws₀ : List ℕ) where
  -- the cell after i samples
  abbrev after : ℕ → Cell
  after i = iter (step_cell k N bs) i (cell_of N k ws₀)

  -- the values ws hold the samples so far and still the first carry; the local v holds the carry
  pub record Carrying (i : ℕ) (ws : List ℕ) (v : Float) : Type 0 where
    pub values : ws ≡ values_of (with_state (after i) (with_carry (after i).state (get_or ws₀ carry_index 0)))
    pub local : v ≡ of_bits binary32 (after i).state.carry
    pub stored : 0 < i → to_bits binary32 v ≡ (after i).state.carry

  pub carrying_none : length ws₀ ≡ cell_size N k → (v : Float) → v ≡ float_at ws₀ carry_index → Carrying 0 ws₀ v
  unfolding iter cell_of
  carrying_none long v e = record { values = sym (values_cell N k ws₀ long); local = e; stored = λ h. absurd (omega arith) }

  module _ (out on : ℕ → Float → Float → Float) (rule : (i : ℕ) (c : Cell) → step_cell k N bs i c ≡ carried out on i c) where
    -- the next cell, by the number and the local
    next_cell : (i : ℕ) (g v : Float) → g ≡ float_at ws₀ number_index → v ≡ of_bits binary32 (after i).state.carry → after (i + 1) ≡ carried_by (out i g v) (on i g v) i (after i)
    unfolding iter cell_of
    next_cell i g v eg ev =
        let c = after i in
        let same : g ≡ of_bits binary32 c.state.number = eg ∙ ap (of_bits binary32) (sym (number_kept k N bs i (cell_of N k ws₀))) in
        rw (add-one i)
        (rule i c ∙ ap (λ (h : Float). carried_by (out i h (of_bits binary32 c.state.carry)) (on i h (of_bits binary32 c.state.carry)) i c) (sym same)
        ∙ ap (λ (u : Float). carried_by (out i g u) (on i g u) i c) (sym ev))

    pub carrying_more : (i : ℕ) (ws ws' : List ℕ) (g v v' : Float) → length ws₀ ≡ cell_size N k → i < N * channels_of k → g ≡ float_at ws₀ number_index → T (fits binary32 (on i g v))
        → ws' ≡ set_float ws (samples_from + i) (out i g v) → v' ≡ on i g v → Carrying i ws v → Carrying (i + 1) ws' v'
    carrying_more i ws ws' g v v' long h eg f es ev r =
        let c = after i in
        let first = get_or ws₀ carry_index 0 in
        let held = with_state c (with_carry c.state first) in
        let next : after (i + 1) ≡ carried_by (out i g v) (on i g v) i c = next_cell i g v eg r.local in
        let room : i < length held.samples = omega (arith, samples_kept k N bs i (cell_of N k ws₀), samples_long N k ws₀ long) in
        record {
          values = es ∙ ap (λ (l : List ℕ). set_float l (samples_from + i) (out i g v)) r.values
              ∙ set_sample held (to_bits binary32 (out i g v)) i room
              ∙ ap (λ (d : Cell). values_of (with_state d (with_carry d.state first))) (sym next);
          local = ev ∙ sym (of_bits-to_bits binary32 (on i g v) f) ∙ ap (λ (d : Cell). of_bits binary32 d.state.carry) (sym next);
          stored = λ _. ap (to_bits binary32) ev ∙ ap (λ (d : Cell). d.state.carry) (sym next);
        }

  pub carrying_end : (i : ℕ) (ws : List ℕ) (v : Float) → i ≡ N → 0 < N → Carrying i ws v → set_float ws carry_index v ≡ run_values k N bs ws₀
  unfolding run_cell
  carrying_end i ws v e h r =
      let c = after i in
      let some : 0 < i = omega arith in
      ap (λ (l : List ℕ). set_float l carry_index v) r.values
      ∙ set_carry (with_state c (with_carry c.state (get_or ws₀ carry_index 0))) (to_bits binary32 v)
      ∙ ap (λ (b : ℕ). values_of (with_state c (with_carry c.state b))) (r.stored some)
      ∙ ap (λ (n : ℕ). values_of (after n)) e
