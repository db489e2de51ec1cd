-- `operators::sin_osc::sin_osc` meets its contract: each phase and its sine are one sample of the rule. Assumes nothing.
use mathlib.Core.Path.{◌≡◌, refl, sym, ap, ◌∙◌, subst}
use mathlib.Core.List.{List}
use Prim.Native.Nat.{ℕ, zero, suc, ◌+◌, ◌≤◌}
use native.Mathlib.Numerals.{add-one}
use native.Mathlib.Omega.{arith}
use lib.Dec.{T}
use lib.ListN.{length, drop, replicate, length-replicate}
use lib.Seq.{length-take-le}
use lib.Ieee.{Float}
use Rattle.values.specs.Words.{words, length-words}
use Rattle.values.specs.Floats.{float_at, set_float}
use Rattle.values.specs.Floors.{f1, f44100, within}
use Rattle.leaves.specs.Phase.{increment, advance, phase_after}
use Rattle.leaves.specs.Sine.{sine_of, phase_units, over23}
use Rattle.leaves.proofs.PhaseStep.{phase_stays, phase_fits}
use Rattle.kinds.specs.Iter.{iter}
use Rattle.kinds.specs.Kind.{cell_size, samples_from, number_index, carry_index}
use Rattle.kinds.specs.Rule.{left_of, keeps, carry_after, place_after, line_after, sample_by, state_by}
use Rattle.kinds.specs.Cell.{Cell, put_frame, frame_at, step_cell}
use Rattle.effects.specs.Block.{nothing, stored}
use Rattle.operators.specs.Phases.{Stays, Units, sine_at}
use Rattle.kinds.specs.declared.kind.NodeKind.TheVariants.{Sine}
use Rattle.kinds.proofs.Carried.{carried, Carrying, carrying_none, carrying_more, carrying_end}
use Rattle.operators.proofs.sin_osc.sin_osc.Goals as goal

-- what a sine of frequency g gives at the phase v, and the phase from there
abbrev heard : ℕ → Float → Float → Float
heard i g v = over23 (sine_of (phase_units v))

abbrev turned : ℕ → Float → Float → Float
turned i g v = phase_after g v

rule : (f : Float) (N i : ℕ) (c : Cell) → step_cell (Sine f) N nothing i c ≡ carried heard turned i c
unfolding step_cell state_by sample_by keeps left_of carry_after place_after line_after put_frame frame_at
rule f N i c = refl

-- the phase at place i, where that at place 0 is v
abbrev phase_at : Float → Float → ℕ → Float
phase_at by v zero = v
phase_at by v (suc i) = advance (phase_at by v i) by

module _ (g by : Float) (eb : by ≡ increment g) where
  stays : T (within f44100 g) → Stays by
  stays band p h = subst (λ (b : Float). T (within f1 (advance p b))) (sym eb) (phase_stays g p band h)

  module _ (N : ℕ) (ws : List ℕ) (long : (f : Float) → length ws ≡ cell_size N (Sine f)) (eg : g ≡ float_at ws number_index) (v : Float) (ev : v ≡ float_at ws carry_index)
      (us : List ℕ) (units : Units (phase_at by v) N us) (f : Float) where
    -- the samples up to place i, and the phase there
    runs : (i : ℕ) → i ≤ N → Carrying (Sine f) N nothing ws i (stored (sine_at us) samples_from i ws) (phase_at by v i)
    unfolding stored iter
    runs zero h = carrying_none (Sine f) N nothing ws (long f) v ev
    runs (suc i) h =
        let p = phase_at by v i in
        let before = stored (sine_at us) samples_from i ws in
        let e : sine_at us i ≡ heard i g p = ap (λ (u : ℕ). over23 (sine_of u)) (units i h) in
        subst (λ (k : ℕ). Carrying (Sine f) N nothing ws k (stored (sine_at us) samples_from (suc i) ws) (phase_at by v (suc i))) (add-one i)
        (carrying_more (Sine f) N nothing ws heard turned (rule f N) i before _ g p _ (long f) (omega arith) eg (phase_fits g p)
        (ap (set_float before (samples_from + i)) e) (ap (advance p) eb) (runs i (omega arith)))

pub phases-last-requires : goal.phases-last-requires
phases-last-requires c = (
  subst (λ (x : Float). T (within f1 x)) (sym c.load-2.ensures) c.requires.in_band.1,
  stays c.load.result c.increment-by.result c.increment-by.ensures (subst (λ (x : Float). T (within f44100 x)) (sym c.load.ensures) c.requires.in_band.0),
)

pub returns : goal.returns
returns c f =
    let size = c.args.size in
    let cell = c.args.cell.now in
    let by = c.increment-by.result in
    let v = c.load-2.result in
    let us = c.phases-last.new.units in
    let whole : length us ≡ size = c.phases-last.auto.units ∙ length-take-le size (drop 0 (replicate 128 0)) (omega (arith, length-replicate {A = ℕ} 128 0, c.requires.size_nonzero.1)) in
    let all =
    subst (λ (n : ℕ). (c.phases-last.result ≡ phase_at by v n) × Units (phase_at by v) n us) (sym c.phases-last.auto.units ∙ whole)
    (c.phases-last.ensures (phase_at by v) (λ i. refl) refl) in
    let runs_all = runs c.load.result by c.increment-by.ensures size (words cell) (λ f. omega (arith, length-words cell))
    c.load.ensures v c.load-2.ensures us all.1 f size (omega arith) in
    c.store.ensures
    ∙ ap (λ (x : Float). set_float (words c.sines.new.cell) carry_index x) all.0
    ∙ ap (λ (l : List ℕ). set_float l carry_index (phase_at by v size)) (c.sines.ensures ∙ ap (λ (n : ℕ). stored (sine_at us) samples_from n (words cell)) whole)
    ∙ carrying_end (Sine f) size nothing (words cell) size _ _ refl c.requires.size_nonzero.0 runs_all
