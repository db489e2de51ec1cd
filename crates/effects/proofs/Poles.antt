-- One-poles: each turn of the loop is one step of the pole, whose last output is the carry. Assumes nothing.
use mathlib.Core.Path.{◌≡◌, refl, sym, ap, ◌∙◌}
use mathlib.Core.List.{List}
use Prim.Native.Nat.{ℕ, ◌+◌, ◌<◌}
use native.Mathlib.Omega.{arith}
use lib.Dec.{T}
use lib.ListN.{length}
use lib.Ieee.{Float, binary32, fits}
use lib.Ieee.Fits.{add-fits}
use Rattle.values.specs.Floats.{float_at, set_float}
use Rattle.leaves.specs.OnePole.{one_pole_of, one_pole_step}
use Rattle.leaves.specs.declared.onepole.OnePole.{OnePole}
use Rattle.kinds.specs.Kind.{cell_size, samples_from, number_index, carry_index}
use Rattle.kinds.specs.Rule.{left_of, keeps, carry_after, place_after, line_after, sample_by, state_by}
use Rattle.kinds.specs.Cell.{Cell, put_frame, frame_at, step_cell}
use Rattle.effects.specs.Block.{sample, alone}
use Rattle.kinds.specs.declared.kind.NodeKind.TheVariants as kinds
use Rattle.kinds.proofs.Carried.{carried, Carrying, carrying_none, carrying_more}

-- the output at place i after the output v; it is the carry too
abbrev pub output : Float → List Float → ℕ → Float → Float → Float
output b x i g v = (one_pole_step (one_pole_of b v) (sample x i)).y1

pub output_fits : (b : Float) (x : List Float) (i : ℕ) (g v : Float) → T (fits binary32 (output b x i g v))
unfolding one_pole_step
output_fits b x i g v = add-fits binary32 _ _

pub rule : (b : Float) (N : ℕ) (x : List Float) (i : ℕ) (c : Cell) → step_cell (kinds.OnePole b) N (alone x) i c ≡ carried (output b x) (output b x) i c
unfolding step_cell state_by sample_by keeps left_of carry_after place_after line_after put_frame frame_at
rule b N x i c = refl

pub same_coefficients : (b v x : Float) → one_pole_step (one_pole_of b v) x ≡ one_pole_of b (one_pole_step (one_pole_of b v) x).y1
unfolding one_pole_of one_pole_step
same_coefficients b v x = refl

-- the pole has the coefficients of b, and the values and its last output are those of place i
abbrev pub Runs : Float → ℕ → List Float → List ℕ → ℕ → List ℕ → OnePole → Type 0
Runs b N x ws₀ i ws p = (p ≡ one_pole_of b p.y1) × Carrying (kinds.OnePole b) N (alone x) ws₀ i ws p.y1

module _ (b : Float) (N : ℕ) (x : List Float) (ws₀ : List ℕ) (long : length ws₀ ≡ cell_size N (kinds.OnePole b)) where
  pub runs_none : (v : Float) (p : OnePole) → v ≡ float_at ws₀ carry_index → p ≡ one_pole_of b v → Runs b N x ws₀ 0 ws₀ p
  unfolding one_pole_of
  runs_none v p ev ep =
      let y : p.y1 ≡ v = ap (λ (q : OnePole). q.y1) ep in
      (ep ∙ ap (one_pole_of b) (sym y), carrying_none (kinds.OnePole b) N (alone x) ws₀ long p.y1 (y ∙ ev))

  pub runs_more : (i : ℕ) (ws ws' : List ℕ) (p q : OnePole) → i < N → q ≡ one_pole_step p (sample x i) → ws' ≡ set_float ws (samples_from + i) q.y1
      → Runs b N x ws₀ i ws p → Runs b N x ws₀ (i + 1) ws' q
  runs_more i ws ws' p q h eq es r =
      let e : q ≡ one_pole_step (one_pole_of b p.y1) (sample x i) = eq ∙ ap (λ (o : OnePole). one_pole_step o (sample x i)) r.0 in
      let y : q.y1 ≡ output b x i (float_at ws₀ number_index) p.y1 = ap (λ (o : OnePole). o.y1) e in (
        e ∙ same_coefficients b p.y1 (sample x i) ∙ ap (one_pole_of b) (sym y),
        carrying_more (kinds.OnePole b) N (alone x) ws₀ (output b x) (output b x) (rule b N x) i ws ws' (float_at ws₀ number_index) p.y1 q.y1
            long (omega arith) refl (output_fits b x i (float_at ws₀ number_index) p.y1) (es ∙ ap (set_float ws (samples_from + i)) y) y r.1,
      )
