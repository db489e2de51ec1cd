-- A type that reads its first source, and where there are two sources the second, runs alike on all that brings the same of these.
--     ReadsOperands     such a type; mul_reads, add_reads, delay_reads, all_pass_reads, one_pole_reads, sine_reads
--     run_alike         the block run
--     alike_pair, alike_alone, alike_nothing    blocks of the operands, and what the wires bring
-- Assumes nothing.
use mathlib.Core.Path.{◌≡◌, refl, sym, ap, subst, ◌∙◌}
use mathlib.Core.Bool.{Bool, true, false, cond}
use mathlib.Core.List.{List}
use Prim.Native.Nat.{ℕ, ◌+◌, ◌<◌}
use native.Mathlib.Omega.{arith}
use borrow.Author.Tests.{lt-ltb}
use lib.Dec.{ltb}
use lib.ListN.{length, get_or-eq_default}
use lib.Ieee.{Float, nan, binary32, of_bits, to_bits, add, mul}
use Rattle.values.specs.Floors.{floor_of}
use Rattle.leaves.specs.Position.{position_of, rest_of}
use Rattle.leaves.specs.OnePole.{one_pole_of, one_pole_step}
use Rattle.kinds.specs.Row.{Terms, Writes, mono, product, plus, delayed, filtered_by, smoothed, wave, row_of}
use Rattle.kinds.specs.Kind.{channels_of}
use Rattle.kinds.specs.Rule.{Brought, State, first, two, all_pass, between, tap_by, tap, keeps_in, keeps, left_in, left_of, left_by, right_in, right_of, carry_after, x_line, y_line, place_after, line_after, sample_by, state_by}
use Rattle.kinds.specs.Cell.{Cell, values_of, cell_of, frame_at, put_frame, step_cell, run_cell, run_values}
use Rattle.effects.specs.Block.{sample, alone, pair, nothing}
use Rattle.nodes.specs.Ready.{sums_sources, GivesBy, Operands, Gives}
use Rattle.kinds.specs.declared.kind.NodeKind.{NodeKind}
use Rattle.kinds.specs.declared.kind.NodeKind.TheVariants.{Mul, Add, Delay, AllPass, OnePole, Sine}
use Rattle.kinds.proofs.Iterated.{iter_same}

pub record Alike (b d : Brought) : Type 0 where
  pub firsts : first b ≡ first d
  pub twos : two b ≡ two d
  pub seconds : two b ≡ true → b.second ≡ d.second

pub record ReadsOperands (k : NodeKind) : Type 0 where
  pub left : (s : State) (b d : Brought) → Alike b d → left_by k s b ≡ left_by k s d
  pub right : (b d : Brought) → right_of k b ≡ right_of k d
  pub goes : (b d : Brought) → keeps k b ≡ keeps k d
  pub asks : (n : ℕ) (b : Brought) (x m : Float) → Gives k n b x m → Operands n b x m

-- ---- the types

-- what depends on whether there are two, and then on the second
second_same : {A : Type 0} (b d : Brought) (f : Float → A) (a : A) → Alike b d → cond (two b) (f b.second) a ≡ cond (two d) (f d.second) a
second_same b d f a e = go (two b) (two d) e.twos e.seconds
  where
    go : (t u : Bool) → t ≡ u → (t ≡ true → b.second ≡ d.second) → cond t (f b.second) a ≡ cond u (f d.second) a
    go true true p q = ap f (q refl)
    go true false p q = cc
    go false true p q = cc
    go false false p q = refl

tap_same : (n : ℕ) (get : ℕ → Float) (b d : Brought) → Alike b d → tap n b get ≡ tap n d get
unfolding tap_by
tap_same n get b d e =
    second_same b d (λ w. let pos = position_of w n in between (get (floor_of pos)) (get (floor_of pos + 1)) (rest_of pos)) (get 0) e

-- a row of one channel whose formula reads no more of the wires
abbrev rewired : Brought → Terms → Terms
rewired d t = record { number = t.number; carry = t.carry; x = t.x; y = t.y; wires = d }

mono_reads : (k : NodeKind) (f : Terms → Float) → (row_of k).writes ≡ mono f → sums_sources k ≡ false
    → ((t : Terms) (d : Brought) → Alike t.wires d → f t ≡ f (rewired d t)) → ReadsOperands k
unfolding left_of right_of keeps
mono_reads k f is single reads = record {
  left = λ s b d e.
      let t : Terms = record { number = of_bits binary32 s.number; carry = of_bits binary32 s.carry; x = x_line k s; y = y_line k s; wires = b } in
      ap (λ (w : Writes). left_in w t) is ∙ reads t d e ∙ ap (λ (w : Writes). left_in w (rewired d t)) (sym is);
  right = λ b d. ap (λ (w : Writes). right_in w b) is ∙ ap (λ (w : Writes). right_in w d) (sym is);
  goes = λ b d. ap (λ (w : Writes). keeps_in w b) is ∙ ap (λ (w : Writes). keeps_in w d) (sym is);
  asks = λ n b x m g. subst (λ (q : Bool). GivesBy q (channels_of k) n b x m) single g;
}

pub mul_reads : (f : Float) → ReadsOperands (Mul f)
mul_reads f = mono_reads (Mul f) product refl refl (λ t d e i. mul binary32 (e.firsts i) (second_same t.wires d (λ m. m) t.number e i))

pub add_reads : (f : Float) → ReadsOperands (Add f)
add_reads f = mono_reads (Add f) plus refl refl (λ t d e i. add binary32 (e.firsts i) (second_same t.wires d (λ m. m) t.number e i))

pub delay_reads : (n : ℕ) → ReadsOperands (Delay n)
delay_reads n = mono_reads (Delay n) delayed refl refl (λ t d e. refl)

pub all_pass_reads : (n : ℕ) (f : Float) → ReadsOperands (AllPass n f)
all_pass_reads n f =
    mono_reads (AllPass n f) (filtered_by between n) refl refl
    (λ t d e i. all_pass t.number (e.firsts i) (tap_same n t.x t.wires d e i) (tap_same n t.y t.wires d e i))

pub one_pole_reads : (f : Float) → ReadsOperands (OnePole f)
one_pole_reads f = mono_reads (OnePole f) (smoothed f) refl refl (λ t d e i. (one_pole_step (one_pole_of f t.carry) (e.firsts i)).y1)

pub sine_reads : (f : Float) → ReadsOperands (Sine f)
sine_reads f = mono_reads (Sine f) wave refl refl (λ t d e. refl)

-- ---- a block run

module _ {k : NodeKind} (r : ReadsOperands k) (N : ℕ) (bs ds : ℕ → Brought) where
  step_alike : (i : ℕ) → Alike (bs i) (ds i) → (c : Cell) → step_cell k N bs i c ≡ step_cell k N ds i c
  unfolding step_cell sample_by state_by
  step_alike i e c =
      let s : State = c.state in
      let y : left_by k s (bs i) ≡ left_by k s (ds i) = r.left s (bs i) (ds i) e in
      λ j. record {
        state = record {
          number = s.number;
          carry = carry_after k (of_bits binary32 s.number) s.carry (y j);
          place = place_after k s.place;
          line = line_after k s.place (to_bits binary32 (e.firsts j)) (to_bits binary32 (y j)) s.line;
        };
        samples = put_frame (channels_of k) N i
            (cond (r.goes (bs i) (ds i) j) (frame_at N i c.samples) (record { left = to_bits binary32 (y j); right = to_bits binary32 (r.right (bs i) (ds i) j) }))
            c.samples;
      }

  pub run_alike : (ws : List ℕ) → ((i : ℕ) → i < N → Alike (bs i) (ds i)) → run_values k N bs ws ≡ run_values k N ds ws
  unfolding run_cell
  run_alike ws e = ap values_of (iter_same (step_cell k N bs) (step_cell k N ds) N (cell_of N k ws) (λ i h. step_alike i (e i h) _))

-- ---- on blocks of the operands

module _ (b : Brought) (n i : ℕ) (x m : List Float) (counted : length b.left ≡ n) (o : Operands n b (sample x i) (sample m i)) where
  pub alike_pair : 1 < n → Alike (pair x m i) b
  alike_pair h = record { firsts = sym (o.0 (omega arith)); twos = sym (ap (ltb 1) counted ∙ lt-ltb 1 n h); seconds = λ q. sym (o.1 h) }

  pub alike_alone : n ≡ 1 → Alike (alone x i) b
  alike_alone one = record { firsts = sym (o.0 (omega arith)); twos = sym (ap (ltb 1) (counted ∙ one)); seconds = λ q. cc }

  pub alike_nothing : n ≡ 0 → Alike (nothing i) b
  alike_nothing none = record { firsts = sym (get_or-eq_default b.left nan (omega arith)); twos = sym (ap (ltb 1) (counted ∙ none)); seconds = λ q. cc }
