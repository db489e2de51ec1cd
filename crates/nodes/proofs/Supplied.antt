-- What a node's block run is required to be ready with, as its types ask it; and the types that only store their blocks: pass, sum,
-- destination and balance run on the blocks as on what the wires bring (`Supplies`).
-- Assumes nothing.
use mathlib.Core.Path.{◌≡◌, refl, sym, ap, subst, ◌∙◌}
use mathlib.Core.Bool.{Bool, true, false}
use mathlib.Core.List.{List, [], ◌∷◌}
use Rattle.std.specs.Prelude.{Option}
use Rattle.std.specs.Bool.{then_some}
use Prim.Native.Nat.{ℕ, ◌+◌, ◌*◌, ◌≤◌, ◌<◌}
use native.Mathlib.Omega.{arith}
use borrow.Author.Tests.{ltb-true, ltb-false, leb-true, eq-eqb, ne_eqb}
use lib.Dec.{leb, ltb, T}
use lib.ListN.{length, get_or}
use lib.Ieee.{Float}
use Rattle.values.specs.Words.{words, length-words}
use Rattle.values.specs.Floats.{float_at}
use Rattle.values.specs.Floors.{f1, f44100, within}
use Rattle.kinds.specs.Kind.{fewest, most, cell_size, samples_from, number_index, carry_index, place_index}
use Rattle.kinds.specs.Rule.{Brought, keeps, left_of, right_of, carry_after, place_after, line_after, state_by}
use Rattle.kinds.specs.Cell.{cell_of, number_fits, carry_fits, place_fits, run_values}
use Rattle.effects.specs.Block.{sample, put_block, alone, pair, given_by, nothing}
use Rattle.nodes.specs.Ready.{Operands, Supplies, CellReady}
use Rattle.kinds.specs.declared.kind.NodeKind.{NodeKind}
use Rattle.kinds.specs.declared.kind.NodeKind.TheVariants.{Pass, Sum, Destination, Balance, Delay, AllPass, Sine}
use Rattle.kinds.proofs.Arms.{Among, arm}
use Rattle.nodes.proofs.Alike.{ReadsOperands, run_alike, alike_pair, alike_alone, alike_nothing}
use Rattle.kinds.proofs.Kept.{Judged, both, fits_judged}
use Rattle.operators.proofs.Plain.{stored_mono, stored_stereo, block_kept}

-- ---- what is ready

-- the cell is lent whole, with as many sources as its type takes
module _ {cell : List ℕ} {k : NodeKind} {N n : ℕ} (ready : CellReady cell k N n) where
  pub cell_long : length (words cell) ≡ cell_size N k
  cell_long = omega (arith, length-words cell, ready.whole)

  pub at_least : fewest k ≤ n
  at_least = leb-true (fewest k) n (both (leb (fewest k) n) (leb n (most k)) ready.counted).0

  pub at_most : n ≤ most k
  at_most = leb-true n (most k) (both (leb (fewest k) n) (leb n (most k)) ready.counted).1

  judged : Judged k (cell_of N k (words cell)).state
  judged = fits_judged k N (words cell) ready.judged

-- the room of two channels
pub stereo_whole : {cell : List ℕ} {k : NodeKind} {N n : ℕ} → Among (2 ∷ 3 ∷ []) k → CellReady cell k N n → length cell ≡ 4 * (samples_from + N * 2)
stereo_whole {cell} {k} {N} {n} o ready = arm (λ j. CellReady cell j N n → length cell ≡ 4 * (samples_from + N * 2)) (2 ∷ 3 ∷ []) k o (λ r. omega arith, λ r. omega arith) ready

-- the place of a ring is below its length; a frequency and a phase lie within their ranges
module _ {cell : List ℕ} {N n : ℕ} where
  pub delay_place : {l : ℕ} → CellReady cell (Delay l) N n → get_or (words cell) place_index 0 < l
  unfolding cell_of place_fits
  delay_place ready = ltb-true _ _ (judged ready).place

  pub all_pass_place : {l : ℕ} {f : Float} → CellReady cell (AllPass l f) N n → get_or (words cell) place_index 0 < l
  unfolding cell_of place_fits
  all_pass_place ready = ltb-true _ _ (judged ready).place

  pub sine_ranges : {f : Float} → CellReady cell (Sine f) N n → T (within f44100 (float_at (words cell) number_index)) × T (within f1 (float_at (words cell) carry_index))
  unfolding cell_of number_fits carry_fits
  sine_ranges ready = (subst T (sym (judged ready).number) tt, subst T (sym (judged ready).carry) tt)

-- ---- the arms

-- what is left of a node's cell, vs, is its run on whatever supplies the blocks
abbrev pub Runs : List ℕ → ℕ → ℕ → List Float → List Float → List ℕ → NodeKind → Type 0
Runs cell N n x m vs k = (bs : ℕ → Brought) → Supplies k n N x m bs → vs ≡ run_values k N bs (words cell)

module _ {cell : List ℕ} {N n : ℕ} {x m : List Float} {vs : List ℕ} where
  pub sum_runs : CellReady cell Sum N n → vs ≡ put_block x samples_from N (words cell) → Runs cell N n x m vs Sum
  unfolding keeps left_of state_by carry_after place_after line_after
  sum_runs ready e bs supply =
      e ∙ stored_mono Sum (λ s b. refl) N bs (words cell) (cell_long ready) (sample x) refl (λ i h. refl) (λ i h. (supply.gives i h).0)

  -- the two stereo types
  pub stereo_runs : {k : NodeKind} {us : List ℕ} → Among (2 ∷ 3 ∷ []) k → CellReady cell k N n → us ≡ put_block x samples_from N (words cell) → vs ≡ put_block m (samples_from + N) N us → Runs cell N n x m vs k
  unfolding keeps left_of right_of state_by carry_after place_after line_after
  stereo_runs {k} o ready d e = arm (λ j. CellReady cell j N n → Runs cell N n x m vs j) (2 ∷ 3 ∷ []) k o (destination, balance) ready
    where
      both_put : vs ≡ put_block m (samples_from + N) N (put_block x samples_from N (words cell))
      both_put = e ∙ ap (put_block m (samples_from + N) N) d

      destination : CellReady cell Destination N n → Runs cell N n x m vs Destination
      destination r bs supply =
          both_put
          ∙ stored_stereo Destination (λ s b. refl) N bs (words cell) (cell_long r) (sample x) (sample m) refl (λ i h. refl)
          (λ i h. (supply.gives i h).0) (λ i h. (supply.gives i h).1 refl)

      balance : CellReady cell Balance N n → Runs cell N n x m vs Balance
      balance r bs supply =
          let two : 2 ≤ n = at_least r in
          both_put
          ∙ stored_stereo Balance (λ s b. refl) N bs (words cell) (cell_long r) (sample x) (sample m) refl (λ i h. refl)
          (λ i h. (supply.gives i h).0 (omega arith)) (λ i h. (supply.gives i h).1 (omega arith))

  -- with a source, and with none
  pub pass_runs : CellReady cell Pass N n → 0 < n → vs ≡ put_block x samples_from N (words cell) → Runs cell N n x m vs Pass
  unfolding keeps left_of state_by carry_after place_after line_after
  pass_runs ready some e bs supply =
      e
      ∙ stored_mono Pass (λ s b. refl) N bs (words cell) (cell_long ready) (sample x) refl
      (λ i h. ne_eqb (length (bs i).left) 0 (λ q. omega (arith, supply.counted i h))) (λ i h. (supply.gives i h).0 some)

  pub pass_kept : CellReady cell Pass N n → n ≡ 0 → vs ≡ words cell → Runs cell N n x m vs Pass
  unfolding keeps state_by carry_after place_after line_after
  pass_kept ready none e bs supply =
      e ∙ block_kept Pass (λ s b. refl) N bs (words cell) (cell_long ready) refl (λ i h. eq-eqb _ _ (supply.counted i h ∙ none))

operands : {k : NodeKind} {N n : ℕ} {x m : List Float} {bs : ℕ → Brought} → ReadsOperands k → Supplies k n N x m bs
    → (i : ℕ) → i < N → Operands n (bs i) (sample x i) (sample m i)
operands {n = n} {x = x} {m = m} {bs = bs} r supply i h = r.asks n (bs i) (sample x i) (sample m i) (supply.gives i h)

-- a type that reads its operands runs on their blocks as on what the wires bring
module _ {cell : List ℕ} {k : NodeKind} {N n : ℕ} {x m : List Float} {vs : List ℕ} (r : ReadsOperands k) (ready : CellReady cell k N n) where
  pub pair_runs : 1 < n → vs ≡ run_values k N (pair x m) (words cell) → Runs cell N n x m vs k
  pair_runs two e bs supply =
      e ∙ run_alike r N (pair x m) bs (words cell) (λ i h. alike_pair (bs i) n i x m (supply.counted i h) (operands r supply i h) two)

  pub one_runs : n ≡ 1 → vs ≡ run_values k N (alone x) (words cell) → Runs cell N n x m vs k
  one_runs one e bs supply =
      e ∙ run_alike r N (alone x) bs (words cell) (λ i h. alike_alone (bs i) n i x m (supply.counted i h) (operands r supply i h) one)

  -- of one or two, the second where there is one
  pub given_runs : {o : Option (List Float)} → 0 < fewest k → o ≡ then_some (ltb 1 n) m → vs ≡ run_values k N (given_by x o) (words cell) → Runs cell N n x m vs k
  given_runs {o} some e-o e = go (ltb 1 n) refl (e ∙ ap (λ (p : Option (List Float)). run_values k N (given_by x p) (words cell)) e-o)
    where
      go : (t : Bool) → ltb 1 n ≡ t → vs ≡ run_values k N (given_by x (then_some t m)) (words cell) → Runs cell N n x m vs k
      go true q f = pair_runs (ltb-true 1 n q) f
      go false q f = one_runs (omega (arith, ltb-false 1 n q, at_least ready)) f

  pub alone_runs : fewest k ≡ 1 → most k ≡ 1 → vs ≡ run_values k N (alone x) (words cell) → Runs cell N n x m vs k
  alone_runs least most-one = one_runs (omega (arith, at_least ready, at_most ready))

  pub nothing_runs : most k ≡ 0 → vs ≡ run_values k N nothing (words cell) → Runs cell N n x m vs k
  nothing_runs none e bs supply =
      e ∙ run_alike r N nothing bs (words cell) (λ i h. alike_nothing (bs i) n i x m (supply.counted i h) (operands r supply i h) (omega (arith, at_most ready)))
