-- What a block run keeps, for every kind: the number, the lengths, and that the judged values are as they must be. A number message keeps them too.
--     number_kept, samples_kept, line_kept, fits_kept    after any number of samples
--     run_long, run_fits                                 after a block run
--     run_own                                            the node's cell, after its block run over the whole memory
--     fits_part                                          the judgement of a part and of what starts there
--     message_fits                                       after a number message
-- Assumes nothing.
use mathlib.Core.Path.{◌≡◌, refl, ap, ◌∙◌}
use mathlib.Core.Bool.{Bool, true, false, cond, ◌&&◌, false≢true}
use mathlib.Core.List.{List, [], ◌∷◌}
use Prim.Native.Nat.{ℕ, suc, ◌+◌, ◌≤◌}
use native.Mathlib.Omega.{arith}
use lib.Dec.{T, ltb, eqb}
use lib.ListN.{length, get_or, set, drop, length-set, length-drop}
use lib.Seq.{get_or-take, take_all, length-take-le}
use lib.Ieee.{Float, binary32, of_bits, to_bits, fits}
use lib.Ieee.Bits.{of_bits-to_bits}
use denote.Floats.{passes, is_true}
use borrow.Author.Tests.{ltb-true, lt-ltb, eqb-false}
use Rattle.std.specs.Cmp.Derive.{both_true}
use Rattle.std.proofs.lemmas.Bool.{and_parts}
use Rattle.values.specs.Floors.{f1, f44100, within}
use Rattle.values.specs.Parts.{part, part_paste}
use Rattle.leaves.specs.Phase.{phase_after}
use Rattle.leaves.proofs.PhaseStep.{phase_stays, phase_fits}
use Rattle.kinds.specs.Row.{Value, unused, coefficient, numbered, in_range, Line, no_line, line_x, line_xy, Carry, no_carry, last_output, running_phase, row_of}
use Rattle.kinds.specs.Kind.{cell_size, channels_of, number_index, carry_index, place_index}
use Rattle.kinds.specs.Iter.{iter}
use Rattle.kinds.specs.Rule.{Brought, State, next, left_by, carried_on, carry_after, place_on, place_after, state_by}
use Rattle.kinds.specs.Cell.{Cell, values_of, cell_of, value_in, number_in, carry_in, place_in, value_fits, number_fits, carry_fits, place_fits, cell_fits, put_frame, step_cell, run_cell, run_values}
use Rattle.kinds.specs.Node.{node_run}
use Rattle.kinds.specs.declared.kind.NodeKind.{NodeKind}
use Rattle.kinds.proofs.Rows.{Steady, row_laws}
use Rattle.kinds.proofs.Unread.{line_after_long}
use Rattle.kinds.proofs.Iterated.{iter_keeps}
use Rattle.kinds.proofs.Cells.{samples_long, line_long, length_values}

-- ---- the number and the lengths

frame_long : (b : Bool) (l : List ℕ) (i j x y : ℕ) → length (cond b (set (set l i x) j y) (set l i x)) ≡ length l
frame_long true l i j x y = length-set (set l i x) j y ∙ length-set l i x
frame_long false l i j x y = length-set l i x

-- ---- the judged values

-- the three judgements of a state
pub record Judged (k : NodeKind) (s : State) : Type 0 where
  pub number : number_fits k s.number ≡ true
  pub carry : carry_fits k s.carry ≡ true
  pub place : place_fits k s.place ≡ true

pub both : (a b : Bool) → a && b ≡ true → (a ≡ true) × (b ≡ true)
both = and_parts

module _ (k : NodeKind) where
  pub fits_judged : (N : ℕ) (ws : List ℕ) → cell_fits k ws ≡ true → Judged k (cell_of N k ws).state
  unfolding cell_of
  fits_judged N ws e =
      let front = both (number_fits k (get_or ws number_index 0) && carry_fits k (get_or ws carry_index 0)) (place_fits k (get_or ws place_index 0)) e in
      let first = both (number_fits k (get_or ws number_index 0)) (carry_fits k (get_or ws carry_index 0)) front.0 in
      record { number = first.0; carry = first.1; place = front.1 }

  pub judged_fits : (c : Cell) → Judged k c.state → cell_fits k (values_of c) ≡ true
  unfolding values_of
  judged_fits c j = both_true (both_true j.number j.carry) j.place

-- the values of a cell, and all from there on, are judged alike
pub fits_part : (k : NodeKind) (N at : ℕ) (ws : List ℕ) → cell_fits k (part ws at (cell_size N k)) ≡ cell_fits k (drop at ws)
fits_part k N at ws =
    let size = cell_size N k in
    let a : get_or (part ws at size) number_index 0 ≡ get_or (drop at ws) number_index 0 = get_or-take size (drop at ws) number_index 0 (omega arith) in
    let b : get_or (part ws at size) carry_index 0 ≡ get_or (drop at ws) carry_index 0 = get_or-take size (drop at ws) carry_index 0 (omega arith) in
    let p : get_or (part ws at size) place_index 0 ≡ get_or (drop at ws) place_index 0 = get_or-take size (drop at ws) place_index 0 (omega arith) in
    cc

-- a phase from 0 to 1, stored and read back
stored_phase : (g p : Float) → T (within f44100 g) → T (within f1 p) → T (within f1 (of_bits binary32 (to_bits binary32 (phase_after g p))))
stored_phase g p hg hp = rw (of_bits-to_bits binary32 (phase_after g p) (phase_fits g p)) (phase_stays g p hg hp)

carry_on : (c : Carry) (g : Float) (w : ℕ) (y : Float) → Steady c g → carry_in c w ≡ true → carry_in c (carried_on c g w y) ≡ true
carry_on no_carry g w y h e = e
carry_on last_output g w y h e = refl
carry_on running_phase g w y h e = is_true _ (stored_phase g (of_bits binary32 w) h (passes _ e))

carry_fits_lem : (k : NodeKind) (s : State) (y : Float) → Judged k s → carry_fits k (carry_after k (of_bits binary32 s.number) s.carry y) ≡ true
unfolding carry_after carry_fits number_fits
carry_fits_lem k s y j = carry_on (row_of k).carry (of_bits binary32 s.number) s.carry y ((row_laws k).steady s.number j.number) j.carry

next_below : (n p : ℕ) → ltb p n ≡ true → ltb (next n p) n ≡ true
next_below n p h = go (eqb (suc p) n) refl
  where
    go : (b : Bool) → eqb (suc p) n ≡ b → ltb (cond b 0 (suc p)) n ≡ true
    go true e = lt-ltb 0 n (omega (arith, ltb-true p n h))
    go false e = lt-ltb (suc p) n (omega (arith, ltb-true p n h, eqb-false (suc p) n e))

place_on_lem : (l : Line) (p : ℕ) → place_in l p ≡ true → place_in l (place_on l p) ≡ true
place_on_lem no_line p h = h
place_on_lem (line_x n) p h = next_below n p h
place_on_lem (line_xy n) p h = next_below n p h

place_fits_lem : (k : NodeKind) (p : ℕ) → place_fits k p ≡ true → place_fits k (place_after k p) ≡ true
unfolding place_after place_fits
place_fits_lem k p h = place_on_lem (row_of k).line p h

-- ---- after any number of samples

module _ (k : NodeKind) (N : ℕ) (bs : ℕ → Brought) where
  step_number : (i : ℕ) (c : Cell) → (step_cell k N bs i c).state.number ≡ c.state.number
  unfolding step_cell state_by
  step_number i c = refl

  pub step_samples : (i : ℕ) (c : Cell) → length (step_cell k N bs i c).samples ≡ length c.samples
  unfolding step_cell put_frame
  step_samples i c = frame_long (eqb (channels_of k) 2) c.samples i (N + i) _ _

  step_line : (i : ℕ) (c : Cell) → length (step_cell k N bs i c).state.line ≡ length c.state.line
  unfolding step_cell state_by
  step_line i c = line_after_long k c.state.place _ _ c.state.line

  step_judged : (i : ℕ) (c : Cell) → Judged k c.state → Judged k (step_cell k N bs i c).state
  unfolding step_cell state_by
  step_judged i c j = record {
    number = j.number;
    carry = carry_fits_lem k c.state (left_by k c.state (bs i)) j;
    place = place_fits_lem k c.state.place j.place;
  }

  pub number_kept : (n : ℕ) (c : Cell) → (iter (step_cell k N bs) n c).state.number ≡ c.state.number
  number_kept n c = iter_keeps (step_cell k N bs) (λ d. d.state.number ≡ c.state.number) (λ i d e. step_number i d ∙ e) n c refl

  pub samples_kept : (n : ℕ) (c : Cell) → length (iter (step_cell k N bs) n c).samples ≡ length c.samples
  samples_kept n c = iter_keeps (step_cell k N bs) (λ d. length d.samples ≡ length c.samples) (λ i d e. step_samples i d ∙ e) n c refl

  pub line_kept : (n : ℕ) (c : Cell) → length (iter (step_cell k N bs) n c).state.line ≡ length c.state.line
  line_kept n c = iter_keeps (step_cell k N bs) (λ d. length d.state.line ≡ length c.state.line) (λ i d e. step_line i d ∙ e) n c refl

  pub fits_kept : (n : ℕ) (c : Cell) → Judged k c.state → Judged k (iter (step_cell k N bs) n c).state
  fits_kept n c j = iter_keeps (step_cell k N bs) (λ d. Judged k d.state) step_judged n c j

  -- ---- after a block run

  pub run_long : (ws : List ℕ) → length ws ≡ cell_size N k → length (run_values k N bs ws) ≡ length ws
  unfolding run_cell
  run_long ws long =
      length_values (run_cell k N bs (cell_of N k ws))
      ∙ omega (arith, samples_kept N (cell_of N k ws), line_kept N (cell_of N k ws), samples_long N k ws long, line_long N k ws long)

  pub run_fits : (ws : List ℕ) → cell_fits k ws ≡ true → cell_fits k (run_values k N bs ws) ≡ true
  unfolding run_cell
  run_fits ws e = judged_fits k (run_cell k N bs (cell_of N k ws)) (fits_kept N (cell_of N k ws) (fits_judged k N ws e))

  -- the node's own cell in the memory
  pub run_own : (at : ℕ) (ws : List ℕ) → at + cell_size N k ≤ length ws
      → part (node_run k N at bs ws) at (cell_size N k) ≡ run_values k N bs (part ws at (cell_size N k))
  unfolding node_run
  run_own at ws h =
      let own = part ws at (cell_size N k) in
      let long : length own ≡ cell_size N k = length-take-le (cell_size N k) (drop at ws) (omega (arith, length-drop at ws)) in
      let all : length (run_values k N bs own) ≡ cell_size N k = run_long own long ∙ long in
      part_paste ws at (run_values k N bs own) (cell_size N k) h (omega arith) ∙ take_all (cell_size N k) (run_values k N bs own) (omega arith)

-- ---- after a number message

-- a value in a number's range, as it is stored
value_in_lem : (v : Value) (x : Float) → T (fits binary32 x) → value_in v x ≡ true → number_in v (to_bits binary32 x) ≡ true
value_in_lem unused x f e = absurd (false≢true e)
value_in_lem (coefficient r b) x f e = absurd (false≢true e)
value_in_lem (numbered r g) x f e = ap (in_range r) (of_bits-to_bits binary32 x f) ∙ e

pub value_number : (k : NodeKind) (x : Float) → T (fits binary32 x) → value_fits k x ≡ true → number_fits k (to_bits binary32 x) ≡ true
unfolding value_fits number_fits
value_number k x f e = value_in_lem (row_of k).value x f e

pub message_fits : (k : NodeKind) (x : Float) (ws : List ℕ) → T (fits binary32 x) → value_fits k x ≡ true → cell_fits k ws ≡ true
    → cell_fits k (set ws number_index (to_bits binary32 x)) ≡ true
message_fits k x [] f v e = e
message_fits k x (w ∷ ws) f v e =
    let j = fits_judged k 0 (w ∷ ws) e in
    unfold cell_of in
    both_true (both_true (value_number k x f v) j.carry) j.place
