-- The types with a ring, in stretches: what a sample keeps of the cell, where the place goes, and how stretches make a block.
--     Ringed                        a type with one channel and a ring of n places: delay_ring, all_pass-ring
--     Held                          what a loop knows of the cell midway
--     stretch_none, stretch_then    a stretch's loop, for any turn that is the rule's on a cell that is held
--     Going, going_none, going_number, going_then, going_end    a block's loop over stretches
--     delay_reads, all_pass_reads   what a type gives, from what it reads of its line
--     delay_turn, all_pass_then     the stores of one sample are the rule's
-- Assumes nothing.
use mathlib.Core.Path.{◌≡◌, refl, sym, ap, ◌∙◌, subst}
use mathlib.Core.Bool.{Bool, true, false, cond}
use mathlib.Core.List.{List, ◌++◌}
use Prim.Native.Nat.{ℕ, zero, suc, ◌+◌, ◌-◌, ◌*◌, ◌%◌, ◌≤◌, ◌<◌}
use native.Mathlib.Nat.{mod-eq_of_lt, mod_self, mod-add-mod, add_assoc}
use native.Mathlib.Numerals.{add-one}
use native.Mathlib.Omega.{arith}
use lib.Dec.{eqb, ltb}
use lib.ListN.{length, get_or, set, take, drop}
use lib.Seq.{take_at, drop_at}
use lib.Ieee.{Float, nan, binary32, of_bits, to_bits}
use borrow.Author.Tests.{lt-ltb, le-ltb, eq-eqb, ne_eqb, eqb-true, eqb-false, ltb-true, ltb-false}
use Rattle.values.specs.Words.{words, length-words}
use Rattle.values.specs.Floats.{float_at}
use Rattle.values.specs.Floors.{floor_of}
use Rattle.leaves.specs.Position.{position_of, rest_of}
use Rattle.kinds.specs.Kind.{channels_of, cell_size, samples_from, number_index, place_index}
use Rattle.kinds.specs.Iter.{iter, from}
use Rattle.kinds.specs.Rule.{Brought, State, first, two, between, left_by, left_of, get, x_line, y_line, tap_by, tap, all_pass, next, place_after, line_after, carry_after, keeps, sample_by, state_by}
use Rattle.kinds.specs.Cell.{Cell, values_of, cell_of, put_frame, step_cell, run_cell, run_values}
use Rattle.effects.specs.Ring.{stretch_of, wrap_of, at_place, stretch_values}
use Rattle.kinds.specs.declared.kind.NodeKind.{NodeKind}
use Rattle.kinds.specs.declared.kind.NodeKind.TheVariants.{Delay, AllPass}
use Rattle.kinds.proofs.Iterated.{iter_join}
use Rattle.kinds.proofs.Kept.{step_samples}
use Rattle.kinds.proofs.Cells.{values_cell, samples_long, set_place, set_line, set_sample, get_number, get_place, get_line}

-- ---- the types

pub record Ringed (k : NodeKind) (n : ℕ) : Type 0 where
  pub one : channels_of k ≡ 1
  pub moves : (p : ℕ) → place_after k p ≡ next n p

pub delay_ring : (n : ℕ) → Ringed (Delay n) n
unfolding place_after
delay_ring n = record { one = refl; moves = λ p. refl }

pub all_pass-ring : (n : ℕ) (f : Float) → Ringed (AllPass n f) n
unfolding place_after
all_pass-ring n f = record { one = refl; moves = λ p. refl }

-- ---- the place

next_in : (n p : ℕ) → suc p < n → next n p ≡ suc p
next_in n p h = ap (λ (b : Bool). cond b 0 (suc p)) (ne_eqb (suc p) n (λ e. omega arith))

next_out : (n p : ℕ) → suc p ≡ n → next n p ≡ 0
next_out n p e = ap (λ (b : Bool). cond b 0 (suc p)) (eq-eqb (suc p) n e)

pub wrap_in : (n p : ℕ) → p < n → wrap_of p n ≡ p
wrap_in n p h = ap (λ (b : Bool). cond b p 0) (lt-ltb p n h)

pub wrap_out : (n p : ℕ) → n ≤ p → wrap_of p n ≡ 0
wrap_out n p h = ap (λ (b : Bool). cond b p 0) (le-ltb p n h)

pub wrap_below : (n p : ℕ) → 0 < n → wrap_of p n < n
wrap_below n p h = go (ltb p n) refl
  where
    go : (b : Bool) → ltb p n ≡ b → cond b p 0 < n
    go true e = ltb-true p n e
    go false e = h

-- a stretch goes on
stretch_some : (place n left : ℕ) → place < n → 0 < left → 0 < stretch_of place n left
stretch_some place n left a b = go (ltb (n - place) left)
  where
    go : (t : Bool) → 0 < cond t (n - place) left
    go true = omega arith
    go false = b

pub stretch_less : (place n size done count : ℕ) → place < n → done < size → count ≡ stretch_of place n (size - done) → size - (done + count) < size - done
stretch_less place n size done count a b e = omega (arith, stretch_some place n (size - done) a (omega arith))

next_wrap : (n p : ℕ) → p < n → next n p ≡ wrap_of (suc p) n
next_wrap n p h = go (eqb (suc p) n) refl
  where
    go : (b : Bool) → eqb (suc p) n ≡ b → next n p ≡ wrap_of (suc p) n
    go true e = let s = eqb-true (suc p) n e in next_out n p s ∙ sym (wrap_out n (suc p) (omega (arith, s)))
    go false e = let s : suc p < n = omega (arith, eqb-false (suc p) n e) in next_in n p s ∙ sym (wrap_in n (suc p) s)

-- ---- the cell midway

-- N samples, the number w, and the ring place p
pub record Held (N w p : ℕ) (c : Cell) : Type 0 where
  pub samples : length c.samples ≡ N
  pub number : c.state.number ≡ w
  pub place : c.state.place ≡ p

-- the cell that stands in a cell's values
cell_values : (N : ℕ) (k : NodeKind) (c : Cell) → length c.samples ≡ N * channels_of k → cell_of N k (values_of c) ≡ c
unfolding cell_of values_of
cell_values N k c e =
    let m : ℕ = N * channels_of k in
    let three : samples_from + m ≡ suc (suc (suc m)) = omega arith in
    let line : drop (samples_from + m) (values_of c) ≡ c.state.line = rw three (drop_at c.samples c.state.line m e) in
    let samples : take m (c.samples ++ c.state.line) ≡ c.samples = take_at c.samples c.state.line m e in
    λ i. record {
      state = record { number = c.state.number; carry = c.state.carry; place = c.state.place; line = line i };
      samples = samples i;
    }

held_at : {N w p p' : ℕ} {c : Cell} → p ≡ p' → Held N w p c → Held N w p' c
held_at e h = record { samples = h.samples; number = h.number; place = h.place ∙ e }

module _ (k : NodeKind) (n : ℕ) (r : Ringed k n) (N : ℕ) (bs : ℕ → Brought) where
  one_channel : N * channels_of k ≡ N
  one_channel = ap (λ (a : ℕ). N * a) r.one ∙ omega arith

  held_start : (ws : List ℕ) → length ws ≡ cell_size N k → (p : ℕ) → Held N (get_or ws number_index 0) p (at_place p (cell_of N k ws))
  unfolding cell_of
  held_start ws long p = record {
    samples = samples_long N k ws long ∙ one_channel;
    number = refl;
    place = refl;
  }

  held_step : (w p i : ℕ) (c : Cell) → Held N w p c → Held N w (next n p) (step_cell k N bs i c)
  unfolding step_cell state_by
  held_step w p i c h = record {
    samples = step_samples k N bs i c ∙ h.samples;
    number = h.number;
    place = r.moves c.state.place ∙ ap (next n) h.place;
  }

  module _ (w p done : ℕ) (c : Cell) (h : Held N w p c) where
    -- in a stretch the place counts on
    held_on : (i : ℕ) → p + i < n → Held N w (p + i) (iter (from done (step_cell k N bs)) i c)
    unfolding iter
    held_on zero b = held_at (omega arith) h
    held_on (suc i) b =
        let e : suc (p + i) ≡ p + suc i = omega arith in
        held_at (next_in n (p + i) (omega arith) ∙ e) (held_step w (p + i) (done + i) _ (held_on i (omega arith)))

    -- and at its end it may wrap
    held_end : (count : ℕ) → p < n → p + count ≤ n → Held N w (wrap_of (p + count) n) (iter (from done (step_cell k N bs)) count c)
    unfolding iter
    held_end zero a b = let e : p ≡ p + 0 = omega arith in held_at (sym (wrap_in n p a) ∙ ap (λ (j : ℕ). wrap_of j n) e) h
    held_end (suc i) a b =
        let e : suc (p + i) ≡ p + suc i = omega arith in
        held_at (next_wrap n (p + i) (omega arith) ∙ ap (λ (j : ℕ). wrap_of j n) e) (held_step w (p + i) (done + i) _ (held_on i (omega arith)))

  -- ---- a stretch

  module _ (ws : List ℕ) (long : length ws ≡ cell_size N k) (p done : ℕ) where
    pub stretch_none : ws ≡ stretch_values k N bs p done 0 ws
    unfolding stretch_values iter cell_of
    stretch_none = sym (values_cell N k ws long)

    -- one sample more, where what is stored is what the rule makes of any cell whose values are there
    pub stretch_then : (i j : ℕ) → p + i < n → j ≡ done + i → (vs vs' : List ℕ) → vs ≡ stretch_values k N bs p done i ws
        → ((q : ℕ) (c : Cell) → Held N (get_or ws number_index 0) (p + i) c → vs ≡ values_of (at_place q c) → vs' ≡ values_of (at_place q (step_cell k N bs j c)))
        → vs' ≡ stretch_values k N bs p done (i + 1) ws
    unfolding stretch_values iter
    stretch_then i j b at vs vs' e t =
        rw (add-one i, ← at) (t (get_or ws place_index 0) _ (held_on (get_or ws number_index 0) p done _ (held_start ws long p) i b) e)

-- ---- a block in stretches

-- after `done` samples the place is p, and vs are the values, in which the place is still the old one
pub record Reached (k : NodeKind) (N : ℕ) (bs : ℕ → Brought) (ws : List ℕ) (done p : ℕ) (vs : List ℕ) : Type 0 where
  pub values : vs ≡ values_of (at_place (get_or ws place_index 0) (iter (step_cell k N bs) done (cell_of N k ws)))
  pub held : Held N (get_or ws number_index 0) p (iter (step_cell k N bs) done (cell_of N k ws))

module _ (k : NodeKind) (n : ℕ) (r : Ringed k n) (N : ℕ) (bs : ℕ → Brought) (ws : List ℕ) where
  reached_none : (p : ℕ) → p ≡ get_or ws place_index 0 → length ws ≡ cell_size N k → Reached k N bs ws 0 p ws
  unfolding iter cell_of
  reached_none p e long = record {
    values = sym (values_cell N k ws long);
    held = held_at (sym e) (held_start k n r N bs ws long (get_or ws place_index 0));
  }

  module _ (done p : ℕ) (vs : List ℕ) (h : Reached k N bs ws done p vs) where
    reached_number : get_or vs number_index 0 ≡ get_or ws number_index 0
    reached_number = ap (λ (l : List ℕ). get_or l number_index 0) h.values ∙ get_number _ ∙ h.held.number

    reached_then : (count p' : ℕ) (vs' : List ℕ) → vs' ≡ stretch_values k N bs p done count vs → p' ≡ wrap_of (p + count) n → p < n → p + count ≤ n
        → Reached k N bs ws (done + count) p' vs'
    unfolding stretch_values
    reached_then count p' vs' e e-p a b =
        let q : ℕ = get_or ws place_index 0 in
        let c : Cell = iter (step_cell k N bs) done (cell_of N k ws) in
        let join = iter_join (step_cell k N bs) done count (cell_of N k ws) in
        let stays : get_or vs place_index 0 ≡ q = ap (λ (l : List ℕ). get_or l place_index 0) h.values ∙ get_place (at_place q c) in
        let stands : at_place p (cell_of N k vs) ≡ c =
        ap (λ (l : List ℕ). at_place p (cell_of N k l)) h.values
        ∙ ap (at_place p) (cell_values N k (at_place q c) (h.held.samples ∙ sym (one_channel k n r N bs)))
        ∙ ap (λ (j : ℕ). at_place j c) (sym h.held.place) in
        record {
          values =
              e
              ∙ (λ i. values_of (at_place (stays i) (iter (from done (step_cell k N bs)) count (stands i))))
              ∙ ap (λ (d : Cell). values_of (at_place q d)) join;
          held = subst (Held N (get_or ws number_index 0) p') join (held_at (sym e-p) (held_end k n r N bs (get_or ws number_index 0) p done c h.held count a b));
        }

    -- the place is stored after the last sample
    reached_end : (vs' : List ℕ) → vs' ≡ set vs place_index p → done ≡ N → vs' ≡ run_values k N bs ws
    unfolding run_cell
    reached_end vs' e all =
        let c : Cell = iter (step_cell k N bs) done (cell_of N k ws) in
        e
        ∙ ap (λ (l : List ℕ). set l place_index p) h.values
        ∙ set_place (at_place (get_or ws place_index 0) c) p
        ∙ ap (λ (j : ℕ). values_of (at_place j c)) (sym h.held.place)
        ∙ ap (λ (j : ℕ). values_of (iter (step_cell k N bs) j (cell_of N k ws))) all

-- a block's loop over a cell, for a type whose float may be any: after `done` of N samples the ring of n is at place p
pub record Going (k : Float → NodeKind) (n N : ℕ) (bs : ℕ → Brought) (cell₀ : List ℕ) (done p : ℕ) (cell : List ℕ) : Type 0 where
  pub ringed : (f : Float) → Ringed (k f) n
  pub turns : done ≤ N
  pub below : p < n
  pub long : length cell ≡ length cell₀
  pub reached : (f : Float) → Reached (k f) N bs (words cell₀) done p (words cell)

module _ {k : Float → NodeKind} {n N : ℕ} {bs : ℕ → Brought} {cell₀ : List ℕ} where
  pub going_none : {p : ℕ} → ((f : Float) → Ringed (k f) n) → ((f : Float) → length cell₀ ≡ 4 * cell_size N (k f))
      → p ≡ get_or (words cell₀) place_index 0 → get_or (words cell₀) place_index 0 < n → Going k n N bs cell₀ 0 p cell₀
  going_none {p} ringed whole e below = record {
    ringed = ringed;
    turns = omega arith;
    below = omega arith;
    long = refl;
    reached = λ f. reached_none (k f) n (ringed f) N bs (words cell₀) p e (omega (arith, length-words cell₀, whole f));
  }

  module _ {done p : ℕ} {cell : List ℕ} (h : Going k n N bs cell₀ done p cell) where
    -- the number stays
    pub going_number : {g : Float} → g ≡ float_at (words cell₀) number_index → g ≡ float_at (words cell) number_index
    going_number e = e ∙ ap (of_bits binary32) (sym (reached_number (k nan) n (h.ringed nan) N bs (words cell₀) done p (words cell) (h.reached nan)))

    -- a stretch more
    pub going_then : (count : ℕ) {p' : ℕ} {cell' : List ℕ} → done + count ≤ N → p + count ≤ n → length cell' ≡ length cell
        → ((f : Float) → words cell' ≡ stretch_values (k f) N bs p done count (words cell)) → p' ≡ wrap_of (p + count) n
        → Going k n N bs cell₀ (done + count) p' cell'
    going_then count {p'} {cell'} most fits long e e-p = record {
      ringed = h.ringed;
      turns = most;
      below = omega (arith, wrap_below n (p + count) (omega arith));
      long = long ∙ h.long;
      reached = λ f. reached_then (k f) n (h.ringed f) N bs (words cell₀) done p (words cell) (h.reached f) count p' (words cell') (e f) e-p h.below fits;
    }

    -- the place is stored after the last sample
    pub going_end : {vs : List ℕ} → N ≤ done → vs ≡ set (words cell) place_index p → (f : Float) → vs ≡ run_values (k f) N bs (words cell₀)
    going_end {vs} all e f =
        reached_end (k f) n (h.ringed f) N bs (words cell₀) done p (words cell) (h.reached f) vs e (omega arith)

-- ---- one sample

-- the oldest of a ring
oldest : (n from : ℕ) (s : State) → s.place < n → get n from s 0 ≡ of_bits binary32 (get_or s.line (from + s.place) 0)
unfolding get
oldest n from s h =
    let e : s.place + 0 ≡ s.place = omega arith in
    ap (λ (j : ℕ). of_bits binary32 (get_or s.line (from + j) 0)) (ap (λ (j : ℕ). j % n) e ∙ mod-eq_of_lt h)

-- what a delay gives
pub delay_reads : (n : ℕ) (s : State) (b : Brought) → s.place < n → of_bits binary32 (get_or s.line s.place 0) ≡ left_by (Delay n) s b
unfolding left_of x_line
delay_reads n s b h = let e : s.place ≡ 0 + s.place = omega arith in ap (λ (j : ℕ). of_bits binary32 (get_or s.line j 0)) e ∙ sym (oldest n 0 s h)

-- what an all-pass gives, of what it reads of its two lines
pub all_pass_reads : (n : ℕ) (f : Float) (s : State) (b : Brought) (g old_x old_y : Float)
    → g ≡ of_bits binary32 s.number → old_x ≡ tap n b (get n 0 s) → old_y ≡ tap n b (get n n s)
    → all_pass g (first b) old_x old_y ≡ left_by (AllPass n f) s b
unfolding left_of x_line y_line
all_pass_reads n f s b g old_x old_y e-g e-x e-y = λ t. all_pass (e-g t) (first b) (e-x t) (e-y t)

-- with one source that is the oldest
pub tap_one : (n from : ℕ) (s : State) (b : Brought) → two b ≡ false → s.place < n
    → of_bits binary32 (get_or s.line (from + s.place) 0) ≡ tap n b (get n from s)
unfolding tap_by
tap_one n from s b e h = rw e (sym (oldest n from s h))

wrap_mod : (n p : ℕ) → p < n → wrap_of (p + 1) n ≡ (p + 1) % n
wrap_mod n p h = go (ltb (p + 1) n) refl
  where
    go : (t : Bool) → ltb (p + 1) n ≡ t → wrap_of (p + 1) n ≡ (p + 1) % n
    go true e = let s = ltb-true (p + 1) n e in wrap_in n (p + 1) s ∙ sym (mod-eq_of_lt s)
    go false e =
        let s : n ≡ p + 1 = omega (arith, ltb-false (p + 1) n e) in
        wrap_out n (p + 1) (omega arith) ∙ sym (mod_self n) ∙ ap (λ (j : ℕ). j % n) s

-- with two, it lies between the value at an index and the next
pub tap-two : (n from : ℕ) (s : State) (b : Brought) (index older newer : ℕ) (rest : Float) → two b ≡ true
    → index ≡ floor_of (position_of b.second n) → rest ≡ rest_of (position_of b.second n)
    → older ≡ (s.place + index) % n → newer ≡ wrap_of (older + 1) n → older < n
    → between (of_bits binary32 (get_or s.line (from + older) 0)) (of_bits binary32 (get_or s.line (from + newer) 0)) rest ≡ tap n b (get n from s)
unfolding tap_by get
tap-two n from s b index older newer rest e e-i e-r e-o e-n h =
    let next : newer ≡ (s.place + (index + 1)) % n =
    e-n
    ∙ wrap_mod n older h
    ∙ ap (λ (j : ℕ). (j + 1) % n) e-o
    ∙ mod-add-mod (s.place + index) n 1
    ∙ ap (λ (j : ℕ). j % n) (add_assoc s.place index 1) in
    rw (e, next, e-o, e-r, e-i)

-- a cell's values in memory: `at` is where the ring place is, and `out` where sample j is
module _ (N q : ℕ) (c : Cell) (long : length c.samples ≡ N) (vs : List ℕ) (v : vs ≡ values_of (at_place q c)) where
  -- a load from the line
  line_at : (i at : ℕ) → at ≡ samples_from + N + i → get_or vs at 0 ≡ get_or c.state.line i 0
  line_at i at e = (λ t. get_or (v t) (e t) 0) ∙ get_line (at_place q c) N i long

  pub float_at_lem : (i at : ℕ) → at ≡ samples_from + N + i → float_at vs at ≡ of_bits binary32 (get_or c.state.line i 0)
  float_at_lem i at e = ap (of_bits binary32) (line_at i at e)

  -- the stores: x into the ring, and of an all-pass y into the second one; y into the samples
  module _ (bs : ℕ → Brought) (j : ℕ) (below : j < N) (at out : ℕ) (e-at : at ≡ samples_from + N + c.state.place) (e-out : out ≡ samples_from + j) where
    pub delay_turn : (n x y : ℕ) → x ≡ to_bits binary32 (first (bs j)) → y ≡ to_bits binary32 (left_by (Delay n) c.state (bs j))
        → set (set vs at x) out y ≡ values_of (at_place q (step_cell (Delay n) N bs j c))
    unfolding step_cell state_by sample_by put_frame keeps carry_after line_after
    delay_turn n x y ex ey =
        let within : j < length c.samples = omega arith in
        let new : ℕ = to_bits binary32 (left_by (Delay n) c.state (bs j)) in
        rw (v, e-at, e-out, ex, ey)
        (ap (λ (l : List ℕ). set l (samples_from + j) new) (set_line (at_place q c) _ N c.state.place long) ∙ set_sample _ new j within)

    all_pass_turn : (n : ℕ) (f : Float) (x y at_y : ℕ) → at_y ≡ samples_from + N + (n + c.state.place)
        → x ≡ to_bits binary32 (first (bs j)) → y ≡ to_bits binary32 (left_by (AllPass n f) c.state (bs j))
        → set (set (set vs at x) at_y y) out y ≡ values_of (at_place q (step_cell (AllPass n f) N bs j c))
    unfolding step_cell state_by sample_by put_frame keeps carry_after line_after
    all_pass_turn n f x y at_y e-y ex ey =
        let within : j < length c.samples = omega arith in
        let new : ℕ = to_bits binary32 (left_by (AllPass n f) c.state (bs j)) in
        rw (v, e-at, e-out, e-y, ex, ey)
        (ap (λ (l : List ℕ). set (set l (samples_from + N + (n + c.state.place)) new) (samples_from + j) new) (set_line (at_place q c) _ N c.state.place long)
        ∙ ap (λ (l : List ℕ). set l (samples_from + j) new) (set_line _ new N (n + c.state.place) long)
        ∙ set_sample _ new j within)

-- one sample more of an all-pass: the three stores, where y is the rule's output
pub all_pass_then : (n : ℕ) (f : Float) (N : ℕ) (bs : ℕ → Brought) (ws : List ℕ) (p done i j x y at at_y out : ℕ) (vs us ts rs : List ℕ)
    → vs ≡ stretch_values (AllPass n f) N bs p done i ws → us ≡ set vs at x → ts ≡ set us at_y y → rs ≡ set ts out y
    → x ≡ to_bits binary32 (first (bs j))
    → ((q : ℕ) (c : Cell) → Held N (get_or ws number_index 0) (p + i) c → vs ≡ values_of (at_place q c)
    → y ≡ to_bits binary32 (left_by (AllPass n f) c.state (bs j)))
    → length ws ≡ cell_size N (AllPass n f) → p + i < n → j < N → j ≡ done + i
    → at ≡ samples_from + N + (p + i) → at_y ≡ samples_from + N + (n + (p + i)) → out ≡ samples_from + j
    → rs ≡ stretch_values (AllPass n f) N bs p done (i + 1) ws
all_pass_then n f N bs ws p done i j x y at at_y out vs us ts rs e e-us e-ts e-rs e-x e-y long a b e-j e-at e-at-y e-out =
    stretch_then (AllPass n f) n (all_pass-ring n f) N bs ws long p done i j a e-j vs rs e (λ q c h v.
    let first-at : at ≡ samples_from + N + c.state.place = omega (arith, h.place) in
    let second_at : at_y ≡ samples_from + N + (n + c.state.place) = omega (arith, h.place) in
    e-rs
    ∙ ap (λ (l : List ℕ). set l out y) (e-ts ∙ ap (λ (l : List ℕ). set l at_y y) e-us)
    ∙ all_pass_turn N q c h.samples vs v bs j b at out first-at e-out n f x y at_y second_at e-x (e-y q c h v))
