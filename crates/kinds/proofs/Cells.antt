-- A cell and its values: what a load at a value gives, and what a store at a value does to the cell.
--     values_cell              the values of the cell that stands in them
--     get_sample, get_line     a value of the samples, of the line
--     set_number .. set_line   a store
-- Assumes nothing.
use mathlib.Core.Path.{◌≡◌, refl, sym, ap, ◌∙◌}
use mathlib.Core.List.{List, [], ◌∷◌, ◌++◌}
use Prim.Native.Nat.{ℕ, suc, ◌+◌, ◌-◌, ◌*◌, ◌≤◌, ◌<◌}
use native.Mathlib.Omega.{arith}
use lib.ListN.{length, get_or, set, take, drop, take-append-drop, length-append, length-drop, get_or-append}
use lib.Seq.{set-append_left, get_or-append-add, length-take-le}
use Rattle.std.proofs.lemmas.List.{set-append_right}
use Rattle.kinds.specs.Kind.{channels_of, line_of, cell_size, samples_from, number_index, carry_index, place_index}
use Rattle.kinds.specs.Rule.{with_number, with_carry, with_place, with_line}
use Rattle.kinds.specs.Cell.{Cell, with_state, with_samples, values_of, cell_of}
use Rattle.kinds.specs.declared.kind.NodeKind.{NodeKind}

-- ---- the values and the cell

three : (n : ℕ) → samples_from + n ≡ suc (suc (suc n))
three n = omega arith

three_on : (n k : ℕ) → samples_from + n + k ≡ suc (suc (suc (n + k)))
three_on n k = omega arith

split : (n : ℕ) (ws : List ℕ) → 3 ≤ length ws
    → get_or ws number_index 0 ∷ get_or ws carry_index 0 ∷ get_or ws place_index 0 ∷ (take n (drop samples_from ws) ++ drop (samples_from + n) ws) ≡ ws
split n [] h = absurd (omega arith)
split n (a ∷ []) h = absurd (omega arith)
split n (a ∷ b ∷ []) h = absurd (omega arith)
split n (a ∷ b ∷ p ∷ r) h = rw (three n) (ap (λ (l : List ℕ). a ∷ b ∷ p ∷ l) (take-append-drop n r))

module _ (N : ℕ) (k : NodeKind) (ws : List ℕ) (long : length ws ≡ cell_size N k) where
  pub values_cell : values_of (cell_of N k ws) ≡ ws
  unfolding values_of cell_of
  values_cell = split (N * channels_of k) ws (omega arith)

  pub samples_long : length (cell_of N k ws).samples ≡ N * channels_of k
  unfolding cell_of
  samples_long = length-take-le (N * channels_of k) (drop samples_from ws) (omega (arith, length-drop samples_from ws))

  pub line_long : length (cell_of N k ws).state.line ≡ line_of k
  unfolding cell_of
  line_long = omega (arith, length-drop (samples_from + N * channels_of k) ws)

pub length_values : (c : Cell) → length (values_of c) ≡ samples_from + (length c.samples + length c.state.line)
unfolding values_of
length_values c = omega (arith, length-append c.samples c.state.line)

-- ---- loads

module _ (c : Cell) where
  pub get_number : get_or (values_of c) number_index 0 ≡ c.state.number
  unfolding values_of
  get_number = refl

  pub get_carry : get_or (values_of c) carry_index 0 ≡ c.state.carry
  unfolding values_of
  get_carry = refl

  pub get_place : get_or (values_of c) place_index 0 ≡ c.state.place
  unfolding values_of
  get_place = refl

  pub get_sample : (i : ℕ) → i < length c.samples → get_or (values_of c) (samples_from + i) 0 ≡ get_or c.samples i 0
  unfolding values_of
  get_sample i h = rw (three i) (get_or-append c.samples c.state.line 0 i h)

  pub get_line : (n j : ℕ) → length c.samples ≡ n → get_or (values_of c) (samples_from + n + j) 0 ≡ get_or c.state.line j 0
  unfolding values_of
  get_line n j e =
      rw (three_on n j)
      (ap (λ (k : ℕ). get_or (c.samples ++ c.state.line) (k + j) 0) (sym e) ∙ get_or-append-add c.samples c.state.line j 0)

-- ---- stores

-- std's lemma, with the place counted on from the first list's end
pub set_append_right : {A : Type 0} (xs ys : List A) (j : ℕ) (v : A) → set (xs ++ ys) (length xs + j) v ≡ xs ++ set ys j v
set_append_right xs ys j v =
    let at : length xs + j - length xs ≡ j = omega arith in
    set-append_right xs ys (length xs) (length xs + j) v refl (omega arith) ∙ ap (λ k. xs ++ set ys k v) at

module _ (c : Cell) (v : ℕ) where
  pub set_number : set (values_of c) number_index v ≡ values_of (with_state c (with_number c.state v))
  unfolding values_of
  set_number = refl

  pub set_carry : set (values_of c) carry_index v ≡ values_of (with_state c (with_carry c.state v))
  unfolding values_of
  set_carry = refl

  pub set_place : set (values_of c) place_index v ≡ values_of (with_state c (with_place c.state v))
  unfolding values_of
  set_place = refl

  pub set_sample : (i : ℕ) → i < length c.samples → set (values_of c) (samples_from + i) v ≡ values_of (with_samples c (set c.samples i v))
  unfolding values_of
  set_sample i h =
      rw (three i)
      (ap (λ (l : List ℕ). c.state.number ∷ c.state.carry ∷ c.state.place ∷ l) (set-append_left c.samples c.state.line i v h))

  pub set_line : (n j : ℕ) → length c.samples ≡ n → set (values_of c) (samples_from + n + j) v ≡ values_of (with_state c (with_line c.state (set c.state.line j v)))
  unfolding values_of
  set_line n j e =
      rw (three_on n j)
      (ap (λ (l : List ℕ). c.state.number ∷ c.state.carry ∷ c.state.place ∷ l)
      (ap (λ (k : ℕ). set (c.samples ++ c.state.line) (k + j) v) (sym e) ∙ set_append_right c.samples c.state.line j v))
