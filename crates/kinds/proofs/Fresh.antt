-- Fresh cells: what the rule of a node record gives of its kind, and that the fresh cell of such a kind is as long as it must be and is judged well.
--     rule_sound      the rule's answer
--     fresh_long, fresh_fits
-- Assumes nothing.
use mathlib.Core.Path.{◌≡◌, refl, ap, ◌∙◌, subst}
use mathlib.Core.Bool.{Bool, true, false, ◌&&◌}
use Prim.Native.Nat.{ℕ, ◌*◌, ◌≤◌}
use native.Mathlib.Omega.{arith}
use lib.Dec.{eqb, leb}
use lib.ListN.{length, length-replicate}
use lib.Ieee.{Float, binary32, of_bits, to_bits, le}
use lib.Ieee.Bits.{of_bits-fits, of_bits-to_bits}
use borrow.Author.Tests.{leb-true, lt-ltb}
use Rattle.values.specs.Floors.{zero_f, within}
use Rattle.kinds.specs.Row.{Value, unused, coefficient, numbered, in_range, Line, no_line, line_x, line_xy, Carry, no_carry, last_output, running_phase, row_of}
use Rattle.kinds.specs.Kind.{length_fits, whole_fits, float_fits, fields_fit, kind_by, type_known, is_if, rule_of, channels_of, line_of, cell_size}
use Rattle.kinds.specs.Cell.{values_of, fresh_cell, start_in, number_of, number_in, carry_in, place_in, number_fits, carry_fits, place_fits, cell_fits}
use Rattle.kinds.specs.Node.{LengthIn, LineFits}
use Rattle.kinds.specs.declared.kind.NodeKind.{NodeKind}
use Rattle.std.specs.Prelude.{Some}
use Rattle.kinds.proofs.Arms.{named}
use Rattle.kinds.proofs.Cells.{length_values}
use Rattle.kinds.proofs.Kept.{both, judged_fits}

-- ---- what the board's judge gives of a kind

-- the line is not too long, and the number with which the cell starts is in its range
pub record FreshFits (k : NodeKind) : Type 0 where
  pub line : LineFits k
  pub number : number_fits k (to_bits binary32 (number_of k)) ≡ true

no_number : eqb (to_bits binary32 zero_f) 0 ≡ true
unfolding to_bits
no_number = refl

-- the line and the number of the kind that a type's number names are those of the fields
abbrev LineIs : ℕ → Line → Type 0
LineIs n no_line = Unit {0}
LineIs n (line_x l) = l ≡ n
LineIs n (line_xy l) = l ≡ n

abbrev NumberIs : Float → Value → Type 0
NumberIs x unused = Unit {0}
NumberIs x (coefficient r b) = Unit {0}
NumberIs x (numbered r g) = g ≡ x

line-is : (t n : ℕ) (x : Float) → LineIs n (row_of (kind_by t n x)).line
line-is t n x = named (λ k. LineIs n (row_of k).line) t n x (tt, tt, tt, tt, tt, tt, refl, refl, tt, tt)

number_is : (t n : ℕ) (x : Float) → NumberIs x (row_of (kind_by t n x)).value
number_is t n x = named (λ k. NumberIs x (row_of k).value) t n x (tt, tt, tt, tt, refl, refl, tt, refl, tt, refl)

length_told : (l n : ℕ) → l ≡ n → length_fits n ≡ true → (1 ≤ l) × (l ≤ 132300)
length_told l n e h = let s = both (leb 1 n) (leb n 132300) h in omega (arith, leb-true 1 n s.0, leb-true n 132300 s.1)

line_told : (l : Line) (n : ℕ) → LineIs n l → whole_fits l n ≡ true → LengthIn l
line_told no_line n e h = tt
line_told (line_x l) n e h = length_told l n e h
line_told (line_xy l) n e h = length_told l n e h

-- the number with which a cell starts, stored
start_told : (v : Value) (f : ℕ) → NumberIs (of_bits binary32 f) v → float_fits v f ≡ true → number_in v (to_bits binary32 (start_in v)) ≡ true
start_told unused f e h = no_number
start_told (coefficient r b) f e h = no_number
start_told (numbered r g) f e h =
    ap (λ (x : Float). in_range r (of_bits binary32 (to_bits binary32 x))) e
    ∙ ap (in_range r) (of_bits-to_bits binary32 (of_bits binary32 f) (of_bits-fits binary32 f)) ∙ h

pub rule_sound : (t n f : ℕ) (k : NodeKind) → rule_of t n f ≡ Some k → FreshFits k
unfolding rule_of number_of number_fits
rule_sound t n f k e = go (type_known t && fields_fit kind n f) refl e
  where
    kind : NodeKind
    kind = kind_by t n (of_bits binary32 f)

    sound : type_known t && fields_fit kind n f ≡ true → FreshFits kind
    sound h =
        let s = both (whole_fits (row_of kind).line n) (float_fits (row_of kind).value f) (both (type_known t) (fields_fit kind n f) h).1 in
        record {
          line = line_told (row_of kind).line n (line-is t n (of_bits binary32 f)) s.0;
          number = start_told (row_of kind).value f (number_is t n (of_bits binary32 f)) s.1;
        }

    go : (b : Bool) → type_known t && fields_fit kind n f ≡ b → is_if b kind ≡ Some k → FreshFits k
    go true h q = let s : kind ≡ k = cc in subst FreshFits s (sound h)
    go false h q = let z : ◌≡◌ {A = ℕ} 0 1 = cc in absurd (omega arith)

-- ---- the fresh cell

pub fresh_long : (N : ℕ) (k : NodeKind) → length (values_of (fresh_cell N k)) ≡ cell_size N k
unfolding fresh_cell
fresh_long N k = length_values (fresh_cell N k) ∙ omega (arith, length-replicate {A = ℕ} (N * channels_of k) 0, length-replicate {A = ℕ} (line_of k) 0)

start_carry : (c : Carry) → carry_in c 0 ≡ true
unfolding within le of_bits
start_carry no_carry = refl
start_carry last_output = refl
start_carry running_phase = refl

start_place : (l : Line) → LengthIn l → place_in l 0 ≡ true
start_place no_line h = refl
start_place (line_x n) h = lt-ltb 0 n h.0
start_place (line_xy n) h = lt-ltb 0 n h.0

pub fresh_fits : (N : ℕ) (k : NodeKind) → FreshFits k → cell_fits k (values_of (fresh_cell N k)) ≡ true
unfolding fresh_cell carry_fits place_fits
fresh_fits N k s =
    judged_fits k (fresh_cell N k) (record { number = s.number; carry = start_carry (row_of k).carry; place = start_place (row_of k).line s.line })
