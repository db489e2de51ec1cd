-- The reader's rule of a node's fields, `rule_of`, holds of a description exactly if it is of a known type with that type's fields, and
-- then names its kind. Assumes nothing.
use Prim.Native.Nat.{ℕ, ◌+◌, ◌≤◌}
use mathlib.Core.Path.{◌≡◌, refl, sym, ap}
use mathlib.Core.Logic.{◌↔◌}
use mathlib.Core.Bool.{Bool, true, false, cond, So, ◌&&◌, and-eq-true_iff}
use native.Mathlib.Omega.{arith}
use borrow.Author.Tests.{eqb-true, eqb-false, eq-eqb, leb-true, le-leb}
use lib.Dec.{eqb, leb}
use lib.Ieee.{Float, of_bits, binary32}
use Rattle.kinds.specs.Row.{Value, unused, coefficient, numbered, Line, no_line, line_x, line_xy, row_of}
use Rattle.kinds.specs.Kind.{type_of, length_fits, whole_fits, float_fits, fields_fit, kind_by, type_known, is_if, rule_of, is_pass, is_destination}
use Rattle.kinds.specs.declared.kind.NodeKind.{NodeKind}
use Rattle.kinds.specs.declared.kind.NodeKind.TheVariants.{Pass, Sum, Destination, Balance, Mul, Add, Delay, AllPass, OnePole, Sine}
use Rattle.std.specs.Prelude.{Some}
use Rattle.records.specs.Write.{NodeCard}
use Rattle.boards.specs.Obeys.{kind_of, LineLength, WholeObeys, FloatObeys, FieldsObey}

-- ---- a type's number

-- a known number is that of the kind that it names
module _ (t n : ℕ) (x : Float) (lo : 1 ≤ t) (hi : t ≤ 10) where
  either : (b : Bool) (k j : NodeKind) → (b ≡ true → type_of k ≡ t) → (b ≡ false → type_of j ≡ t) → type_of (cond b k j) ≡ t
  either true k j g h = g refl
  either false k j g h = h refl

  -- a number that is not j is past j, if it is past the ones before
  past : (j : ℕ) → j ≤ t → eqb t j ≡ false → j + 1 ≤ t
  past j h e = omega (arith, eqb-false t j e)

  is : (j : ℕ) → eqb t j ≡ true → j ≡ t
  is j e = sym (eqb-true t j e)

  type_named : type_of (kind_by t n x) ≡ t
  type_named =
      either (eqb t 1) Pass _ (is 1)
      (λ e₁. either (eqb t 2) Sum _ (is 2)
      (λ e₂. either (eqb t 3) Destination _ (is 3)
      (λ e₃. either (eqb t 4) Balance _ (is 4)
      (λ e₄. either (eqb t 5) (Mul x) _ (is 5)
      (λ e₅. either (eqb t 6) (Add x) _ (is 6)
      (λ e₆. either (eqb t 7) (Delay n) _ (is 7)
      (λ e₇. either (eqb t 8) (AllPass n x) _ (is 8)
      (λ e₈. either (eqb t 9) (OnePole x) (Sine x) (is 9)
      (λ e₉. omega (arith, past 9 (past 8 (past 7 (past 6 (past 5 (past 4 (past 3 (past 2 (past 1 lo e₁) e₂) e₃) e₄) e₅) e₆) e₇) e₈) e₉))))))))))

-- ---- the fields

zero_so : (n : ℕ) → (n ≡ 0) ↔ So (eqb n 0)
zero_so n = (eq-eqb n 0, eqb-true n 0)

both_so : {A B : Type 0} (a b : Bool) → A ↔ So a → B ↔ So b → (A × B) ↔ So (a && b)
both_so a b p q =
    (λ h. (and-eq-true_iff a b).1 (p.0 h.0, q.0 h.1), λ e. let h = (and-eq-true_iff a b).0 e in (p.1 h.0, q.1 h.1))

length_so : (n : ℕ) → LineLength n ↔ So (length_fits n)
length_so n = both_so (leb 1 n) (leb n 132300) (le-leb 1 n, leb-true 1 n) (le-leb n 132300, leb-true n 132300)

whole_so : (l : Line) (n : ℕ) → WholeObeys l n ↔ So (whole_fits l n)
whole_so no_line n = zero_so n
whole_so (line_x _) n = length_so n
whole_so (line_xy _) n = length_so n

float_so : (v : Value) (f : ℕ) → FloatObeys v f ↔ So (float_fits v f)
float_so unused f = zero_so f
float_so (coefficient r _) f = (λ e. e, λ e. e)
float_so (numbered r _) f = (λ e. e, λ e. e)

fields_so : (k : NodeKind) (n f : ℕ) → FieldsObey k n f ↔ So (fields_fit k n f)
unfolding FieldsObey
fields_so k n f = both_so (whole_fits (row_of k).line n) (float_fits (row_of k).value f) (whole_so (row_of k).line n) (float_so (row_of k).value f)

known_so : (t : ℕ) → ((1 ≤ t) × (t ≤ 10)) ↔ So (type_known t)
known_so t = both_so (leb 1 t) (leb t 10) (le-leb 1 t, leb-true 1 t) (le-leb t 10, leb-true t 10)

-- ---- what a description of a known type says

module _ (d : NodeCard) (lo : 1 ≤ d.type) (hi : d.type ≤ 10) where
  pub kind_kept : FieldsObey (kind_of d) d.n d.f → rule_of d.type d.n d.f ≡ Some (kind_of d)
  unfolding rule_of kind_of
  kind_kept h = rw ((known_so d.type).0 (lo, hi), (fields_so (kind_of d) d.n d.f).0 h)

  pub pass_is : is_pass (kind_of d) ≡ eqb d.type 1
  unfolding kind_of
  pass_is = ap (λ (j : ℕ). eqb j 1) (type_named d.type d.n (of_bits binary32 d.f) lo hi)

  pub destination_is : is_destination (kind_of d) ≡ eqb d.type 3
  unfolding kind_of
  destination_is = ap (λ (j : ℕ). eqb j 3) (type_named d.type d.n (of_bits binary32 d.f) lo hi)

-- what a rule that names a kind says of its description
pub kind_told : (d : NodeCard) (k : NodeKind) → rule_of d.type d.n d.f ≡ Some k
    → (1 ≤ d.type) × (d.type ≤ 10) × FieldsObey (kind_of d) d.n d.f × (kind_of d ≡ k)
unfolding rule_of kind_of
kind_told d k = go (type_known d.type && fields_fit (kind_of d) d.n d.f) refl
  where
    go : (b : Bool) → type_known d.type && fields_fit (kind_of d) d.n d.f ≡ b → is_if b (kind_of d) ≡ Some k
        → (1 ≤ d.type) × (d.type ≤ 10) × FieldsObey (kind_of d) d.n d.f × (kind_of d ≡ k)
    go true e q =
        let h = (and-eq-true_iff (type_known d.type) (fields_fit (kind_of d) d.n d.f)).0 e in
        let known = (known_so d.type).1 h.0 in
        (known.0, known.1, (fields_so (kind_of d) d.n d.f).1 h.1, cc)
    go false e q = let z : ◌≡◌ {A = ℕ} 0 1 = cc in absurd (omega arith)
