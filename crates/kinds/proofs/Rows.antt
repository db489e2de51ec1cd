-- What holds of every row of the table of types, one line a type. Assumes nothing.
use mathlib.Core.Path.{◌≡◌, refl}
use mathlib.Core.Bool.{true, false, false≢true}
use Prim.Native.Nat.{ℕ, ◌≤◌, ◌<◌}
use native.Mathlib.Omega.{arith}
use denote.Floats.{passes}
use lib.Dec.{T, eqb}
use lib.Ieee.{Float, binary32, of_bits}
use Rattle.values.specs.Floors.{f44100, finite_f, within}
use Rattle.kinds.specs.Row.{Carry, no_carry, last_output, running_phase, TypeRow, row_of}
use Rattle.kinds.specs.Kind.{line_length}
use Rattle.kinds.specs.Cell.{takes_in, value_in, number_in}
use Rattle.kinds.specs.declared.kind.NodeKind.{NodeKind}
use Rattle.kinds.specs.declared.kind.NodeKind.TheVariants.{Pass, Sum, Destination, Balance, Mul, Add, Delay, AllPass, OnePole, Sine}

-- what a carry asks of the number: a phase, that it is a frequency
abbrev pub Steady : Carry → Float → Type 0
Steady no_carry g = Unit {0}
Steady last_output g = Unit {0}
Steady running_phase g = T (within f44100 g)

-- there are few sources; a type with a line has one; the number is as its carry asks; and a mul's is any finite float
pub record RowLaws (r : TypeRow) : Type 0 where
  pub few : (r.sources.fewest ≤ 9) × (r.sources.most ≤ 8)
  pub wired : 0 < line_length r.line → 0 < r.sources.fewest
  pub steady : (w : ℕ) → number_in r.value w ≡ true → Steady r.carry (of_bits binary32 w)
  pub mul : eqb r.type 5 ≡ true → (x : Float) → (takes_in r.value ≡ true) × (value_in r.value x ≡ finite_f x)

no_mul : {A : Type 0} → false ≡ true → A
no_mul e = absurd (false≢true e)

pub row_laws : (k : NodeKind) → RowLaws (row_of k)
row_laws Pass = record { few = omega arith; wired = λ h. h; steady = λ w e. tt; mul = no_mul }
row_laws Sum = record { few = omega arith; wired = λ h. h; steady = λ w e. tt; mul = no_mul }
row_laws Destination = record { few = omega arith; wired = λ h. h; steady = λ w e. tt; mul = no_mul }
row_laws Balance = record { few = omega arith; wired = λ h. omega arith; steady = λ w e. tt; mul = no_mul }
row_laws (Mul f) = record { few = omega arith; wired = λ h. omega arith; steady = λ w e. tt; mul = λ e x. (refl, refl) }
row_laws (Add f) = record { few = omega arith; wired = λ h. omega arith; steady = λ w e. tt; mul = no_mul }
row_laws (Delay n) = record { few = omega arith; wired = λ h. omega arith; steady = λ w e. tt; mul = no_mul }
row_laws (AllPass n f) = record { few = omega arith; wired = λ h. omega arith; steady = λ w e. tt; mul = no_mul }
row_laws (OnePole f) = record { few = omega arith; wired = λ h. omega arith; steady = λ w e. tt; mul = no_mul }
row_laws (Sine f) = record { few = omega arith; wired = λ h. h; steady = λ w e. passes _ e; mul = no_mul }
