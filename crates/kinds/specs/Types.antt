-- The ten node types by name: document 01's number of each, and which have a whole number and a float. Definitions only.
use Rattle.std.specs.Prelude.{ℕ, Bool, true, false, cond, eqb, Option, Some, None}
use Rattle.kinds.specs.declared.types.Kind.{Kind}
use Rattle.kinds.specs.declared.types.Kind.TheVariants.{Pass, Sum, Destination, Balance, Mul, Add, Delay, AllPass, OnePole, Sine}

-- the number that stands for a type in a node record
abbrev pub type_number : Kind → ℕ
type_number Pass = 1
type_number Sum = 2
type_number Destination = 3
type_number Balance = 4
type_number Mul = 5
type_number Add = 6
type_number Delay = 7
type_number AllPass = 8
type_number OnePole = 9
type_number Sine = 10

-- the type that has the number t
abbrev pub type_at : ℕ → Option Kind
type_at t =
    cond (eqb t 1) (Some Pass)
    (cond (eqb t 2) (Some Sum)
    (cond (eqb t 3) (Some Destination)
    (cond (eqb t 4) (Some Balance)
    (cond (eqb t 5) (Some Mul)
    (cond (eqb t 6) (Some Add)
    (cond (eqb t 7) (Some Delay)
    (cond (eqb t 8) (Some AllPass)
    (cond (eqb t 9) (Some OnePole)
    (cond (eqb t 10) (Some Sine)
    None)))))))))

-- a line's length; a number, a coefficient or a frequency
abbrev pub has_whole : Kind → Bool
has_whole Pass = false
has_whole Sum = false
has_whole Destination = false
has_whole Balance = false
has_whole Mul = false
has_whole Add = false
has_whole Delay = true
has_whole AllPass = true
has_whole OnePole = false
has_whole Sine = false

abbrev pub has_float : Kind → Bool
has_float Pass = false
has_float Sum = false
has_float Destination = false
has_float Balance = false
has_float Mul = true
has_float Add = true
has_float Delay = false
has_float AllPass = true
has_float OnePole = true
has_float Sine = true
