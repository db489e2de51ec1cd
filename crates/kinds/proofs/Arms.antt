-- The arms of a match on a node's type, which are told the numbers of their types: 0 a pass, 1 a sum, .. 9 a sine, in the enum's order.
--     arm      what holds of each type of an arm holds of the type that came to it
--     kinds    what holds of each of the ten types holds of every type
--     named    and of the type that a number names
-- Assumes nothing.
use Prim.Native.Nat.{ℕ, zero, suc}
use mathlib.Core.Path.{sym, subst}
use mathlib.Core.Logic.{inl, inr}
use mathlib.Core.Bool.{Bool, true, false, cond}
use mathlib.Core.List.{List, [], ◌∷◌}
use denote.Enum.Declared.{tag_of}
use lib.Dec.{eqb}
use lib.Ieee.{Float}
use types.Run.{OneOf}
use Rattle.kinds.specs.Kind.{kind_by}
use Rattle.kinds.specs.declared.kind.NodeKind.{NodeKind}
use Rattle.kinds.specs.declared.kind.NodeKind.TheVariants.{Pass, Sum, Destination, Balance, Mul, Add, Delay, AllPass, OnePole, Sine}
use Rattle.kinds.specs.contracts.kind.NodeKind.{the_type}

-- the type k is one of the types ts
abbrev pub Among : List ℕ → NodeKind → Type 0
Among ts k = OneOf ts (tag_of the_type k)

abbrev nth : List (Type 0) → ℕ → Type 0
nth [] t = Unit {0}
nth (A ∷ As) zero = A
nth (A ∷ As) (suc t) = nth As t

module _ (P : NodeKind → Type 0) where
  -- P of the type of number t, whatever its whole number and its float are
  abbrev pub At : ℕ → Type 0
  At =
      nth (P Pass ∷ P Sum ∷ P Destination ∷ P Balance ∷ ((f : Float) → P (Mul f)) ∷ ((f : Float) → P (Add f))
      ∷ ((n : ℕ) → P (Delay n)) ∷ ((n : ℕ) (f : Float) → P (AllPass n f)) ∷ ((f : Float) → P (OnePole f)) ∷ ((f : Float) → P (Sine f)) ∷ [])

  own : (k : NodeKind) → At (tag_of the_type k) → P k
  own Pass h = h
  own Sum h = h
  own Destination h = h
  own Balance h = h
  own (Mul f) h = h f
  own (Add f) h = h f
  own (Delay n) h = h n
  own (AllPass n f) h = h n f
  own (OnePole f) h = h f
  own (Sine f) h = h f

  -- P of each of the types ts
  abbrev pub Each : List ℕ → Type 0
  Each [] = Unit {0}
  Each (t ∷ []) = At t
  Each (t ∷ u ∷ ts) = At t × Each (u ∷ ts)

  pub arm : (ts : List ℕ) (k : NodeKind) → Among ts k → Each ts → P k
  arm [] k o h = absurd o
  arm (t ∷ []) k e h = own k (subst At (sym e) h)
  arm (t ∷ u ∷ ts) k (inl e) h = own k (subst At (sym e) h.0)
  arm (t ∷ u ∷ ts) k (inr o) h = arm (u ∷ ts) k o h.1

  -- ---- all ten

  pub kinds : P Pass × P Sum × P Destination × P Balance × ((f : Float) → P (Mul f)) × ((f : Float) → P (Add f)) × ((n : ℕ) → P (Delay n))
      × ((n : ℕ) (f : Float) → P (AllPass n f)) × ((f : Float) → P (OnePole f)) × ((f : Float) → P (Sine f)) → (k : NodeKind) → P k
  kinds h Pass = h.0
  kinds h Sum = h.1
  kinds h Destination = h.2
  kinds h Balance = h.3
  kinds h (Mul f) = h.4 f
  kinds h (Add f) = h.5 f
  kinds h (Delay n) = h.6 n
  kinds h (AllPass n f) = h.7 n f
  kinds h (OnePole f) = h.8 f
  kinds h (Sine f) = h.9 f

-- ---- the kind of a type's number

pub named : (P : NodeKind → Type 0) (t n : ℕ) (x : Float)
    → P Pass × P Sum × P Destination × P Balance × P (Mul x) × P (Add x) × P (Delay n) × P (AllPass n x) × P (OnePole x) × P (Sine x) → P (kind_by t n x)
named P t n x h =
    pick (eqb t 1) h.0 (pick (eqb t 2) h.1 (pick (eqb t 3) h.2 (pick (eqb t 4) h.3 (pick (eqb t 5) h.4
    (pick (eqb t 6) h.5 (pick (eqb t 7) h.6 (pick (eqb t 8) h.7 (pick (eqb t 9) h.8 h.9))))))))
  where
    pick : (b : Bool) {k j : NodeKind} → P k → P j → P (cond b k j)
    pick true p q = p
    pick false p q = q
