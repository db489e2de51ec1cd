-- A node of type 1 to 5 or 7 gives zeros where its wires bring zeros and the oldest sample of its line is a zero.
--     Settled               what is asked of the node and of what its wires bring
--     sample_zero           its sample, both channels
--     destination_silent    of a destination it is +0
-- Assumes nothing.
use Prim.Native.Nat.{ℕ, ◌≤◌, ◌<◌}
use mathlib.Core.Path.{◌≡◌, refl}
use mathlib.Core.Bool.{Bool, true, false, cond, false≢true}
use mathlib.Core.List.{List, [], ◌∷◌}
use native.Mathlib.Omega.{arith}
use borrow.Author.Tests.{leb-true, lt-ltb, eqb-false}
use lib.Dec.{leb}
use lib.ListN.{length, get_or}
use lib.Ieee.{Float, nan, binary32, of_bits, to_bits}
use Rattle.reading.specs.Table.{All}
use Rattle.values.specs.Floors.{finite_f}
use Rattle.kinds.specs.Kind.{line_of, fewest, most, sources_fit}
use Rattle.kinds.specs.Node.{LineFits}
use Rattle.kinds.specs.Rule.{Brought, Frame, first, two, operand, left_of, right_of, keeps}
use Rattle.kinds.specs.Cell.{number_fits}
use Rattle.kinds.specs.History.{Heard, xs, ago_by, length_of, left_heard, sample_heard}
use Rattle.kinds.specs.declared.kind.NodeKind.{NodeKind}
use Rattle.kinds.specs.declared.kind.NodeKind.TheVariants.{Pass, Sum, Destination, Balance, Mul, Add, Delay, AllPass, OnePole, Sine}
use Rattle.kinds.proofs.Kept.{both}
use Rattle.kinds.proofs.Rows.{row_laws}
use Rattle.graph.specs.Tail.{delays}
use Rattle.samples.specs.Reading.{silence}
use Rattle.samples.specs.Silence.{Zero}
use Rattle.samples.proofs.SilenceFloats.{ZeroFloat, zero_pattern, zero_finite, product-zero, total-zero}

-- both channels
abbrev pub ZeroFrame : Frame → Type 0
ZeroFrame f = Zero f.left × Zero f.right

-- wires bring zeros
pub record Quiet (b : Brought) : Type 0 where
  pub left : All ZeroFloat b.left
  pub right : All ZeroFloat b.right
  pub second : two b ≡ true → ZeroFloat b.second

-- a node of kind k that has heard h, and what its wires bring
pub record Settled (k : NodeKind) (h : Heard) (b : Brought) : Type 0 where
  pub only : delays k ≡ true
  pub line : LineFits k
  pub sources : sources_fit k (length b.left) ≡ true
  pub number : number_fits k h.number ≡ true
  pub brought : Quiet b
  pub oldest : 0 < length_of k → ZeroFloat (ago_by (length_of k) (xs h) 0)

-- ---- sources and lines by kind

pub at_least : (k : NodeKind) (n : ℕ) → sources_fit k n ≡ true → fewest k ≤ n
at_least k n e = leb-true (fewest k) n (both (leb (fewest k) n) (leb n (most k)) e).0

-- a node with a line has a source
pub line-wired : (k : NodeKind) → 0 < length_of k → 0 < fewest k
line-wired k = (row_laws k).wired

-- its line is as long as it reads back
pub line-length : (k : NodeKind) → delays k ≡ true → line_of k ≡ length_of k
line-length Pass d = refl
line-length Sum d = refl
line-length Destination d = refl
line-length Balance d = refl
line-length (Mul f) d = refl
line-length (Add f) d = refl
line-length (Delay n) d = refl
line-length (AllPass n f) d = absurd (false≢true d)
line-length (OnePole f) d = refl
line-length (Sine f) d = refl

-- ---- the table

pub first-zero : (b : Brought) → Quiet b → 0 < length b.left → ZeroFloat (first b)
first-zero b z = go b.left z.left
  where
    go : (l : List Float) → All ZeroFloat l → 0 < length l → ZeroFloat (get_or l 0 nan)
    go [] q h = absurd (omega arith)
    go (x ∷ l) q h = q.0

operand_finite : (b : Brought) → Quiet b → (g : Float) → finite_f g ≡ true → finite_f (operand g b) ≡ true
operand_finite b z g h = go (two b) z.second
  where
    go : (q : Bool) → (q ≡ true → ZeroFloat b.second) → finite_f (cond q b.second g) ≡ true
    go true s = zero_finite b.second (s refl)
    go false s = h

module _ (h : Heard) (b : Brought) where
  left_zero : (k : NodeKind) → Settled k h b → keeps k b ≡ false → ZeroFloat (left_heard k h b)
  unfolding left_of keeps number_fits
  left_zero Pass n e = first-zero b n.brought (omega (arith, eqb-false (length b.left) 0 e))
  left_zero Sum n e = (false, total-zero b.left n.brought.left)
  left_zero Destination n e = (false, total-zero b.left n.brought.left)
  left_zero Balance n e = first-zero b n.brought (omega (arith, at_least Balance (length b.left) n.sources))
  left_zero (Mul f) n e =
      product-zero (first b) (operand (of_bits binary32 h.number) b) (first-zero b n.brought (at_least (Mul f) (length b.left) n.sources))
      (operand_finite b n.brought (of_bits binary32 h.number) n.number)
  left_zero (Add f) n e = absurd (false≢true n.only)
  left_zero (Delay m) n e = n.oldest n.line.0
  left_zero (AllPass m f) n e = absurd (false≢true n.only)
  left_zero (OnePole f) n e = absurd (false≢true n.only)
  left_zero (Sine f) n e = absurd (false≢true n.only)

  right_zero : (k : NodeKind) → Settled k h b → ZeroFloat (right_of k b)
  unfolding right_of
  right_zero Pass n = (false, refl)
  right_zero Sum n = (false, refl)
  right_zero Destination n = (false, total-zero b.right n.brought.right)
  right_zero Balance n = n.brought.second (lt-ltb 1 (length b.left) (at_least Balance (length b.left) n.sources))
  right_zero (Mul f) n = (false, refl)
  right_zero (Add f) n = (false, refl)
  right_zero (Delay m) n = (false, refl)
  right_zero (AllPass m f) n = (false, refl)
  right_zero (OnePole f) n = (false, refl)
  right_zero (Sine f) n = (false, refl)

  -- where it keeps what stands at its place, that is asked to be a zero
  pub sample_zero : (k : NodeKind) → Settled k h b → (held : Frame) → (keeps k b ≡ true → ZeroFrame held) → ZeroFrame (sample_heard k h held b)
  unfolding sample_heard
  sample_zero k n held kept = go (keeps k b) refl
    where
      go : (q : Bool) → keeps k b ≡ q → ZeroFrame (cond q held (record { left = to_bits binary32 (left_heard k h b); right = to_bits binary32 (right_of k b) }))
      go true e = kept e
      go false e = (zero_pattern _ (left_zero k n e), zero_pattern _ (right_zero k n))

-- the zeros of a destination are +0
pub destination_silent : (h : Heard) (held : Frame) (b : Brought) → Quiet b → sample_heard Destination h held b ≡ silence
unfolding sample_heard keeps left_of right_of to_bits
destination_silent h held b z =
    λ i. record { left = to_bits binary32 (total-zero b.left z.left i); right = to_bits binary32 (total-zero b.right z.right i) }
