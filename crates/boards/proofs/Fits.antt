-- What the rules of a record's body say where they hold. Assumes nothing.
use Prim.Native.Nat.{ℕ, ◌+◌, ◌≤◌, ◌<◌}
use mathlib.Core.Path.{◌≡◌}
use mathlib.Core.Bool.{true, not, ◌&&◌}
use borrow.Author.Tests.{ltb-true, leb-true, eqb-false, not-true}
use lib.Dec.{ltb, leb, eqb}
use Rattle.kinds.specs.Kind.{line_of}
use Rattle.kinds.specs.declared.kind.NodeKind.{NodeKind}
use Rattle.reading.specs.Order.{wire}
use Rattle.boards.specs.Board.{size_fits, placed, node_fits, wire_fits}
use Rattle.boards.specs.Obeys.{WireObeys}
use Rattle.reading.proofs.Choice.{both}

pub size_fits_lem : (N : ℕ) → size_fits N ≡ true → (1 ≤ N) × (N ≤ 128)
size_fits_lem N e =
    let all = both (leb 1 N) (leb N 128) e in
    (leb-true 1 N all.0, leb-true N 128 all.1)

pub record NodeFits (i lines : ℕ) (k : NodeKind) : Type 0 where
  pub room : i < 64
  pub in_place : placed i k ≡ true
  pub few_lines : lines + line_of k ≤ 262144

pub node_fits_lem : (i lines : ℕ) (k : NodeKind) → node_fits i lines k ≡ true → NodeFits i lines k
node_fits_lem i lines k e =
    let all = both (ltb i 64 && placed i k) (leb (lines + line_of k) 262144) e in
    let two = both (ltb i 64) (placed i k) all.0 in
    record { room = ltb-true i 64 two.0; in_place = two.1; few_lines = leb-true (lines + line_of k) 262144 all.1 }

pub record WireFits (i w a t : ℕ) : Type 0 where
  pub room : w < 128
  pub obeys : WireObeys i (wire a t)

pub wire_fits_lem : (i w a t : ℕ) → wire_fits i w a t ≡ true → WireFits i w a t
wire_fits_lem i w a t e =
    let all = both (ltb w 128 && ltb a i && ltb t i) (not (eqb a t)) e in
    let three = both (ltb w 128 && ltb a i) (ltb t i) all.0 in
    let two = both (ltb w 128) (ltb a i) three.0 in
    record {
      room = ltb-true w 128 two.0;
      obeys = record {
        source_there = ltb-true a i two.1;
        target_there = ltb-true t i three.1;
        apart = eqb-false a t (not-true (eqb a t) all.1);
      };
    }
