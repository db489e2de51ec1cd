-- The boards of the request, node by node: each node that is reached is the same on both, with no late wire in; or it is the delay whose line
-- is corrected.
--     one_line_alike           two boards that differ in block size and one line
--     size_only_alike          two boards that differ in block size alone, where no wire is late
-- Assumes nothing.
use Prim.Native.Nat.{ℕ, suc, ◌-◌, ◌≤◌}
use mathlib.Core.Path.{◌≡◌, refl, sym, ap, subst, ◌∙◌}
use mathlib.Core.Logic.{◌≢◌}
use mathlib.Core.Bool.{Bool, true, false, ◌&&◌}
use mathlib.Core.List.{List}
use native.Mathlib.Decide.{ℕ_discrete}
use native.Mathlib.Omega.{arith}
use lib.ListN.{get_or}
use Rattle.kinds.specs.declared.kind.NodeKind.{NodeKind}
use Rattle.kinds.specs.declared.kind.NodeKind.TheVariants.{Pass, Delay}
use Rattle.kinds.proofs.Kept.{both}
use Rattle.reading.specs.Table.{mem, All}
use Rattle.reading.specs.Order.{Wire, late, wire}
use Rattle.reading.proofs.Order.{each-source}
use Rattle.boards.specs.Board.{Parsed}
use Rattle.graph.specs.Late.{is_late, late_wires}
use Rattle.memory.specs.Memory.{listed}
use Rattle.memory.specs.Fine.{Fine}
use Rattle.samples.specs.Reading.{reached}
use Rattle.memory.proofs.FineBoard.{lists}
use Rattle.sizes.specs.Sizes.{OneLine, SizeOnly}
use Rattle.resizing.proofs.Boards.{kind_in, line_fits, other_kind, new_kind, late-among, late-all}
use Rattle.sizes.proofs.Carried.{OnTime, Alike, same, corrected}

-- ---- wires

module _ (p : Parsed) (fine : Fine p) where
  -- where no late wire leads into a reached node, its wires are on time
  on_time : (j : ℕ) → reached p j ≡ true → All (λ w. w.target ≢ j) (late_wires (listed p) p.wires) → OnTime p j
  unfolding is_late
  on_time j r none a e =
      let w = each-source (λ w. is_late (listed p) w ≡ true → w.target ≢ j) p.wires (late-all (λ w. w.target ≢ j) (listed p) p.wires none) j a e in
      let l : List ℕ = listed p in
      let here : is_late l w.0 ≡ is_late l (wire a j) = λ i. is_late l (wire (w.2 i) (w.3 i)) in
      go (late l a j) refl (λ q. w.1 (here ∙ all (mem a l) (mem j l) (late l a j) ((lists p fine).closed j a r e) r q) w.3)
    where
      all : (x y z : Bool) → x ≡ true → y ≡ true → z ≡ true → x && y && z ≡ true
      all x y z ex ey ez = λ i. ex i && ey i && ez i

      go : (b : Bool) → late (listed p) a j ≡ b → (late (listed p) a j ≡ true → ⊥) → late (listed p) a j ≡ false
      go true h no-late = absurd (no-late h)
      go false h no-late = h

  -- a wire that is late by the list
  is_late_lem : (w : Wire) → is_late (listed p) w ≡ true → late (listed p) w.source w.target ≡ true
  unfolding is_late
  is_late_lem w e = (both (mem w.source (listed p) && mem w.target (listed p)) (late (listed p) w.source w.target) e).1

-- ---- no wire is late

module _ (p q : Parsed) (fine : Fine p) (o : SizeOnly p q) where
  pub size_only_alike : (j : ℕ) → reached p j ≡ true → Alike p q j
  size_only_alike j r =
      same (sym (kind_in q j) ∙ ap (λ (l : List NodeKind). get_or l j Pass) o.same_kinds ∙ kind_in p j)
      (on_time p fine j r (subst (All (λ w. w.target ≢ j)) (sym o.none_late) tt))

-- ---- one wire is late

module _ (p q : Parsed) (fine : Fine p) (o : OneLine p q) where
  -- a line has a sample
  some_line : 1 ≤ o.n
  some_line = (line_fits p fine o.target o.n o.is_delay).0

  target_alike : Alike p q o.target
  target_alike =
      let n : o.n ≡ suc (o.n - 1) = omega (arith, some_line) in
      let m : o.m ≡ suc (o.m - 1) = omega (arith, some_line, o.larger, o.longer) in
      corrected (record {
        source = o.source;
        one_in = o.one_in;
        is_late_lem = is_late_lem p fine (wire o.source o.target) (subst (All (λ w. is_late (listed p) w ≡ true)) o.one_late (late-among (λ w. is_late (listed p) w ≡ true) (listed p) p.wires (λ j l e. e))).0;
        n = o.n - 1;
        m = o.m - 1;
        delay = o.is_delay ∙ ap Delay n;
        delay_there = new_kind p q o.target o.n o.m o.is_delay o.same_kinds ∙ ap Delay m;
        as_long = omega (arith, some_line, o.larger, o.longer);
      })

  pub one_line_alike : (j : ℕ) → reached p j ≡ true → Alike p q j
  one_line_alike j r = go (ℕ_discrete j o.target)
    where
      go : Dec (j ≡ o.target) → Alike p q j
      go (yes e) = subst (Alike p q) (sym e) target_alike
      go (no h) =
          same (other_kind p q o.target o.n o.m o.is_delay o.same_kinds j h)
          (on_time p fine j r (subst (All (λ w. w.target ≢ j)) (sym o.one_late) (λ e. h (sym e), tt)))
