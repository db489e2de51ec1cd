-- The checks of the calls, in the steps that the code takes.
--     passes                                    what an answer that does not refuse says of its test
--     cells_next, cells_wrong, cells_end        check 8, node by node
--     needed_long                               check 7
--     then_both, then_assoc                     one check after another
--     lengths_accepted, lengths_passed          three lengths held to one
--     test_checked                              the answer of a test as a result
--     checked_passed, checked_refused           what the answer of a check says as a result
--     checked_then, checked_first               and one after another
-- Assumes nothing.
use Prim.Native.Nat.{ℕ, ◌+◌, ◌≤◌, ◌<◌}
use mathlib.Core.Path.{◌≡◌, refl, sym, ap, ◌∙◌}
use mathlib.Core.Bool.{Bool, true, false, cond}
use mathlib.Core.List.{List}
use native.Mathlib.Numerals.{add-one}
use native.Mathlib.Omega.{arith}
use borrow.Author.Tests.{eqb-true, eqb-false, eq-eqb, ne_eqb}
use lib.Dec.{eqb}
use lib.ListN.{length, drop, drop_of_length-le}
use lib.Seq.{drop-cons}
use Rattle.kinds.specs.Cell.{cell_fits}
use Rattle.kinds.specs.declared.kind.NodeRecord.{NodeRecord}
use Rattle.std.specs.Prelude.{Result, Ok, Err}
use Rattle.records.specs.Answer.{answer, checked}
use Rattle.memory.specs.Memory.{node_in, passed, check_cells}
use Rattle.memory.specs.Calls.{and_then, check_needed}
use Rattle.records.specs.declared.answer.Answer.{Answer}
use Rattle.boards.specs.Board.{blank}

-- ---- answers

-- a choice of two answers, of which the second refuses, that does not refuse
pub passes : (q : Bool) (a b : Answer) → (b.number ≡ 0 → ⊥) → (cond q a b).number ≡ 0 → (q ≡ true) × (a.number ≡ 0) × (cond q a b ≡ a)
passes true a b h z = (refl, z, refl)
passes false a b h z = absurd (h z)

-- ---- check 8

module _ (ws : List ℕ) (nodes : List NodeRecord) (i : ℕ) where
  -- while a node is left
  module _ (within : i < length nodes) where
    pub cells_next : cell_fits (node_in nodes i).kind (drop (node_in nodes i).cell ws) ≡ true
        → check_cells ws (i + 1) (drop (i + 1) nodes) ≡ check_cells ws i (drop i nodes)
    unfolding check_cells
    cells_next e = rw (add-one, drop-cons nodes i blank within, e)

    pub cells_wrong : cell_fits (node_in nodes i).kind (drop (node_in nodes i).cell ws) ≡ false
        → check_cells ws i (drop i nodes) ≡ answer 8 i
    unfolding check_cells
    cells_wrong e = rw (drop-cons nodes i blank within, e)

  pub cells_end : length nodes ≤ i → check_cells ws i (drop i nodes) ≡ passed
  unfolding check_cells
  cells_end past = rw (drop_of_length-le nodes past)

-- ---- check 7

pub needed_long : (needed lent : ℕ) → (check_needed needed lent).number ≡ 0 → lent ≡ needed
needed_long needed lent z = eqb-true lent needed (passes (eqb lent needed) passed (answer 7 needed) (λ e. omega arith) z).0

-- ---- one check after another

pub then_both : (a b : Answer) → (and_then a b).number ≡ 0 → (a.number ≡ 0) × (b.number ≡ 0)
then_both a b = go (eqb a.number 0) refl
  where
    go : (q : Bool) → eqb a.number 0 ≡ q → (cond q b a).number ≡ 0 → (a.number ≡ 0) × (b.number ≡ 0)
    go true e h = (eqb-true a.number 0 e, h)
    go false e h = absurd (eqb-false a.number 0 e h)

pub then_assoc : (a b c : Answer) → and_then (and_then a b) c ≡ and_then a (and_then b c)
then_assoc a b c = go (eqb a.number 0) refl
  where
    go : (q : Bool) → eqb a.number 0 ≡ q → and_then (and_then a b) c ≡ and_then a (and_then b c)
    go true e = rw e
    go false e = rw (e, e)

-- ---- three lengths held to one

module _ (needed : ℕ) (refusal : Answer) where
  abbrev pub held_to : ℕ → Answer
  held_to lent = cond (eqb lent needed) passed refusal

  held_long : (refusal.number ≡ 0 → ⊥) → (lent : ℕ) → (held_to lent).number ≡ 0 → lent ≡ needed
  held_long refuses lent z = eqb-true lent needed (passes (eqb lent needed) passed refusal refuses z).0

  module _ (x l r : ℕ) where
    pub lengths_accepted : (refusal.number ≡ 0 → ⊥) → (and_then (held_to x) (and_then (held_to l) (held_to r))).number ≡ 0 → (x ≡ needed) × (l ≡ needed) × (r ≡ needed)
    lengths_accepted refuses z =
        let one = then_both (held_to x) (and_then (held_to l) (held_to r)) z in
        let two = then_both (held_to l) (held_to r) one.1 in
        (held_long refuses x one.0, held_long refuses l two.0, held_long refuses r two.1)

    pub lengths_passed : (x ≡ needed) × (l ≡ needed) × (r ≡ needed) → and_then (held_to x) (and_then (held_to l) (held_to r)) ≡ passed
    lengths_passed e = rw (eq-eqb x needed e.0, eq-eqb l needed e.1, eq-eqb r needed e.2)

-- ---- the answer of a check as a result

-- a test that passes, or refuses with a
pub test_checked : (q : Bool) (r a : Answer) → r ≡ a → 0 < a.number → cond q (Ok tt) (Err r) ≡ checked (cond q passed a)
test_checked true r a e some = refl
test_checked false r a e some =
    let not : a.number ≡ 0 → ⊥ = λ z. omega arith in
    ap Err e ∙ rw (ne_eqb a.number 0 not)

module _ (a : Answer) where
  -- it passes
  pub checked_passed : Ok tt ≡ checked a → a.number ≡ 0
  checked_passed e = go (eqb a.number 0) refl e
    where
      go : (q : Bool) → eqb a.number 0 ≡ q → ◌≡◌ {A = Result (Unit {0}) Answer} (Ok tt) (cond q (Ok tt) (Err a)) → a.number ≡ 0
      go true z e = eqb-true a.number 0 z
      go false z e = let no : ◌≡◌ {A = ℕ} 0 1 = cc in absurd (omega arith)

  -- it refuses, with this answer
  pub checked_refused : (r : Answer) → Err r ≡ checked a → (a ≡ r) × (0 < r.number)
  checked_refused r e = go (eqb a.number 0) refl e
    where
      go : (q : Bool) → eqb a.number 0 ≡ q → ◌≡◌ {A = Result (Unit {0}) Answer} (Err r) (cond q (Ok tt) (Err a)) → (a ≡ r) × (0 < r.number)
      go true z e = let no : ◌≡◌ {A = ℕ} 0 1 = cc in absurd (omega arith)
      go false z e =
          let same : a ≡ r = cc in
          let some : r.number ≡ 0 → ⊥ = λ n. eqb-false a.number 0 z (ap (λ (x : Answer). x.number) same ∙ n) in
          (same, omega (arith, some))

  -- and then the second
  pub checked_then : (b : Answer) (r : Result (Unit {0}) Answer) → Ok tt ≡ checked a → r ≡ checked b → r ≡ checked (and_then a b)
  checked_then b r e f = let z : a.number ≡ 0 = checked_passed e in rw z f

  pub checked_first : (b r : Answer) → Err r ≡ checked a → Err r ≡ checked (and_then a b)
  checked_first b r e =
      let told = checked_refused r e in
      let some : a.number ≡ 0 → ⊥ = λ n. omega (arith, told.1, ap (λ (x : Answer). x.number) (sym told.0) ∙ n) in
      rw (ne_eqb a.number 0 some) e
