-- A call on the board as the code holds it, case by case.
--     held_call, held_only, held_told                    a reading held to one check more: what a call makes of it
--     held_refused, held_lacking, held_passed            and what becomes of one that is refused, or read whole
--     judged_call                                        checks 7 and 8 before a call's own
--     call_refused, call_lacking, call_done              the board is refused; a check behind 6 refuses; all pass
--     change_refused, change_lacking, change_done        the same of a call that changes the memory only
--     change_passes                                      where such a call is accepted, its checks pass
--     judged_refused, judged_lacking, judged_done        the same with checks 7 and 8 before its own
-- Assumes nothing.
use Prim.Native.Nat.{ℕ, ◌*◌}
use mathlib.Core.Path.{◌≡◌, refl, sym, ap, ◌∙◌}
use mathlib.Core.Bool.{Bool, true, false, cond}
use mathlib.Core.List.{List}
use native.Mathlib.Omega.{arith}
use borrow.Author.Tests.{eqb-true, ne_eqb}
use lib.Dec.{eqb}
use lib.ListN.{length}
use Rattle.std.specs.Prelude.{Result, Ok, Err, IsErrAnd}
use Rattle.values.specs.Words.{words, unwords, Bytes, unwords-words}
use Rattle.boards.specs.Board.{Parsed, Progress, going, refused, whole, memory_length}
use Rattle.boards.specs.Judge.{read_board}
use Rattle.boards.specs.BoardParts.{Refuses}
use Rattle.records.specs.Answer.{checked, told}
use Rattle.records.specs.declared.answer.Answer.{Answer}
use Rattle.boards.proofs.Answers.{residual_is}
use Rattle.boards.proofs.Run.{refused_is_not_whole, going_is_not_whole}
use Rattle.memory.specs.Memory.{passed}
use Rattle.memory.specs.Calls.{and_then, check_needed, check_values, check_memory, call_by, change_by}
use Rattle.memory.specs.Stages.{held_to, read_open, read_judged}
use Rattle.memory.proofs.CallChecks.{checked_passed, checked_refused}

-- ---- a reading held to one check more

module _ (a : Parsed → Answer) where
  -- a check before the others
  pub held_call : {A : Type 0} (found : Answer → A) (check : Parsed → Answer) (done : Parsed → A) (v : Progress)
      → call_by found (λ p. and_then (a p) (check p)) done v ≡ call_by found check done (held_to a v)
  held_call found check done (going at last p) = refl
  held_call found check done (refused n w) = refl
  held_call found check done (whole p) = go (eqb (a p).number 0) refl
    where
      go : (q : Bool) → eqb (a p).number 0 ≡ q
          → call_by found (λ p. and_then (a p) (check p)) done (whole p) ≡ call_by found check done (held_to a (whole p))
      go true e = rw (e)
      go false e = rw (e, e)

  -- a check alone
  pub held_only : {A : Type 0} (found : Answer → A) (done : Parsed → A) (v : Progress) → call_by found a done v ≡ call_by found (λ p. passed) done (held_to a v)
  held_only found done (going at last p) = refl
  held_only found done (refused n w) = refl
  held_only found done (whole p) = go (eqb (a p).number 0) refl
    where
      go : (q : Bool) → eqb (a p).number 0 ≡ q → call_by found a done (whole p) ≡ call_by found (λ p. passed) done (held_to a (whole p))
      go true e = rw e
      go false e = rw e

  -- what is read whole has passed the check
  pub held_told : (v : Progress) (p : Parsed) → held_to a v ≡ whole p → (v ≡ whole p) × ((a p).number ≡ 0)
  held_told (going at last p) q e = going_is_not_whole at last p q e
  held_told (refused n w) q e = refused_is_not_whole n w q e
  held_told (whole p) q e = go (eqb (a p).number 0) refl e
    where
      go : (t : Bool) → eqb (a p).number 0 ≡ t → held_to a (whole p) ≡ whole q → (whole p ≡ whole q) × ((a q).number ≡ 0)
      go true f e =
          let w : whole p ≡ whole q = rw f at e in
          let same : p ≡ q = cc in
          (w, rw (← same) (eqb-true (a p).number 0 f))
      go false f e = refused_is_not_whole _ _ q (rw f at e)

  -- a refused reading stays
  pub held_refused : (v : Progress) (r : Answer) → Refuses v r → Refuses (held_to a v) r
  held_refused v r h = (h.0, ap (held_to a) h.1)

  module _ {v : Progress} {p : Parsed} (read : v ≡ whole p) where
    -- one that is read whole has the check's refusal
    pub held_lacking : (r : Answer) → Err r ≡ checked (a p) → Refuses (held_to a v) r
    held_lacking r e =
        let told = checked_refused (a p) r e in
        let some : (a p).number ≡ 0 → ⊥ = λ z. omega (arith, told.1, ap (λ (x : Answer). x.number) (sym told.0) ∙ z) in
        (told.1, ap (held_to a) read ∙ rw (ne_eqb (a p).number 0 some) (ap (λ (x : Answer). refused x.number x.place) told.0))

    -- or passes
    pub held_passed : Ok tt ≡ checked (a p) → held_to a v ≡ whole p
    held_passed e = let z : (a p).number ≡ 0 = checked_passed (a p) e in ap (held_to a) read ∙ rw z

-- the checks 7 and 8 before a call's own
pub judged_call : {A : Type 0} (found : Answer → A) (own : Parsed → Answer) (done : Parsed → A) (s m : List ℕ)
    → call_by found (λ p. check_memory p m (own p)) done (read_board s) ≡ call_by found own done (read_judged s m)
judged_call found own done s m =
    held_call (λ p. check_needed (memory_length p) (length m)) found (λ p. and_then (check_values p m) (own p)) done (read_board s)
    ∙ held_call (λ p. check_values p m) found own done (read_open s (length m))

-- ---- a call on a reading

module _ {A : Type 0} (found : Answer → A) (check : Parsed → Answer) (done : Parsed → A) (v : Progress) where
  pub call_refused : (a : Answer) → Refuses v a → call_by found check done v ≡ found a
  call_refused a h = ap (call_by found check done) h.1

  module _ (p : Parsed) (read : v ≡ whole p) where
    pub call_lacking : (a : Answer) → Err a ≡ checked (check p) → call_by found check done v ≡ found a
    call_lacking a e =
        let told = checked_refused (check p) a e in
        let some : (check p).number ≡ 0 → ⊥ = λ z. omega (arith, told.1, ap (λ (x : Answer). x.number) (sym told.0) ∙ z) in
        ap (call_by found check done) read ∙ rw (ne_eqb (check p).number 0 some) (ap found told.0)

    pub call_done : Ok tt ≡ checked (check p) → call_by found check done v ≡ done p
    call_done e = let z : (check p).number ≡ 0 = checked_passed (check p) e in ap (call_by found check done) read ∙ rw z

-- ---- a call that changes the memory only: what it tells, by its result, and the bytes that it leaves

module _ (m : List ℕ) (check : Parsed → Answer) (change : Parsed → List ℕ) (v : Progress) where
  abbrev Is : Result (Unit {0}) Answer → List ℕ → Type 0
  Is r n = (told r ≡ (change_by m check change v).0) × (n ≡ (change_by m check change v).1)

  is : (r : Result (Unit {0}) Answer) (n : List ℕ) → change_by m check change v ≡ (told r, n) → Is r n
  is r n e = (ap (λ (x : Answer × List ℕ). x.0) (sym e), ap (λ (x : Answer × List ℕ). x.1) (sym e))

  abbrev found : Answer → Answer × List ℕ
  found a = (a, m)

  abbrev done : Parsed → Answer × List ℕ
  done p = (passed, unwords (change p))

  -- what `?` hands out is the refusal
  pub change_refused : (r : Result (Unit {0}) Answer) (a : Answer) → IsErrAnd r (λ e. e ≡ a) → Refuses v a → Is r m
  change_refused r a out h = rw (residual_is r a out) (is (Err a) m (call_refused found check done v a h))

  module _ (p : Parsed) (read : v ≡ whole p) where
    pub change_lacking : (r : Result (Unit {0}) Answer) (a : Answer) → IsErrAnd r (λ e. e ≡ a) → Err a ≡ checked (check p) → Is r m
    change_lacking r a out e = rw (residual_is r a out) (is (Err a) m (call_lacking found check done v p read a e))

    -- the words of the bytes n, as many as so many values, are as they must be
    pub change_done : Ok tt ≡ checked (check p) → (values : ℕ) (n : List ℕ) → length n ≡ 4 * values → Bytes n → words n ≡ change p → Is (Ok tt) n
    change_done e values n long small w =
        let bytes : n ≡ unwords (change p) = unwords-words n values long small ∙ ap unwords w in
        is (Ok tt) n (call_done found check done v p read e ∙ (λ i. (passed, sym bytes i)))

pub change_passes : (m : List ℕ) (check : Parsed → Answer) (change : Parsed → List ℕ) (p : Parsed)
    → (change_by m check change (whole p)).0.number ≡ 0 → (check p).number ≡ 0
change_passes m check change p = go (eqb (check p).number 0) refl
  where
    go : (q : Bool) → eqb (check p).number 0 ≡ q → (cond {A = Answer × List ℕ} q (passed, unwords (change p)) (check p, m)).0.number ≡ 0
        → (check p).number ≡ 0
    go true e z = eqb-true (check p).number 0 e
    go false e z = z

-- ---- a call that changes the memory only, with checks 7 and 8 before its own

module _ (s m : List ℕ) (own : Parsed → Answer) (change : Parsed → List ℕ) where
  abbrev whole_call : Answer × List ℕ
  whole_call = change_by m (λ p. check_memory p m (own p)) change (read_board s)

  opens : whole_call ≡ change_by m own change (read_judged s m)
  opens = judged_call (λ a. (a, m)) own (λ p. (passed, unwords (change p))) s m

  abbrev Gives : Result (Unit {0}) Answer → List ℕ → Type 0
  Gives r n = (told r ≡ whole_call.0) × (n ≡ whole_call.1)

  as_opened : (r : Result (Unit {0}) Answer) (n : List ℕ) → Is m own change (read_judged s m) r n → Gives r n
  as_opened r n e = rw opens e

  pub judged_refused : (r : Result (Unit {0}) Answer) (a : Answer) → IsErrAnd r (λ e. e ≡ a) → Refuses (read_judged s m) a → Gives r m
  judged_refused r a out h = as_opened r m (change_refused m own change (read_judged s m) r a out h)

  module _ (p : Parsed) (read : read_judged s m ≡ whole p) where
    pub judged_lacking : (r : Result (Unit {0}) Answer) (a : Answer) → IsErrAnd r (λ e. e ≡ a) → Err a ≡ checked (own p) → Gives r m
    judged_lacking r a out e = as_opened r m (change_lacking m own change (read_judged s m) p read r a out e)

    pub judged_done : Ok tt ≡ checked (own p) → (values : ℕ) (n : List ℕ) → length n ≡ 4 * values → Bytes n → words n ≡ change p → Gives (Ok tt) n
    judged_done e values n long small w = as_opened (Ok tt) n (change_done m own change (read_judged s m) p read e values n long small w)
