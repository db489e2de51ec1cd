-- A reading or the refusal that an answer gives. Assumes nothing.
use Rattle.std.specs.Prelude.{Result, Ok, Err, IsErrAnd}
use Prim.Native.Nat.{ℕ, ◌<◌}
use mathlib.Core.Path.{◌≡◌, ap, subst}
use borrow.Author.Tests.{ne_eqb}
use Rattle.records.specs.Answer.{answer}
use Rattle.boards.specs.Board.{Parsed, Progress, refused}
use Rattle.boards.specs.BoardParts.{or_refused, Refuses, Decides}
use Rattle.records.specs.declared.answer.Answer.{Answer}

pub refused_by : {a : Answer} {n w : ℕ} {v : Progress} → a ≡ answer n w → 0 < n → v ≡ refused n w → Refuses v a
refused_by e h q = rw e (h, q)

-- what `?` hands out of an `Err`
pub residual_is : {A : Type 0} (r : Result A Answer) (a : Answer) → IsErrAnd r (λ e. e ≡ a) → r ≡ Err a
residual_is (Ok x) a h = absurd h
residual_is (Err e) a h = ap Err h

-- the same reading, written another way
pub decides_as : {v w : Progress} (p : Parsed) (r : Result (Unit {0}) Answer) → v ≡ w → Decides v p r → Decides w p r
decides_as p r e h = subst (λ (x : Progress). Decides x p r) e h

pub or-accepts : (a : Answer) (r : Progress) → a.number ≡ 0 → or_refused a r ≡ r
or-accepts a r e = rw e

pub or_refuses : (a : Answer) (r : Progress) → (a.number ≡ 0 → ⊥) → or_refused a r ≡ refused a.number a.place
or_refuses a r other = rw (ne_eqb a.number 0 other)
