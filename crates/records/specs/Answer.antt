-- An answer: a number, 0 for success, and a place (document 01, "Answers by number"). Definitions only.
use Rattle.std.specs.Prelude.{ℕ, cond, eqb, Result, Ok, Err}
use Rattle.records.specs.declared.answer.Answer.{Answer}

abbrev pub answer : ℕ → ℕ → Answer
answer n w = record { number = n; place = w }

-- a refusal is an error
abbrev pub checked : Answer → Result (Unit {0}) Answer
checked a = cond (eqb a.number 0) (Ok tt) (Err a)

-- a call's answer: 0 where it was done, or its refusal
abbrev pub told : Result (Unit {0}) Answer → Answer
told (Ok _) = answer 0 0
told (Err a) = a
