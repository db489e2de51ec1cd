-- `mixing::mix::mix_judged` meets its contract: one check after the other. Assumes nothing.
use mathlib.Core.Path.{◌≡◌, sym, ap, ◌∙◌}
use mathlib.Core.Bool.{Bool, cond}
use lib.Ieee.{Float}
use Rattle.std.specs.Prelude.{Result, Ok, Err}
use Rattle.records.specs.Answer.{answer, checked}
use Rattle.records.specs.declared.answer.Answer.{Answer}
use Rattle.boards.specs.Board.{Parsed}
use Rattle.boards.specs.Read.{parsed_of}
use Rattle.memory.specs.Memory.{passed}
use Rattle.memory.specs.Calls.{and_then}
use Rattle.memory.proofs.CallChecks.{checked_then}
use Rattle.mixing.specs.Mix.{check_mul, check_finite, check_mix}
use Rattle.mixing.proofs.mix.mix_judged.Goals as goal

-- the checks, and what follows each
module _ (p : Parsed) (mix : Float) where
  abbrev rest-3 : Answer
  rest-3 = and_then (check_mul p 49) (check_finite mix)

  abbrev rest-2 : Answer
  rest-2 = and_then (check_mul p 43) rest-3

  abbrev rest-1 : Answer
  rest-1 = and_then (check_mul p 47) rest-2

  -- where all four pass, mix decides
  past : Ok tt ≡ checked (check_mul p 41) → Ok tt ≡ checked (check_mul p 47) → Ok tt ≡ checked (check_mul p 43) → Ok tt ≡ checked (check_mul p 49)
      → (r : Result (Unit {0}) Answer) → r ≡ checked (check_finite mix) → r ≡ checked (check_mix p mix)
  past a b d f r e =
      checked_then (check_mul p 41) rest-1 r a (checked_then (check_mul p 47) rest-2 r b (checked_then (check_mul p 43) rest-3 r d
      (checked_then (check_mul p 49) (check_finite mix) r f e)))

pub returns-then-not-finite : goal.returns-then-not-finite
returns-then-not-finite c =
    let number = sym c.finite.ensures ∙ c.if-not-finite.true in
    past (parsed_of c.args.board.now) c.args.mix c.in_ok-mul_judged.ensures c.in_ok-mul_judged-2.ensures c.in_ok-mul_judged-3.ensures c.in_ok-mul_judged-4.ensures _
    (ap Err c.new.ensures ∙ ap (λ (q : Bool). checked (cond q passed (answer 12 41))) (sym number))

pub returns : goal.returns
returns c =
    let number = sym c.finite.ensures ∙ c.if-not-finite.false in
    past (parsed_of c.args.board.now) c.args.mix c.in_ok-mul_judged.ensures c.in_ok-mul_judged-2.ensures c.in_ok-mul_judged-3.ensures c.in_ok-mul_judged-4.ensures _
    (ap (λ (q : Bool). checked (cond q passed (answer 12 41))) (sym number))
