-- `decimals::number::digits_of` meets its contract: a run of digits, and one more behind a point. Assumes nothing.
use mathlib.Core.List.{List, []}
use mathlib.Core.Path.{◌≡◌, ap, ◌∙◌}
use native.Mathlib.Omega.{arith}
use borrow.Author.Tests.{eq-eqb, ne_eqb}
use Prim.Native.Nat.{ℕ}
use lib.ListN.{drop, get_or, get_or-eq_default}
use Rattle.std.proofs.lemmas.Bool.Decides.{nat_tests}
use Rattle.std.proofs.lemmas.Grind.{common_steps}
use Rattle.std.proofs.lemmas.List.{take_rest}
use Rattle.decimals.specs.Number.{first_digits, behind_digits, parts, pointed, digits_of}
use Rattle.decimals.proofs.number.digits_of.Goals as goal
use Rattle.decimals.proofs.number.digits_of.Goals.{in_default-via-then-rest-lt1, in_default-via-else-rest-lt1+in_default-1}

-- the parts, by whether a point follows the first digits
module _ (word whole rest : List ℕ) (first : whole ≡ first_digits word) (behind : rest ≡ behind_digits word) where
  by_point : pointed whole rest ≡ digits_of word
  unfolding digits_of
  by_point = ap (λ (w : List ℕ). pointed w rest) first ∙ ap (pointed (first_digits word)) behind

  unpointed : (get_or rest 0 0 ≡ 46 → ⊥) → parts whole [] rest ≡ digits_of word
  unpointed n = rw (ne_eqb (get_or rest 0 0) 46 n) at by_point

  with_point : (f r : List ℕ) → get_or rest 0 0 ≡ 46 → f ≡ first_digits (drop 1 rest) → r ≡ behind_digits (drop 1 rest) → parts whole f r ≡ digits_of word
  with_point f r e p q =
      ap (λ (x : List ℕ). parts whole x r) p ∙ ap (parts whole (first_digits (drop 1 rest))) q ∙ (rw (eq-eqb (get_or rest 0 0) 46 e) at by_point)

pub returns-in_default : goal.returns-in_default
returns-in_default c =
    let split = c.split_digits.ensures in
    let rest = c.split_digits.result.1.now in
    let none : get_or rest 0 0 ≡ 46 → ⊥ =
    elim c.in_default.branch [
      | in_default-via-then-rest-lt1 w ↦ λ e. let past = get_or-eq_default rest 0 {n = 0} in grind (arith, nat_tests, common_steps)
      | in_default-via-else-rest-lt1+in_default-1 w ↦ λ e. grind (arith, nat_tests)
    ] in
    unpointed _ _ rest split.1 split.2 none

pub returns : goal.returns
returns c =
    let split = c.split_digits.ensures in
    let rest = c.split_digits.result.1.now in
    let more = c.split_digits-2.ensures in
    let point : get_or rest 0 0 ≡ 46 = grind arith in
    with_point _ _ rest split.1 split.2 _ _ point (more.1 ∙ ap first_digits (take_rest rest 1)) (more.2 ∙ ap behind_digits (take_rest rest 1))
