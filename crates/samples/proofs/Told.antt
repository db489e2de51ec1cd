-- Accepted messages set numbers in range, and nothing else of what is known of a node.
--     told_fits, told_at_fits    the number stays in range
--     told_xs, told_at_xs        what the node has taken stays
-- Assumes nothing.
use Prim.Native.Nat.{ℕ, zero, suc, ◌/◌, ◌%◌}
use mathlib.Core.Path.{◌≡◌, refl, ◌∙◌}
use mathlib.Core.Bool.{Bool, true, false, cond}
use mathlib.Core.List.{List, [], ◌∷◌}
use borrow.Author.Tests.{eqb-true}
use lib.Dec.{eqb}
use Rattle.kinds.specs.Cell.{number_fits}
use Rattle.kinds.specs.History.{Heard, xs, set_number}
use Rattle.reading.specs.Table.{All}
use Rattle.reading.specs.Effect.{Effect, run, set, rewire, told}
use Rattle.boards.specs.Board.{Parsed}
use Rattle.memory.specs.Memory.{kind_at}
use Rattle.samples.specs.Reading.{told_in, told_at}
use Rattle.samples.proofs.ShownCall.{NumberFits}

pub told_fits : {W : Type 0} (p : Parsed) (es : List (Effect W ℕ ℕ)) → All (NumberFits p) es → (b k : ℕ) (h : Heard) → number_fits (kind_at p k) h.number ≡ true
    → number_fits (kind_at p k) (told (λ j. set_number) es b k h).number ≡ true
unfolding set_number
told_fits p [] a b k h e = e
told_fits p (run xs ∷ es) a zero k h e = e
told_fits p (run xs ∷ es) a (suc b) k h e = told_fits p es a.1 b k h e
told_fits p (set j v ∷ es) a zero k h e = told_fits p es a.1 zero k (cond (eqb k j) (set_number v h) h) (go (eqb k j) refl)
  where
    go : (q : Bool) → eqb k j ≡ q → number_fits (kind_at p k) (cond q (set_number v h) h).number ≡ true
    go true i = rw (eqb-true k j i) a.0
    go false i = e
told_fits p (set j v ∷ es) a (suc b) k h e = told_fits p es a.1 (suc b) k h e
told_fits p (rewire w ∷ es) a b k h e = told_fits p es a.1 b k h e

pub told_xs : {W : Type 0} (es : List (Effect W ℕ ℕ)) (b k : ℕ) (h : Heard) → xs (told (λ j. set_number) es b k h) ≡ xs h
unfolding set_number
told_xs [] b k h = refl
told_xs (run x ∷ es) zero k h = refl
told_xs (run x ∷ es) (suc b) k h = told_xs es b k h
told_xs (set j v ∷ es) zero k h = told_xs es zero k (cond (eqb k j) (set_number v h) h) ∙ go (eqb k j)
  where
    go : (q : Bool) → xs (cond q (set_number v h) h) ≡ xs h
    go true = refl
    go false = refl
told_xs (set j v ∷ es) (suc b) k h = told_xs es (suc b) k h
told_xs (rewire w ∷ es) b k h = told_xs es b k h

module _ {W : Type 0} (p : Parsed) (es : List (Effect W ℕ ℕ)) (t k : ℕ) (h : Heard) where
  pub told_at_fits : All (NumberFits p) es → number_fits (kind_at p k) h.number ≡ true → number_fits (kind_at p k) (told_at p es t k h).number ≡ true
  told_at_fits a e = go (eqb (t % p.size) 0)
    where
      go : (q : Bool) → number_fits (kind_at p k) (cond q (told_in p es (t / p.size) k h) h).number ≡ true
      go true = told_fits p es a (t / p.size) k h e
      go false = e

  pub told_at_xs : xs (told_at p es t k h) ≡ xs h
  told_at_xs = go (eqb (t % p.size) 0)
    where
      go : (q : Bool) → xs (cond q (told_in p es (t / p.size) k h) h) ≡ xs h
      go true = told_xs es (t / p.size) k h
      go false = refl
