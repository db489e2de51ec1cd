-- Laws of effects:
--     inputs_append, blocks_append    of one list behind another
--     told_first, told_next    what the numbers set before each block make of a node, one block after the other, is what all of them make of it
-- Assumes nothing.
use mathlib.Core.Path.{◌≡◌, refl, ap, ◌∙◌}
use Prim.Native.Nat.{ℕ, zero, suc, ◌+◌}
use mathlib.Core.Bool.{cond}
use mathlib.Core.List.{List, [], ◌∷◌, ◌++◌}
use lib.Dec.{eqb}
use lib.ListN.{length, length-append}
use Rattle.reading.specs.Effect.{Effect, run, set, rewire, inputs, blocks, told, told_by}

module _ {W In Value : Type 0} where
  pub inputs_append : (es fs : List (Effect W In Value)) → inputs (es ++ fs) ≡ inputs es ++ inputs fs
  inputs_append [] fs = refl
  inputs_append (run xs ∷ es) fs = ap (λ (l : List (List In)). xs ∷ l) (inputs_append es fs)
  inputs_append (set k v ∷ es) fs = inputs_append es fs
  inputs_append (rewire w ∷ es) fs = inputs_append es fs

  pub blocks_append : (es fs : List (Effect W In Value)) → blocks (es ++ fs) ≡ blocks es + blocks fs
  blocks_append es fs = ap length (inputs_append es fs) ∙ length-append (inputs es) (inputs fs)

module _ {W In Value State : Type 0} (set_to : ℕ → Value → State → State) where
  pub told_first : (es : List (Effect W In Value)) (k : ℕ) (h : State) → told set_to es 0 k h ≡ told_by set_to es 0 k h
  told_first [] k h = refl
  told_first (run xs ∷ es) k h = refl
  told_first (set j x ∷ es) k h = told_first es k (cond (eqb k j) (set_to k x h) h)
  told_first (rewire v ∷ es) k h = told_first es k h

  pub told_next : (es : List (Effect W In Value)) (b k : ℕ) (h : State) → told set_to es (suc b) k (told_by set_to es b k h) ≡ told_by set_to es (suc b) k h
  told_next [] b k h = refl
  told_next (run xs ∷ es) zero k h = told_first es k h
  told_next (run xs ∷ es) (suc b) k h = told_next es b k h
  told_next (set j x ∷ es) b k h = told_next es b k (cond (eqb k j) (set_to k x h) h)
  told_next (rewire v ∷ es) b k h = told_next es b k h
