-- What calls come to. A call has effects, none if it is refused: it runs a block, sets a node's number, or changes the wiring. The reading by
-- samples speaks of the effects of a list of calls and of nothing else of them. Part of what the statements say. Assumes nothing.
use Rattle.std.specs.Prelude.{ℕ, zero, suc, cond, List, [], ◌∷◌, ◌++◌, length, eqb}

-- W is a wiring, with whatever else of the board calls may change
pub data Effect (W In Value : Type 0) : Type 0 where
  -- a block run with these input samples
  run : List In → Effect W In Value
  -- a node's number is set
  set : ℕ → Value → Effect W In Value
  -- the wiring from then on
  rewire : W → Effect W In Value

module _ {W In Value : Type 0} where
  -- the input blocks
  abbrev pub inputs : List (Effect W In Value) → List (List In)
  inputs [] = []
  inputs (run x ∷ es) = x ∷ inputs es
  inputs (set k v ∷ es) = inputs es
  inputs (rewire w ∷ es) = inputs es

  -- how many blocks are run
  abbrev pub blocks : List (Effect W In Value) → ℕ
  blocks es = length (inputs es)

  -- the wiring that effects leave, where they find w
  abbrev pub wiring_after : W → List (Effect W In Value) → W
  wiring_after w [] = w
  wiring_after w (run x ∷ es) = wiring_after w es
  wiring_after w (set k v ∷ es) = wiring_after w es
  wiring_after w (rewire v ∷ es) = wiring_after v es

  -- the wiring in force in block b, where it starts as w; with as many blocks as there are for b, the one behind them all
  abbrev pub wiring_in : W → List (Effect W In Value) → ℕ → W
  wiring_in w [] b = w
  wiring_in w (run x ∷ es) zero = w
  wiring_in w (run x ∷ es) (suc b) = wiring_in w es b
  wiring_in w (set k v ∷ es) b = wiring_in w es b
  wiring_in w (rewire v ∷ es) b = wiring_in v es b

  -- What the numbers set between block b - 1 and block b make of what is known of node k, before block 0 those set before it. With as many
  -- blocks as there are for b, it is those set behind them all. `set_to` is what one of them does.
  abbrev pub told : {State : Type 0} → (ℕ → Value → State → State) → List (Effect W In Value) → ℕ → ℕ → State → State
  told set_to [] b k h = h
  told set_to (run x ∷ es) zero k h = h
  told set_to (run x ∷ es) (suc b) k h = told set_to es b k h
  told set_to (set j v ∷ es) zero k h = told set_to es zero k (cond (eqb k j) (set_to k v h) h)
  told set_to (set j v ∷ es) (suc b) k h = told set_to es (suc b) k h
  told set_to (rewire w ∷ es) b k h = told set_to es b k h

  -- and what all that are set before block b make of it
  abbrev pub told_by : {State : Type 0} → (ℕ → Value → State → State) → List (Effect W In Value) → ℕ → ℕ → State → State
  told_by set_to [] b k h = h
  told_by set_to (run x ∷ es) zero k h = h
  told_by set_to (run x ∷ es) (suc b) k h = told_by set_to es b k h
  told_by set_to (set j v ∷ es) b k h = told_by set_to es b k (cond (eqb k j) (set_to k v h) h)
  told_by set_to (rewire w ∷ es) b k h = told_by set_to es b k h

-- the effects of a list of calls, each under the wiring that those before left; `effects` is what a call does under a wiring
unfoldable pub heard : {C W In Value : Type 0} → (W → C → List (Effect W In Value)) → W → List C → List (Effect W In Value)
heard effects w [] = []
heard effects w (c ∷ cs) = effects w c ++ heard effects (wiring_after w (effects w c)) cs
