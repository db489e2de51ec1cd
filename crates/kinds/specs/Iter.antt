-- A loop over i = 0 .. n - 1 as an iteration of its turn. Definitions only; the laws are in proofs/Iterated.antt.
use Rattle.std.specs.Prelude.{ℕ, zero, suc, ◌+◌}

-- the state after the turns 0 to n - 1
unfoldable pub iter : {S : Type 0} → (ℕ → S → S) → ℕ → S → S
iter turn zero s = s
iter turn (suc n) s = turn n (iter turn n s)

-- the turns d, d + 1, ..
abbrev pub from : {S : Type 0} → ℕ → (ℕ → S → S) → ℕ → S → S
from d turn i = turn (d + i)
