-- The lengths of packed blocks, check 13: where a block has another length (`other_lengths`), and where all have theirs (`packed_accepted`,
-- `packed_passed`). Assumes nothing.
use Prim.Native.Nat.{ℕ, ◌*◌}
use mathlib.Core.Path.{◌≡◌, refl}
use mathlib.Core.Bool.{Bool, true, false, ◌&&◌, cond, true≢false}
use native.Mathlib.Omega.{arith}
use lib.Dec.{eqb}
use Rattle.records.specs.Answer.{answer}
use Rattle.memory.specs.Memory.{passed}
use Rattle.memory.specs.Calls.{and_then}
use Rattle.memory.proofs.CallChecks.{lengths_accepted, lengths_passed}
use Rattle.records.specs.declared.answer.Answer.{Answer}
use Rattle.packed.specs.Packed.{check_packed}

pub other_lengths : (a b c N : ℕ) → (eqb a (3 * N) && eqb b (3 * N) && eqb c (3 * N)) ≡ false
    → answer 13 N ≡ and_then (check_packed N a) (and_then (check_packed N b) (check_packed N c))
other_lengths a b c N = go (eqb a (3 * N)) (eqb b (3 * N)) (eqb c (3 * N))
  where
    go : (p q r : Bool) → (p && q && r) ≡ false
        → answer 13 N ≡ and_then (cond p passed (answer 13 N)) (and_then (cond q passed (answer 13 N)) (cond r passed (answer 13 N)))
    go true true true e = absurd (true≢false e)
    go true true false e = refl
    go true false r e = refl
    go false q r e = refl

module _ (N x l r : ℕ) where
  abbrev pub thirteen : Answer
  thirteen = and_then (check_packed N x) (and_then (check_packed N l) (check_packed N r))

  pub packed_accepted : thirteen.number ≡ 0 → (x ≡ 3 * N) × (l ≡ 3 * N) × (r ≡ 3 * N)
  packed_accepted = lengths_accepted (3 * N) (answer 13 N) x l r (λ e. omega arith)

  pub packed_passed : (x ≡ 3 * N) × (l ≡ 3 * N) × (r ≡ 3 * N) → thirteen ≡ passed
  packed_passed = lengths_passed (3 * N) (answer 13 N) x l r
