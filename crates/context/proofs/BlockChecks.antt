-- The checks of a block run, in the steps that the code takes.
--     samples_next, samples_wrong, samples_end, samples_passed    check 10, sample by sample
--     sizes_accepted, sizes_passed    check 9
-- Assumes nothing.
use Prim.Native.Nat.{ℕ, suc, ◌+◌, ◌*◌, ◌<◌}
use mathlib.Core.Path.{◌≡◌, refl, ◌∙◌}
use mathlib.Core.Bool.{true, false}
use mathlib.Core.List.{List, [], ◌∷◌}
use native.Mathlib.Numerals.{add-one}
use native.Mathlib.Omega.{arith}
use lib.ListN.{length, get_or, drop}
use lib.Seq.{drop-cons, drop-length}
use Rattle.values.specs.Floats.{finite_bits}
use Rattle.records.specs.Answer.{answer}
use Rattle.memory.specs.Memory.{passed}
use Rattle.memory.proofs.CallChecks.{passes, lengths_accepted, lengths_passed}
use Rattle.context.specs.Block.{check_sizes, check_samples}

-- ---- check 10

module _ (ws : List ℕ) where
  module _ (i : ℕ) (within : i < length ws) where
    pub samples_next : finite_bits (get_or ws i 0) ≡ true → check_samples (i + 1) (drop (i + 1) ws) ≡ check_samples i (drop i ws)
    unfolding check_samples
    samples_next e = rw (add-one, drop-cons ws i 0 within, e)

    pub samples_wrong : finite_bits (get_or ws i 0) ≡ false → check_samples i (drop i ws) ≡ answer 10 i
    unfolding check_samples
    samples_wrong e = rw (drop-cons ws i 0 within, e)

  pub samples_end : (n : ℕ) → n ≡ length ws → check_samples n (drop n ws) ≡ passed
  unfolding check_samples
  samples_end n e = rw (e, drop-length ws)

pub samples_passed : (i : ℕ) (ws : List ℕ) → (check_samples i ws).number ≡ 0 → check_samples i ws ≡ passed
unfolding check_samples
samples_passed i [] z = refl
samples_passed i (w ∷ ws) z =
    let rest = passes (finite_bits w) (check_samples (suc i) ws) (answer 10 i) (λ e. omega arith) z in
    rest.2 ∙ samples_passed (suc i) ws rest.1

-- ---- check 9

module _ (N x l r : ℕ) where
  pub sizes_accepted : (check_sizes N x l r).number ≡ 0 → (x ≡ 4 * N) × (l ≡ 4 * N) × (r ≡ 4 * N)
  sizes_accepted = lengths_accepted (4 * N) (answer 9 N) x l r (λ e. omega arith)

  pub sizes_passed : (x ≡ 4 * N) × (l ≡ 4 * N) × (r ≡ 4 * N) → check_sizes N x l r ≡ passed
  sizes_passed = lengths_passed (4 * N) (answer 9 N) x l r
