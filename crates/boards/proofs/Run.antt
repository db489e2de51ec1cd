-- Steps of the reading one after the other, and a reading that is done. Assumes nothing.
use Prim.Native.Nat.{ℕ, zero, suc, ◌+◌, ◌-◌, ◌≤◌}
use mathlib.Core.Path.{◌≡◌, refl, sym, ap, ◌∙◌}
use mathlib.Core.List.{List}
use native.Mathlib.Nat.{zero-add, suc-add}
use native.Mathlib.Omega.{arith}
use lib.ListN.{length}
use Rattle.boards.specs.Board.{Parsed, Progress, going, refused, whole, headed, step_of, run, read_records}

abbrev pub Done : Progress → Type 0
Done (going at last p) = ⊥
Done (refused k w) = Unit {0}
Done (whole p) = Unit {0}

pub refused_is_not_whole : {A : Type 0} (k w : ℕ) (q : Parsed) → refused k w ≡ whole q → A
refused_is_not_whole k w q e = let z : ◌≡◌ {A = ℕ} 0 1 = cc in absurd (omega arith)

pub going_is_not_whole : {A : Type 0} (at last : ℕ) (p q : Parsed) → going at last p ≡ whole q → A
going_is_not_whole at last p q e = let z : ◌≡◌ {A = ℕ} 0 1 = cc in absurd (omega arith)

module _ (s : List ℕ) where
  pub run_one : (r : Progress) → run 1 s r ≡ step_of s r
  unfolding run
  run_one r = refl

  pub run_suc : (n : ℕ) (r : Progress) → run (suc n) s r ≡ run n s (step_of s r)
  unfolding run
  run_suc n r = refl

  pub run_add : (m n : ℕ) (r : Progress) → run (m + n) s r ≡ run n s (run m s r)
  unfolding run
  run_add zero n r = rw zero-add
  run_add (suc m) n r = rw suc-add (run_add m n (step_of s r))

  -- one step more, after the others
  pub run_next : (n : ℕ) (r : Progress) → run (suc n) s r ≡ step_of s (run n s r)
  unfolding run
  run_next zero r = refl
  run_next (suc n) r = run_next n (step_of s r)

  -- a reading that is done stays as it is
  pub run_done : (n : ℕ) (r : Progress) → Done r → run n s r ≡ r
  unfolding run step_of
  run_done zero r d = refl
  run_done (suc n) (going at last p) d = absurd d
  run_done (suc n) (refused k w) d = run_done n (refused k w) d
  run_done (suc n) (whole p) d = run_done n (whole p) d

  -- a refused reading ends in no whole board
  pub refused_for_good : {A : Type 0} (n k w : ℕ) (q : Parsed) → run n s (refused k w) ≡ whole q → A
  refused_for_good n k w q e = refused_is_not_whole k w q (sym (run_done n (refused k w) tt) ∙ e)

  -- so many steps, and no more than there are, end the reading
  pub run_ends : (n : ℕ) (r : Progress) → n ≤ suc (length s) → Done r → run n s (going 0 0 (headed 0 0)) ≡ r → read_records s ≡ r
  unfolding read_records
  run_ends n r h d e =
      let rest = suc (length s) - n in
      let all : suc (length s) ≡ n + rest = omega arith in
      ap (λ (k : ℕ). run k s (going 0 0 (headed 0 0))) all ∙ run_add n rest (going 0 0 (headed 0 0)) ∙ ap (run rest s) e ∙ run_done rest r d
