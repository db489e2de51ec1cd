-- Laws of sums: one more source. Assumes nothing.
use mathlib.Core.Path.{◌≡◌, refl, sym, ap, ◌∙◌}
use mathlib.Core.List.{List, [], ◌∷◌, ◌++◌, map-append}
use Prim.Native.Nat.{ℕ, ◌+◌, ◌≤◌, ◌<◌}
use native.Mathlib.Omega.{arith}
use native.Mathlib.Numerals.{add-one}
use lib.ListN.{length, get_or, take}
use lib.Seq.{take-suc, take-length}
use lib.Ieee.{Float, binary32, add}
use Rattle.values.specs.Floats.{float_at}
use Rattle.kinds.specs.Rule.{add_to, total}
use Rattle.effects.specs.Block.{sample, fill, quiet, begun, added}
use Rattle.kinds.specs.Node.{samples_at}
use Rattle.operators.specs.Sums.{total_at}
use Rattle.effects.proofs.Filled.{length-fill, fill_at, fill-over, fill_same}

add_to-more : (t : Float) (xs : List Float) (x : Float) → add_to t (xs ++ (x ∷ [])) ≡ add binary32 (add_to t xs) x
add_to-more t [] x = refl
add_to-more t (y ∷ xs) x = add_to-more (add binary32 t y) xs x

module _ (ws starts list : List ℕ) (k : ℕ) (h : k < length list) where
  samples_at_more : (i : ℕ) → samples_at ws starts (take (k + 1) list) i ≡ samples_at ws starts (take k list) i ++ (float_at ws (get_or starts (get_or list k 0) 0 + i) ∷ [])
  samples_at_more i = rw (add-one k, take-suc list k 0 h) (map-append (λ j. float_at ws (get_or starts j 0 + i)) (take k list) (get_or list k 0 ∷ []))

  total_at_more : (i : ℕ) → add binary32 (total_at ws starts (take k list) i) (float_at ws (get_or starts (get_or list k 0) 0 + i)) ≡ total_at ws starts (take (k + 1) list) i
  unfolding total
  total_at_more i = sym (ap total (samples_at_more i) ∙ add_to-more _ (samples_at ws starts (take k list) i) _)

-- the sum over x, where x₀ is x filled for a start: of one more source, and of all
module _ (ws starts list : List ℕ) (N : ℕ) (start : ℕ → Float) (x₀ x : List Float) (long : N ≤ length x) (e : x₀ ≡ fill start N x) where
  abbrev upto : ℕ → List Float
  upto k = fill (total_at ws starts (take k list)) N x₀

  -- k sources that are the start
  sum_start : (k : ℕ) → ((i : ℕ) → start i ≡ total_at ws starts (take k list) i) → x₀ ≡ upto k
  sum_start k same = e ∙ sym (fill-over start start N x long) ∙ ap (fill start N) (sym e) ∙ fill_same start _ N x₀ (λ i h. same i)

  -- j is the next source
  pub sum_more : (k j : ℕ) (y z : List Float) → k < length list → j ≡ get_or list k 0 → y ≡ upto k → z ≡ fill (added ws (get_or starts j 0) y) N y → z ≡ upto (k + 1)
  sum_more k j y z h source before after =
      let next = added ws (get_or starts (get_or list k 0) 0) y in
      let long₀ : N ≤ length x₀ = omega (arith, ap length e, length-fill start N x) in
      after
      ∙ ap (λ (m : ℕ). fill (added ws (get_or starts m 0) y) N y) source
      ∙ ap (fill next N) before
      ∙ fill-over (total_at ws starts (take k list)) next N x₀ long₀
      ∙ fill_same next (total_at ws starts (take (k + 1) list)) N x₀ (λ i b.
      ap (λ (v : Float). add binary32 v (float_at ws (get_or starts (get_or list k 0) 0 + i)))
      (ap (λ (u : List Float). sample u i) before ∙ fill_at (total_at ws starts (take k list)) N x₀ long₀ i b)
      ∙ total_at_more ws starts list k h i)

  pub sum_all : (k : ℕ) (y : List Float) → k ≡ length list → y ≡ upto k → y ≡ fill (total_at ws starts list) N x
  sum_all k y f g =
      g
      ∙ ap (λ (l : List ℕ). fill (total_at ws starts l) N x₀) (ap (λ (j : ℕ). take j list) f ∙ take-length list)
      ∙ ap (fill (total_at ws starts list) N) e
      ∙ fill-over start (total_at ws starts list) N x long

-- no source: x₀ is x cleared
pub sum-none : (ws starts list : List ℕ) (N : ℕ) (x₀ x : List Float) → N ≤ length x → x₀ ≡ fill quiet N x → 0 ≡ length list → x₀ ≡ fill (total_at ws starts list) N x
unfolding total
sum-none ws starts list N x₀ x long e none = sum_all ws starts list N quiet x₀ x long e 0 x₀ none (sum_start ws starts list N quiet x₀ x long e 0 (λ i. refl))

-- one source, j
pub sum_one : (ws starts list : List ℕ) (N j : ℕ) (x₀ x : List Float) → N ≤ length x → 0 < length list → j ≡ get_or list 0 0 → x₀ ≡ fill (begun ws (get_or starts j 0)) N x
    → x₀ ≡ fill (total_at ws starts (take 1 list)) N x₀
unfolding total
sum_one ws starts list N j x₀ x long some source e =
    sum_start ws starts list N (begun ws (get_or starts j 0)) x₀ x long e 1
    (λ i. ap (λ (m : ℕ). begun ws (get_or starts m 0) i) source ∙ total_at_more ws starts list 0 some i)
