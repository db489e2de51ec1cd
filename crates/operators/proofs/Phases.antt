-- Laws of the phases of a sine's block. Assumes nothing.
use mathlib.Core.Path.{◌≡◌, refl, sym, ap, ◌∙◌, subst}
use mathlib.Core.Bool.{Bool, true, false}
use mathlib.Core.List.{List, ◌++◌}
use Prim.Native.Nat.{ℕ, suc, ◌+◌, ◌-◌, ◌≤◌, ◌<◌}
use native.Mathlib.Omega.{arith}
use native.Mathlib.Numerals.{add-one}
use borrow.Author.Count.{below_more}
use borrow.Author.Tests.{ltb-true, ltb-false}
use lib.Dec.{T, ltb}
use lib.ListN.{length, get_or, set, take, drop, length-set, length-append, length-drop, get_or-append}
use lib.Seq.{get_or-set_same, get_or-set_other, get_or-take, get_or-append-add, length-take-le}
use lib.Ieee.{Float}
use Rattle.values.specs.Floors.{f1, within}
use Rattle.leaves.specs.Phase.{advance}
use Rattle.leaves.specs.Sine.{phase_units}
use Rattle.operators.specs.Phases.{Stays, Moves, Units}

-- a loop over the places that is at place i: v is the phase there, and us has those before it
pub record Climbing (by : Float) (start : Float) (long₀ i : ℕ) (us : List ℕ) (v : Float) : Type 0 where
  pub turns : i ≤ long₀
  pub long : length us ≡ long₀
  pub inside : T (within f1 v)
  pub reached : (p : ℕ → Float) → Moves by p → start ≡ p 0 → (v ≡ p i) × Units p i us

module _ {by : Float} {start : Float} {n : ℕ} where
  pub climbing_none : {us : List ℕ} → length us ≡ n → T (within f1 start) → Climbing by start n 0 us start
  climbing_none long h = record { turns = omega arith; long = long; inside = h; reached = λ p moves e. (e, λ j b. absurd (omega arith)) }

  -- one more place
  pub climbing_then : {i u : ℕ} {us : List ℕ} {v w : Float} → Climbing by start n i us v → Stays by → i < n → u ≡ phase_units v → w ≡ advance v by
      → Climbing by start n (i + 1) (set us i u) w
  climbing_then {i} {u} {us} {v} {w} r stays below eu ew =
      record {
        turns = omega arith;
        long = length-set us i u ∙ r.long;
        inside = subst (λ (x : Float). T (within f1 x)) (sym ew) (stays v r.inside);
        reached = λ p moves e.
            let so = r.reached p moves e in (
              ew ∙ ap (λ (x : Float). advance x by) so.0 ∙ sym (moves i) ∙ ap p (sym (add-one i)),
              below_more (λ j. get_or (set us i u) j 0 ≡ phase_units (p j)) i
                  (λ j h. get_or-set_other us i j u 0 (λ same. omega arith) ∙ so.1 j h)
                  (get_or-set_same us i u 0 (omega (arith, r.long)) ∙ eu ∙ ap phase_units so.0),
            );
      }

  -- more places at once: a climb over those that are left
  pub climbing_on : {i k : ℕ} {us ws : List ℕ} {v w : Float} → Climbing by start n i us v → (vs : List ℕ) → length vs ≡ length (take (length us - i) (drop i us))
      → ws ≡ take i us ++ (vs ++ drop (length us - i) (drop i us)) → k ≤ length vs → T (within f1 w) → ((p : ℕ → Float) → Moves by p → v ≡ p 0 → (w ≡ p k) × Units p k vs) → Climbing by start n (i + k) ws w
  climbing_on {i} {k} {us} {ws} {v} {w} r vs long is few h more =
      record {
        turns = omega (arith, left, r.long);
        long = ap length is ∙ omega (arith, length-append (take i us) (vs ++ rest), length-append vs rest, front, left, length-drop (length us - i) (drop i us), length-drop i us, r.turns, r.long);
        inside = h;
        reached = λ p moves e.
            let so = r.reached p moves e in
            let at : i ≡ i + 0 = omega arith in
            let on = more (λ j. p (i + j)) (λ j. let next : i + suc j ≡ suc (i + j) = omega arith in ap p next ∙ moves (i + j)) (so.0 ∙ ap p at) in (
              on.0,
              λ j b. ap (λ (l : List ℕ). get_or l j 0) is ∙ place p so.1 on.1 j b (ltb j i) refl,
            );
      }
    where
      rest : List ℕ
      rest = drop (length us - i) (drop i us)

      left : length vs ≡ length us - i
      left = long ∙ length-take-le (length us - i) (drop i us) (omega (arith, length-drop i us))

      front : length (take i us) ≡ i
      front = length-take-le i us (omega (arith, r.turns, r.long))

      place : (p : ℕ → Float) → Units p i us → Units (λ j. p (i + j)) k vs → (j : ℕ) → j < i + k → (b : Bool) → ltb j i ≡ b
          → get_or (take i us ++ (vs ++ rest)) j 0 ≡ phase_units (p j)
      place p first then j below true e =
          let b : j < i = ltb-true j i e in
          get_or-append (take i us) (vs ++ rest) 0 j (omega (arith, front)) ∙ get_or-take i us j 0 b ∙ first j b
      place p first then j below false e =
          let b : i ≤ j = ltb-false j i e in
          let at : j ≡ length (take i us) + (j - i) = omega (arith, front) in
          let back : i + (j - i) ≡ j = omega arith in
          ap (λ (m : ℕ). get_or (take i us ++ (vs ++ rest)) m 0) at ∙ get_or-append-add (take i us) (vs ++ rest) (j - i) 0
          ∙ get_or-append vs rest 0 (j - i) (omega arith) ∙ then (j - i) (omega arith) ∙ ap (λ (m : ℕ). phase_units (p m)) back

-- a loop that is at its end
pub climbed_all : {by : Float} {start : Float} {n i : ℕ} {us : List ℕ} {v : Float} → Climbing by start n i us v → n ≤ i
    → (p : ℕ → Float) → Moves by p → start ≡ p 0 → (v ≡ p n) × Units p n us
climbed_all {n = n} {i = i} {us = us} {v = v} r all p moves e =
    let done : i ≡ n = omega (arith, r.turns) in
    subst (λ (k : ℕ). (v ≡ p k) × Units p k us) done (r.reached p moves e)
