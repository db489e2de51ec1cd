-- Laws of the loop that splits positions into their floors and what is above them. Assumes nothing.
use mathlib.Core.Path.{◌≡◌, refl, ap, ◌∙◌}
use mathlib.Core.List.{List}
use Prim.Native.Nat.{ℕ, ◌+◌, ◌≤◌, ◌<◌}
use native.Mathlib.Omega.{arith}
use borrow.Author.Count.{below_more}
use lib.ListN.{length, get_or, set, length-set}
use lib.Seq.{get_or-set_same, get_or-set_other}
use lib.Ieee.{Float, nan}
use Rattle.values.specs.Floors.{floor_of}
use Rattle.leaves.specs.Position.{rest_of}
use Rattle.effects.specs.Block.{sample, Split}

-- after i turns: the first i places are split, those ahead are as they were
pub record Splitting (p₀ : List Float) (i : ℕ) (p : List Float) (floors : List ℕ) : Type 0 where
  pub long : length p ≡ length p₀
  pub room : length p₀ ≤ length floors
  pub ahead : (j : ℕ) → i ≤ j → sample p j ≡ sample p₀ j
  pub done : (j : ℕ) → j < i → Split (sample p₀ j) (get_or floors j 0) (sample p j)

pub splitting_none : {p₀ : List Float} {floors : List ℕ} → length p₀ ≤ length floors → Splitting p₀ 0 p₀ floors
splitting_none room = record { long = refl; room = room; ahead = λ j h. refl; done = λ j h. absurd (omega arith) }

pub splitting_then : {p₀ : List Float} {i n : ℕ} {r : Float} {p : List Float} {floors : List ℕ} → Splitting p₀ i p floors → i < length p₀
    → Split (sample p i) n r → Splitting p₀ (i + 1) (set p i r) (set floors i n)
splitting_then {p₀} {i} {n} {r} {p} {floors} s below e =
    let here : sample p i ≡ sample p₀ i = s.ahead i (omega arith) in
    record {
      long = length-set p i r ∙ s.long;
      room = omega (arith, length-set floors i n, s.room);
      ahead = λ j h. get_or-set_other p i j r nan (λ same. omega arith) ∙ s.ahead j (omega arith);
      done = below_more (λ j. Split (sample p₀ j) (get_or (set floors i n) j 0) (sample (set p i r) j)) i
          (λ j h. let so = s.done j h in (get_or-set_other floors i j n 0 (λ same. omega arith) ∙ so.0, get_or-set_other p i j r nan (λ same. omega arith) ∙ so.1))
          (get_or-set_same floors i n 0 (omega (arith, s.room)) ∙ e.0 ∙ ap floor_of here, get_or-set_same p i r nan (omega (arith, s.long)) ∙ e.1 ∙ ap rest_of here);
    }
