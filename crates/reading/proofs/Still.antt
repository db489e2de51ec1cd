-- What the equations say of a node that is out of reach:
--     last_wrote     its samples are those of the block that it last wrote
--     never_wrote    or silence, if it wrote none
--     late_brings    so a late wire brings the block that its source last wrote
--     input_still    the input node out of reach has the input samples
--     known_still    what is known of it stays through the block: its history counts the times at which it is run and no others
-- Assumes nothing.
use mathlib.Core.Path.{◌≡◌, refl, sym, ap, ◌∙◌}
use mathlib.Core.Logic.{◌≢◌}
use Prim.Native.Nat.{ℕ, zero, suc, ◌+◌, ◌-◌, ◌*◌, ◌/◌, ◌%◌, ◌≤◌, ◌<◌}
use native.Mathlib.Nat.{le_of_lt}
use native.Mathlib.Omega.{arith}
use mathlib.Core.Bool.{Bool, true, false, cond}
use mathlib.Core.List.{List, [], map}
use lib.ListN.{get_or}
use lib.Arith.{digits_lt, digits_div, digits_mod}
use borrow.Author.Tests.{le-leb, lt-leb, eq-eqb, ne_eqb}
use Rattle.reading.specs.Table.{mem}
use Rattle.reading.specs.Order.{sources, late}
use Rattle.reading.specs.Effect.{Effect, inputs, blocks, wiring_in, told}
use Rattle.reading.specs.Board.{Rules, Board, silent, entered}
use Rattle.reading.specs.Time.{Timed, block_ago}
use Rattle.reading.specs.Solution.{in_force, held_when, brings_when, row, IsSolution}

module _ {C W In Out State Value : Type 0} (B : Board C W In Out Value) (R : W → Rules Out State Value) (es : List (Effect W In Value))
    (s : Timed Out) (u : Timed State) (f : IsSolution B R es s u) where
  -- one block earlier, and the input sample of a time
  abbrev earlier_by : Timed Out
  earlier_by = block_ago B.size (silent B) s

  abbrev input_at : ℕ → Out
  input_at t = entered B (get_or (inputs es) (t / B.size) []) (t % B.size)

  -- node k is out of reach in block b
  abbrev pub Away : ℕ → ℕ → Type 0
  Away b k = mem k (B.visit (wiring_in B.first es b)) ≡ false

  -- place i of block b
  abbrev pub time : ℕ → ℕ → ℕ
  time b i = b * B.size + i

  -- then its row is that it stands still
  still : (b i k : ℕ) → i < B.size → Away b k → ◌≡◌ {A = Out × State} (row B R es s u (time b i) k) (held_when B es s (time b i) k, u (time b i) k)
  still b i k h a =
      let t : ℕ = time b i in
      ap (λ (q : Bool). cond q
      ((R (in_force B es t)).step k (t % B.size) (u t k) (held_when B es s t k) (map (λ a. brings_when B es s t k a) (sources (B.wires (in_force B es t)) k)))
      (held_when B es s t k, u t k)) (ap (λ (n : ℕ). mem k (B.visit (wiring_in B.first es n))) (digits_div b h) ∙ a)

  still_held : (b i k : ℕ) → b < blocks es → i < B.size → Away b k → s (time b i) k ≡ held_when B es s (time b i) k
  still_held b i k l h a = f.sample (time b i) k (digits_lt l h) ∙ ap (λ (x : Out × State). x.0) (still b i k h a)

  earlier_suc : (b i k : ℕ) → earlier_by (time (suc b) i) k ≡ s (time b i) k
  earlier_suc b i k =
      let m : B.size ≤ time (suc b) i = omega arith in
      let d : time (suc b) i - B.size ≡ time b i = omega arith in
      ap (λ (t : Bool). cond t (s (time (suc b) i - B.size) k) (silent B)) (le-leb B.size (time (suc b) i) m) ∙ ap (λ (t : ℕ). s t k) d

  still_sample : (b i k : ℕ) → k ≢ B.input → b < blocks es → i < B.size → Away b k → s (time b i) k ≡ earlier_by (time b i) k
  still_sample b i k n l h a =
      still_held b i k l h a
      ∙ ap (λ (q : Bool). cond q (input_at (time b i)) (earlier_by (time b i) k)) (ne_eqb _ _ n)

  pub last_wrote : (k c n i : ℕ) → k ≢ B.input → i < B.size → n + c < blocks es
      → ((j : ℕ) → j < n → Away (suc j + c) k) → s (time (n + c) i) k ≡ s (time c i) k
  last_wrote k c zero i ne h l a = let z : zero + c ≡ c = omega arith in ap (λ (b : ℕ). s (time b i) k) z
  last_wrote k c (suc n) i ne h l a =
      let e : suc n + c ≡ suc (n + c) = omega arith in
      let l' : n + c < blocks es = omega arith in
      let m : n < suc n = omega arith in
      still_sample (suc n + c) i k ne l h (a n m)
      ∙ ap (λ (b : ℕ). earlier_by (time b i) k) e
      ∙ earlier_suc (n + c) i k
      ∙ last_wrote k c n i ne h l' (λ j q. a j (omega arith))

  pub never_wrote : (k n i : ℕ) → k ≢ B.input → i < B.size → n < blocks es
      → ((j : ℕ) → j ≤ n → Away j k) → s (time n i) k ≡ silent B
  never_wrote k zero i ne h l a =
      still_sample 0 i k ne l h (a 0 (omega arith))
      ∙ ap (λ (t : Bool). cond t (s (time 0 i - B.size) k) (silent B)) (lt-leb B.size (time 0 i) (omega arith))
  never_wrote k (suc n) i ne h l a =
      still_sample (suc n) i k ne l h (a (suc n) (omega arith))
      ∙ earlier_suc n i k
      ∙ never_wrote k n i ne h (le_of_lt l) (λ j q. a j (omega arith))

  -- block suc (n + c) is the first after block c in which node a is reached again, and its wire to k is late there
  pub late_brings : (k a c n i : ℕ) → a ≢ B.input → i < B.size → n + c < blocks es → ((j : ℕ) → j < n → Away (suc j + c) a)
      → late (B.visit (wiring_in B.first es (suc (n + c)))) a k ≡ true → brings_when B es s (time (suc (n + c)) i) k a ≡ s (time c i) a
  late_brings k a c n i ne h l away e =
      let d : time (suc (n + c)) i / B.size ≡ suc (n + c) = digits_div (suc (n + c)) h in
      ap (λ (q : Bool). cond q (earlier_by (time (suc (n + c)) i) a) (s (time (suc (n + c)) i) a))
      (ap (λ (b : ℕ). late (B.visit (wiring_in B.first es b)) a k) d ∙ e)
      ∙ earlier_suc (n + c) i a
      ∙ last_wrote a c n i ne h l away

  pub input_still : (b i : ℕ) → b < blocks es → i < B.size → Away b B.input → s (time b i) B.input ≡ input_at (time b i)
  input_still b i l h a =
      still_held b i B.input l h a
      ∙ ap (λ (q : Bool). cond q (input_at (time b i)) (earlier_by (time b i) B.input)) (eq-eqb B.input B.input refl)

  -- what is known of it before place i, and after it
  before_still : (b i k : ℕ) → b < blocks es → i < B.size → Away b k → u (time b i) k ≡ u (time b 0) k
  before_still b zero k l h a = refl
  before_still b (suc i) k l h a =
      let t : ℕ = time b i in
      let e : time b (suc i) ≡ suc t = omega arith in
      let m : suc t % B.size ≡ suc i = ap (λ (n : ℕ). n % B.size) (sym e) ∙ digits_mod b h in
      let z : suc t % B.size ≢ 0 = omega arith in
      let then : State = (row B R es s u t k).1 in
      ap (λ (n : ℕ). u n k) e
      ∙ f.next t k (digits_lt l (le_of_lt h))
      ∙ ap (λ (q : Bool). cond q (told (R B.first).set es (suc t / B.size) k then) then) (ne_eqb _ _ z)
      ∙ ap (λ (x : Out × State). x.1) (still b i k (le_of_lt h) a)
      ∙ before_still b i k l (le_of_lt h) a

  pub known_still : (b i k : ℕ) → b < blocks es → i < B.size → Away b k → (row B R es s u (time b i) k).1 ≡ u (time b 0) k
  known_still b i k l h a = ap (λ (x : Out × State). x.1) (still b i k h a) ∙ before_still b i k l h a
