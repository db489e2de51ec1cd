-- What the reading says of a node out of reach, in document 02's words ([8]):
--     last_wrote      it keeps the samples of the block that it last wrote
--     never_wrote     zeros, if it wrote none
--     late_brings     so a late wire of the new board brings the block that its source last wrote; late_zeros, if it wrote none
--     known_still     what is known of it stays but for messages: "n ago" and "n earlier" count only the samples for which it was run
--     input_sample    the input node excepted: its sample is the input sample at every time, reached or not
-- Assumes nothing.
use Prim.Native.Nat.{ℕ, suc, ◌+◌, ◌*◌, ◌/◌, ◌≤◌, ◌<◌}
use mathlib.Core.Path.{◌≡◌, refl, ap, subst, ◌∙◌}
use mathlib.Core.Logic.{◌≢◌}
use mathlib.Core.Bool.{Bool, true, false, cond}
use mathlib.Core.List.{List}
use native.Mathlib.Omega.{arith}
use borrow.Author.Tests.{eq-eqb}
use lib.Arith.{digits_lt}
use Rattle.kinds.specs.Rule.{Frame}
use Rattle.kinds.specs.History.{Heard, sample_heard}
use Rattle.reading.specs.Order.{late}
use Rattle.reading.specs.Effect.{Effect, blocks, wiring_in}
use Rattle.reading.specs.Time.{Timed}
use Rattle.reading.specs.Solution.{IsSolution}
use Rattle.reading.proofs.Still as theorem
use Rattle.boards.specs.Board.{Parsed}
use Rattle.boards.specs.BoardParts.{wired as with_wires}
use Rattle.memory.specs.Memory.{kind_at, listed}
use Rattle.samples.specs.Reading.{mono, silence, reached, end, input_at, told_at, ago_n, brings, brought_to, held_at}
use Rattle.samples.specs.Instance.{board_with, reading_rules, reading_with}
use Rattle.memory.specs.Fine.{Fine}
use Rattle.samples.proofs.DemandOn.{input_gives, to_theory}
use Rattle.demand.specs.Requests.{Lent, wires_on, effects_of, board_at, IsRewired}

-- the board of accepted block b; node k is out of reach in it
abbrev pub board_then : Parsed → Lent → List (Effect Lent ℕ ℕ) → ℕ → Parsed
board_then p l es b = with_wires p (wires_on (wiring_in l es b))

abbrev pub Away : Parsed → Lent → List (Effect Lent ℕ ℕ) → ℕ → ℕ → Type 0
Away p l es b k = reached (board_then p l es b) k ≡ false

module _ (p : Parsed) (l : Lent) (es : List (Effect Lent ℕ ℕ)) (fine : (b : ℕ) → Fine (board_then p l es b))
    (s : Timed Frame) (u : Timed Heard) (r : IsRewired p l es s u) where
  -- place i of block b
  abbrev time : ℕ → ℕ → ℕ
  time b i = b * p.size + i

  solves : IsSolution (board_with p l wires_on (effects_of p)) (reading_with p wires_on) es s u
  solves = to_theory p l wires_on (effects_of p) es fine s u r

  pub last_wrote : (k c n i : ℕ) → k ≢ p.input → i < p.size → n + c < blocks es → ((j : ℕ) → j < n → Away p l es (suc j + c) k)
      → s (time (n + c) i) k ≡ s (time c i) k
  last_wrote = theorem.last_wrote (board_with p l wires_on (effects_of p)) (reading_with p wires_on) es s u solves

  pub never_wrote : (k n i : ℕ) → k ≢ p.input → i < p.size → n < blocks es → ((j : ℕ) → j ≤ n → Away p l es j k) → s (time n i) k ≡ silence
  never_wrote = theorem.never_wrote (board_with p l wires_on (effects_of p)) (reading_with p wires_on) es s u solves

  -- block suc (n + c) is the first after block c in which node a is reached again, and its wire to k is late there
  pub late_brings : (k a c n i : ℕ) → a ≢ p.input → i < p.size → n + c < blocks es → ((j : ℕ) → j < n → Away p l es (suc j + c) a)
      → late (listed (board_then p l es (suc (n + c)))) a k ≡ true
      → brings (board_at p l es (time (suc (n + c)) i)) s (time (suc (n + c)) i) k a ≡ s (time c i) a
  late_brings = theorem.late_brings (board_with p l wires_on (effects_of p)) (reading_with p wires_on) es s u solves

  pub late_zeros : (k a n i : ℕ) → a ≢ p.input → i < p.size → n < blocks es → ((j : ℕ) → j ≤ n → Away p l es j a)
      → late (listed (board_then p l es (suc n))) a k ≡ true → brings (board_at p l es (time (suc n) i)) s (time (suc n) i) k a ≡ silence
  late_zeros k a n i ne h b aw e =
      let z : 0 + n ≡ n = omega arith in
      subst (λ (m : ℕ). late (listed (board_then p l es (suc m))) a k ≡ true → brings (board_at p l es (time (suc m) i)) s (time (suc m) i) k a ≡ s (time n i) a) z
      (late_brings k a n 0 i ne h (omega arith) (λ j q. absurd (omega arith))) e
      ∙ never_wrote a n i ne h b aw

  -- through block b
  pub known_still : (b i k : ℕ) → b < blocks es → i < p.size → Away p l es b k
      → u (suc (time b i)) k ≡ told_at p es (suc (time b i)) k (u (time b 0) k)
  unfolding reading_rules
  known_still b i k q h a =
      let t : ℕ = time b i in
      solves.next t k (digits_lt q h)
      ∙ ap (told_at p es (suc t) k) (theorem.known_still (board_with p l wires_on (effects_of p)) (reading_with p wires_on) es s u solves b i k q h a)

  pub input_sample : (t : ℕ) → t < end p es → s t p.input ≡ mono (input_at p es t)
  input_sample t h = r.sample t p.input h ∙ go (reached (board_at p l es t) p.input) ∙ held
    where
      here : Frame
      here = held_at p es s t p.input

      held : here ≡ mono (input_at p es t)
      held = ap (λ (b : Bool). cond b (mono (input_at p es t)) (ago_n p s t p.input)) (eq-eqb p.input p.input refl)

      go : (b : Bool) → cond b (sample_heard (kind_at p p.input) (u t p.input) here (brought_to (board_at p l es t) s t p.input)) here ≡ here
      go true = input_gives (board_at p l es t) (fine (t / p.size)) s t (u t p.input) here
      go false = refl
