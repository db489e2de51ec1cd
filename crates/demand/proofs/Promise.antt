-- The promise of one request, as the theory asks it, and its replies:
--     promise          on what shows cells a request leaves what shows the cells that its effects leave, and answers by node 0's samples then
--     said             what the requests answer are the replies
-- A new request has its case in `promise`. Assumes nothing.
use Prim.Native.Nat.{ℕ, ◌+◌, ◌-◌}
use mathlib.Core.Path.{◌≡◌, refl, sym, ap, ◌∙◌}
use mathlib.Core.Bool.{Bool, true, false, cond}
use mathlib.Core.List.{List, [], ◌∷◌}
use lib.Dec.{eqb}
use Rattle.kinds.specs.Rule.{Frame}
use Rattle.reading.specs.Effect.{Effect, blocks, wiring_after}
use Rattle.reading.specs.Time.{Timed, last_block}
use Rattle.reading.specs.Solution.{outputs_by}
use Rattle.reading.specs.Memory.{answers, KeepsPromise}
use Rattle.reading.specs.Blocks.{run_block, set_state}
use Rattle.reading.proofs.Calls.{acts_left}
use Rattle.boards.specs.Board.{Parsed}
use Rattle.boards.specs.BoardParts.{wired as with_wires}
use Rattle.wiring.specs.Rewire.{added_board, pulled_board, lent_for, add_of, pull_of}
use Rattle.wiring.proofs.Answered.{lent_refused}
use Rattle.wiring.specs.declared.rewire.Wiring.{Wiring}
use Rattle.memory.specs.Memory.{kind_at}
use Rattle.samples.specs.Reading.{Call, effects, silence}
use Rattle.samples.specs.Instance.{Cells, board_with, memory_with, Held, memory_of}
use Rattle.samples.proofs.ShownBlock.{reordered}
use Rattle.samples.proofs.ShownCall.{doing, effects-wiring, call_shown}
use Rattle.demand.specs.Requests.{Lent, board_in, wires_on, Request, call, add, pull, change_to, change_by, effects_of, Said, replied, wired, said_to, said_by}
use Rattle.demand.specs.Instance.{Plays}
use Rattle.demand.specs.Claim.{lent_by, request_in, Orders}
use Rattle.demand.proofs.Lends.{board_bytes, plays_fine}

-- ---- what is lent after a change

-- a refused change leaves every byte as found
lent_by_lem : (l : Lent) (needed n : ℕ) (d : Wiring × List ℕ)
    → lent_by l (lent_for l.bytes needed d) n ≡ wiring_after l (change_by (lent_for l.bytes needed d) n)
lent_by_lem l needed n d = go (eqb done'.0.number 0) refl
  where
    done' : Wiring × List ℕ
    done' = lent_for l.bytes needed d

    go : (b : Bool) → eqb done'.0.number 0 ≡ b
        → record { bytes = done'.1; used = cond b n l.used } ≡ wiring_after l (change_to b (record { bytes = done'.1; used = n }))
    go true e = refl
    go false e = λ i. record { bytes = lent_refused l.bytes needed d e i; used = l.used }

added_lent : (l : Lent) (s t : ℕ)
    → lent_by l (add_of l.bytes l.used s t) (l.used + 8) ≡ wiring_after l (change_by (add_of l.bytes l.used s t) (l.used + 8))
unfolding add_of
added_lent l s t = lent_by_lem l (l.used + 8) (l.used + 8) (added_board s t (board_in l))

pulled_lent : (l : Lent) (s t : ℕ)
    → lent_by l (pull_of l.bytes l.used s t) (l.used - 8) ≡ wiring_after l (change_by (pull_of l.bytes l.used s t) (l.used - 8))
unfolding pull_of
pulled_lent l s t = lent_by_lem l l.used (l.used - 8) (pulled_board s t (board_in l))

module _ (p : Parsed) (l : Lent) where
  abbrev pub show : Lent × Cells → Lent × List ℕ
  show m = (m.0, memory_of p m.1)

  -- ---- the promise of one request

  module _ (order : Parsed → List ℕ) (fit : Orders p order) where
    -- what the effects of a request leave
    abbrev then : List (Effect Lent ℕ ℕ) → Lent × Cells → Lent × Cells
    then = doing p l wires_on (effects_of p) order

    -- a call leaves what is lent
    lent_same : (c : Call) (w : Lent) (m : Cells) → (then (effects p c) (w, m)).0 ≡ w
    lent_same c w m =
        acts_left (run_block (board_with p l wires_on (effects_of p)) (memory_with p wires_on) (λ v. order (with_wires p (wires_on v))))
        (set_state (board_with p l wires_on (effects_of p)) (memory_with p wires_on)) (effects p c) w m
        ∙ effects-wiring p w c

    -- a change leaves the cells
    cells_same : (d : Wiring × List ℕ) (n : ℕ) (w : Lent) (m : Cells) → then (change_by d n) (w, m) ≡ (wiring_after w (change_by d n), m)
    cells_same d n w m = go (eqb d.0.number 0)
      where
        change : Bool → List (Effect Lent ℕ ℕ)
        change b = change_to b (record { bytes = d.1; used = n })

        go : (b : Bool) → then (change b) (w, m) ≡ (wiring_after w (change b), m)
        go true = refl
        go false = refl

    changed : (d : Wiring × List ℕ) (n : ℕ) (w : Lent) (m : Cells) → lent_by w d n ≡ wiring_after w (change_by d n)
        → ◌≡◌ {A = (Lent × List ℕ) × Said} ((lent_by w d n, memory_of p m), wired d.0) (show (then (change_by d n) (w, m)), wired d.0)
    changed d n w m e =
        ◌∙◌ {A = (Lent × List ℕ) × Said} (λ i. ((e i, memory_of p m), wired d.0)) (λ i. (show (sym (cells_same d n w m) i), wired d.0))

    pub promise : KeepsPromise (board_with p l wires_on (effects_of p)) (memory_with p wires_on) (Plays p) (λ k. Held (kind_at p k))
        (λ w. order (with_wires p (wires_on w))) show (said_to p) (request_in order)
    promise (call c) w m f kept =
        let fine = plays_fine p w f in
        let q = with_wires p (wires_on w) in
        let one = call_shown p l wires_on (effects_of p) order (board_in w) w f.reads fine
        (reordered q fine (order q) (fit (board_in w) (board_bytes p w f) (wires_on w) f.reads)) m
        (λ k. record { samples = kept.size k; line = (kept.state k).long }) kept.state c in
        λ i. ((sym (lent_same c w m) i, (one i).0), replied (one i).1)
    promise (add s t) w m f kept = changed (add_of w.bytes w.used s t) (w.used + 8) w m (added_lent w s t)
    promise (pull s t) w m f kept = changed (pull_of w.bytes w.used s t) (w.used - 8) w m (pulled_lent w s t)

  -- ---- the replies

  pub said : (s : Timed Frame) (cs : List Request) (w : Lent) (b : ℕ)
      → answers (board_with p l wires_on (effects_of p)) (said_to p) w cs (outputs_by (board_with p l wires_on (effects_of p)) s w b cs) ≡ said_by p s w b cs
  unfolding said_by
  said s [] w b = refl
  said s (c ∷ cs) w b =
      let n : ℕ = b + blocks (effects_of p w c) in
      ap (λ (rs : List Said). said_to p w c (last_block p.size silence s n 0) ∷ rs) (said s cs (wiring_after w (effects_of p w c)) n)
