-- What the functions of src/rewire.rt ask and find. Definitions only.
use Rattle.std.specs.Prelude.{ℕ, ◌+◌, ◌<◌, ◌≤◌, ◌≡◌, cond, List, length, take, Option, Some, None, Result, Ok, Err}
use Rattle.reading.specs.Order.{Wire}
use Rattle.records.specs.declared.answer.Answer.{Answer}
use Rattle.graph.specs.declared.graph.Order.{Order}
use Rattle.carrying.specs.Carried.{wired, older}
use Rattle.wiring.specs.declared.rewire.Wiring.{Wiring}
use Rattle.wiring.specs.Rewire.{wiring, refusal, closed_up, added_board, pulled_board}

-- the place of the newest wire from s to t
abbrev pub newest_place : List Wire → ℕ → ℕ → Option ℕ
newest_place ws s t = cond (wired ws s t) (Some (length (older ws s t))) None

-- a wire is added to a board: 0 and the visiting list, or a refusal
abbrev pub Adds : List ℕ → ℕ → ℕ → Result Order Answer → Type 0
Adds board s t (Ok o) = wiring 0 0 (take o.count o.nodes) ≡ (added_board s t board).0
Adds board s t (Err a) = (0 < a.number) × (refusal a.number a.place ≡ (added_board s t board).0)

-- a wire is pulled from a board: 0 and the visiting list, and where the record stands; or a refusal
abbrev pub Pulls : List ℕ → ℕ → ℕ → Result (Order × ℕ) Answer → Type 0
Pulls board s t (Ok r) =
    (wiring 0 0 (take r.0.count r.0.nodes) ≡ (pulled_board s t board).0) × (r.1 + 8 ≤ length board) × ((pulled_board s t board).1 ≡ closed_up r.1 board)
Pulls board s t (Err a) = (0 < a.number) × (refusal a.number a.place ≡ (pulled_board s t board).0)

-- an answer as success or refusal
abbrev pub Checked : Wiring → Result Order Answer → Type 0
Checked w (Ok o) = (w.number ≡ 0) × (o.nodes ≡ w.listed) × (o.count ≡ w.count)
Checked w (Err a) = (w.number ≡ 0 → ⊥) × (a.number ≡ w.number) × (a.place ≡ w.place)
