-- A wire added to a board in lent bytes, or pulled from it (document 02, [8]): the answer, the new board's visiting list, and every byte
-- afterwards. The caller lends bytes and says how many of them, from the first on, are the board. Definitions only.
use Rattle.std.specs.Prelude.{ℕ, ◌+◌, ◌-◌, ◌*◌, min, ◌≤◌, ◌≡◌, cond, List, [], ◌++◌, eqb, ltb, length, take, drop, replicate}
use Rattle.values.specs.Words.{Bytes}
use Rattle.reading.specs.Order.{Wire, wire}
use Rattle.boards.specs.Board.{Parsed, Progress, going, refused, whole}
use Rattle.boards.specs.Judge.{read_board}
use Rattle.boards.specs.BoardParts.{wired as with_wires}
use Rattle.graph.specs.Visit.{visiting_list}
use Rattle.records.specs.Write.{wire_bytes}
use Rattle.carrying.specs.Carried.{wired, older}
use Rattle.wiring.specs.declared.rewire.Wiring.{Wiring}

-- ---- the answer

-- number and place, how many nodes are listed, and the list in 64 bytes, with zeros behind it
abbrev pub wiring : ℕ → ℕ → List ℕ → Wiring
wiring n w l = record { number = n; place = w; count = length l; listed = l ++ replicate (64 - length l) 0 }

-- a refusal has an empty list
abbrev pub refusal : ℕ → ℕ → Wiring
refusal n w = wiring n w []

-- of a changed board as it is judged: the refusal, or 0 and the visiting list
abbrev pub wiring_by : Progress → Wiring
wiring_by (going at last p) = refusal 1 at
wiring_by (refused n w) = refusal n w
wiring_by (whole p) = wiring 0 0 (visiting_list p.wires)

-- ---- the changed board

-- a wire record before the end record, which is a board's last 4 bytes
abbrev pub added_to : ℕ → ℕ → List ℕ → List ℕ
added_to s t board = take (length board - 4) board ++ wire_bytes (wire s t) ++ drop (length board - 4) board

-- the offset of wire j's record: the head has 8 bytes, a node 14, a wire 8
abbrev pub wire_at : Parsed → ℕ → ℕ
wire_at p j = 8 + 14 * length p.nodes + 8 * j

-- a board without the 8 bytes from an offset on
abbrev pub closed_up : ℕ → List ℕ → List ℕ
closed_up at board = take at board ++ drop (at + 8) board

-- without the newest wire from s to t: as many wires stand before it as are older
abbrev pub pulled_from : Parsed → ℕ → ℕ → List ℕ → List ℕ
pulled_from p s t board = closed_up (wire_at p (length (older p.wires s t))) board

-- ---- the checks: 15; then the old board by 1 to 6; then 16; then the changed board by 5 and 6

-- the answer and the board of a change f on a board as it was read
abbrev pub on_board : List ℕ → (Parsed → Wiring × List ℕ) → Progress → Wiring × List ℕ
on_board board f (going at last p) = (refusal 1 at, board)
on_board board f (refused n w) = (refusal n w, board)
on_board board f (whole p) = f p

-- the changed board is judged
abbrev pub judged_anew : List ℕ → Wiring × List ℕ
judged_anew board = (wiring_by (read_board board), board)

unfoldable pub added_board : ℕ → ℕ → List ℕ → Wiring × List ℕ
added_board s t board = on_board board (λ p. judged_anew (added_to s t board)) (read_board board)

unfoldable pub pulled_board : ℕ → ℕ → List ℕ → Wiring × List ℕ
pulled_board s t board =
    on_board board (λ p. cond (wired p.wires s t) (judged_anew (pulled_from p s t board)) (refusal 16 t, board)) (read_board board)

-- bytes with another board in front: those behind its end are left alone
abbrev pub in_front : List ℕ → List ℕ → List ℕ
in_front board bytes = board ++ drop (length board) bytes

-- 15, if fewer bytes are lent than needed; its place is at most 4,294,967,295. A refusal leaves every byte as found
abbrev pub lent_for : List ℕ → ℕ → Wiring × List ℕ → Wiring × List ℕ
lent_for bytes needed d =
    cond (ltb (length bytes) needed) (refusal 15 (min needed 4294967295), bytes)
    (d.0, cond (eqb d.0.number 0) (in_front d.1 bytes) bytes)

-- ---- the calls, on bytes of which the first n are the board

unfoldable pub add_of : List ℕ → ℕ → ℕ → ℕ → Wiring × List ℕ
add_of bytes n s t = lent_for bytes (n + 8) (added_board s t (take n bytes))

unfoldable pub pull_of : List ℕ → ℕ → ℕ → ℕ → Wiring × List ℕ
pull_of bytes n s t = lent_for bytes n (pulled_board s t (take n bytes))

-- ---- what an accepted change, with its answer and the bytes afterwards, leaves: the first n bytes are a board with the same nodes and the
-- wires ws, and the answer is 0 and its visiting list

pub record Leaves (p : Parsed) (ws : List Wire) (d : Wiring × List ℕ) (n : ℕ) : Type 0 where
  pub answer : d.0 ≡ wiring 0 0 (visiting_list ws)
  pub are_bytes : Bytes d.1
  pub within : n ≤ length d.1
  pub reads : read_board (take n d.1) ≡ whole (with_wires p ws)
