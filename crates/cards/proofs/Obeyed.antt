-- A card that is answered by a board says one that obeys document 01's rules. Assumes nothing.
use mathlib.Core.Path.{◌≡◌, subst}
use mathlib.Core.List.{List, [], ◌∷◌, ◌++◌}
use Prim.Native.Nat.{ℕ, zero, suc, ◌+◌}
use native.Mathlib.Omega.{arith}
use Rattle.values.specs.Bytes.{u16_bytes, u32_bytes}
use Rattle.values.specs.Words.{Bytes}
use Rattle.records.specs.Write.{end_bytes, write_board, Card}
use Rattle.boards.specs.Obeys.{Obeys}
use Rattle.boards.proofs.Round.{judge_exact}
use Rattle.text.specs.Words.{lines_of}
use Rattle.card_lines.specs.Labels.{unmarked}
use Rattle.card_lines.specs.Line.{said_of}
use Rattle.cards.specs.Board.{record_bytes, written, step_of, card_from, card_of, Judged}
use Rattle.card_lines.specs.declared.line.Line.{Line}
use Rattle.card_lines.specs.declared.line.Line.TheVariants as line
use Rattle.cards.specs.declared.board.Written.{Written}
use Rattle.cards.specs.declared.board.Wrong.TheVariants.{Bad}
use Rattle.card_lines.specs.declared.reason.Reason.{Reason}
use Rattle.kinds.specs.Types.{type_number}
use Rattle.std.specs.Prelude.{Result, Ok, Err}
use Rattle.cards.proofs.Answered.{by_step_lem, card_judged}

-- ---- what is written is bytes

bytes_both : (a b : List ℕ) → Bytes a → Bytes b → Bytes (a ++ b)
bytes_both [] b h k i = k i
bytes_both (x ∷ a) b h k zero = h 0
bytes_both (x ∷ a) b h k (suc i) = bytes_both a b (λ j. h (suc j)) k i

two : (v : ℕ) → Bytes (u16_bytes v)
two v zero = omega arith
two v (suc zero) = omega arith
two v (suc (suc i)) = omega arith

four : (v : ℕ) → Bytes (u32_bytes v)
four v zero = omega arith
four v (suc zero) = omega arith
four v (suc (suc zero)) = omega arith
four v (suc (suc (suc zero))) = omega arith
four v (suc (suc (suc (suc i)))) = omega arith

pair : (a b : ℕ) → Bytes (u16_bytes a ++ u16_bytes b)
pair a b = bytes_both (u16_bytes a) (u16_bytes b) (two a) (two b)

record_is_bytes : (l : Result Line Reason) → Bytes (record_bytes l)
record_is_bytes (Ok line.Blank) = λ i. omega arith
record_is_bytes (Ok (line.Head size input)) = bytes_both (u16_bytes 8 ++ u16_bytes 1) (u16_bytes size ++ u16_bytes input) (pair 8 1) (pair size input)
record_is_bytes (Ok (line.Node k n f)) =
    bytes_both (u16_bytes 14 ++ u16_bytes 2 ++ u16_bytes (type_number k) ++ u32_bytes n) (u32_bytes f)
    (bytes_both (u16_bytes 14 ++ u16_bytes 2 ++ u16_bytes (type_number k)) (u32_bytes n) (bytes_both (u16_bytes 14 ++ u16_bytes 2) (u16_bytes (type_number k)) (pair 14 2) (two (type_number k))) (four n)) (four f)
record_is_bytes (Ok (line.Wire source target)) = bytes_both (u16_bytes 8 ++ u16_bytes 3) (u16_bytes source ++ u16_bytes target) (pair 8 3) (pair source target)
record_is_bytes (Err r) = λ i. omega arith

from_bytes : (all : List (List ℕ)) (n : ℕ) (w : Written) (bytes : List ℕ) (ls : List (List ℕ)) → Bytes bytes → Bytes (card_from all n w bytes ls).bytes
unfolding card_from
from_bytes all n w bytes [] h = bytes_both bytes end_bytes h (pair 4 4)
from_bytes all n w bytes (l ∷ ls) h =
    by_step_lem (λ said. Bytes said.bytes) (step_of w (said_of all w.nodes l)) (λ next. card_from all (n + 1) next (bytes ++ record_bytes (said_of all w.nodes l)) ls) (λ r. record { made = Err (Bad (n + 1) r); bytes = bytes })
    (λ next. from_bytes all (n + 1) next (bytes ++ record_bytes (said_of all w.nodes l)) ls (bytes_both bytes (record_bytes (said_of all w.nodes l)) h (record_is_bytes (said_of all w.nodes l)))) (λ r. h)

-- ---- the board of a card

pub card_obeys : (text : List ℕ) (n : ℕ) → (card_of text).made ≡ Ok n → (c : Card) × Obeys c × ((card_of text).bytes ≡ write_board c)
card_obeys text n e =
    (judge_exact (card_of text).bytes (from_bytes (lines_of (unmarked text)) 0 (written 0 0 0) [] (lines_of (unmarked text)) (λ i. omega arith))).0
    (subst (Judged (card_of text).bytes) e (card_judged text)).1
