-- What a change answers on a board that is read as p, and what follows from an answer of 0. Assumes nothing.
use Prim.Native.Nat.{ℕ, ◌-◌, min, ◌<◌}
use mathlib.Core.Path.{◌≡◌, refl, sym, ap, ◌∙◌}
use mathlib.Core.Bool.{Bool, true, false, cond}
use mathlib.Core.List.{List}
use native.Mathlib.Omega.{arith}
use borrow.Author.Tests.{eq-eqb, ne_eqb}
use lib.Dec.{eqb, ltb}
use lib.ListN.{length}
use Rattle.values.specs.Words.{Bytes}
use Rattle.boards.specs.Board.{Parsed, Progress, going, refused, whole, wire_fits}
use Rattle.boards.specs.Judge.{read_board, check_six}
use Rattle.boards.specs.BoardParts.{wired as with_wires}
use Rattle.boards.proofs.Ending.{Ended, board_ends}
use Rattle.boards.proofs.Six.{six_whole, six_refused}
use Rattle.carrying.specs.Carried.{added, wired, pulled}
use Rattle.wiring.specs.Rewire.{refusal, wiring_by, added_to, pulled_from, on_board, judged_anew, added_board, pulled_board, in_front, lent_for}
use Rattle.wiring.specs.declared.rewire.Wiring.{Wiring}
use Rattle.wiring.proofs.Written.{added_fits, added_fails, pulled_fits}

-- ---- a board that is refused

module _ (s : List ℕ) (x y n w : ℕ) (e : read_board s ≡ refused n w) where
  pub added_refused : added_board x y s ≡ (refusal n w, s)
  unfolding added_board
  added_refused = ap (on_board s (λ p. judged_anew (added_to x y s))) e

  pub pulled_refused : pulled_board x y s ≡ (refusal n w, s)
  unfolding pulled_board
  pulled_refused = ap (on_board s (λ p. cond (wired p.wires x y) (judged_anew (pulled_from p x y s)) (refusal 16 y, s))) e

-- ---- one that is read as p

module _ (s : List ℕ) (x y : ℕ) (p : Parsed) (e : read_board s ≡ whole p) where
  pub added_whole : added_board x y s ≡ judged_anew (added_to x y s)
  unfolding added_board
  added_whole = ap (on_board s (λ p. judged_anew (added_to x y s))) e

  pub pulled_by : (b : Bool) → wired p.wires x y ≡ b → pulled_board x y s ≡ cond b (judged_anew (pulled_from p x y s)) (refusal 16 y, s)
  unfolding pulled_board
  pulled_by b h =
      ap (on_board s (λ p. cond (wired p.wires x y) (judged_anew (pulled_from p x y s)) (refusal 16 y, s))) e
      ∙ ap (λ (q : Bool). cond q (judged_anew (pulled_from p x y s)) (refusal 16 y, s)) h

  module _ (b : Bytes s) where
    pub added_five : x < 65536 → y < 65536 → wire_fits (length p.nodes) (length p.wires) x y ≡ false
        → (added_board x y s).0 ≡ refusal 5 (length s - 4)
    added_five hx hy f =
        ap (λ (d : Wiring × List ℕ). d.0) added_whole ∙ ap wiring_by (six_refused (added_to x y s) 5 (length s - 4) (added_fails s b p e x y hx hy f))

    pub added_read : wire_fits (length p.nodes) (length p.wires) x y ≡ true → read_board (added_to x y s) ≡ check_six (with_wires p (added p.wires x y))
    added_read f = six_whole (added_to x y s) (with_wires p (added p.wires x y)) (added_fits s b p e x y f)

    pub pulled_read : wired p.wires x y ≡ true → read_board (pulled_from p x y s) ≡ check_six (with_wires p (pulled p.wires x y))
    pulled_read h = six_whole (pulled_from p x y s) (with_wires p (pulled p.wires x y)) (pulled_fits s b p e x y h)

-- ---- an answer of 0: the board was accepted

pub added-accepted : (s : List ℕ) (x y : ℕ) → (added_board x y s).0.number ≡ 0 → (p : Parsed) × (read_board s ≡ whole p)
added-accepted s x y z = go (read_board s) refl (board_ends s)
  where
    go : (r : Progress) → read_board s ≡ r → Ended r → (p : Parsed) × (read_board s ≡ whole p)
    go (going at last p) e d = absurd d
    go (refused n w) e d = absurd (omega (arith, d, sym (ap (λ (d : Wiring × List ℕ). d.0.number) (added_refused s x y n w e)) ∙ z))
    go (whole p) e d = (p, e)

pub pulled-accepted : (s : List ℕ) (x y : ℕ) → (pulled_board x y s).0.number ≡ 0 → (p : Parsed) × (read_board s ≡ whole p)
pulled-accepted s x y z = go (read_board s) refl (board_ends s)
  where
    go : (r : Progress) → read_board s ≡ r → Ended r → (p : Parsed) × (read_board s ≡ whole p)
    go (going at last p) e d = absurd d
    go (refused n w) e d = absurd (omega (arith, d, sym (ap (λ (d : Wiring × List ℕ). d.0.number) (pulled_refused s x y n w e)) ∙ z))
    go (whole p) e d = (p, e)

-- ---- what a call makes of a change, by the bytes lent

module _ (bytes : List ℕ) (needed : ℕ) (d : Wiring × List ℕ) where
  pub lent_short : ltb (length bytes) needed ≡ true → lent_for bytes needed d ≡ (refusal 15 (min needed 4294967295), bytes)
  lent_short e = ap (λ (b : Bool). cond b (refusal 15 (min needed 4294967295), bytes) (d.0, cond (eqb d.0.number 0) (in_front d.1 bytes) bytes)) e

  lent_by_lem : (b : Bool) → ltb (length bytes) needed ≡ false → eqb d.0.number 0 ≡ b → lent_for bytes needed d ≡ (d.0, cond b (in_front d.1 bytes) bytes)
  lent_by_lem b e h =
      ap (λ (q : Bool). cond q (refusal 15 (min needed 4294967295), bytes) (d.0, cond (eqb d.0.number 0) (in_front d.1 bytes) bytes)) e
      ∙ ap (λ (q : Bool). (d.0, cond q (in_front d.1 bytes) bytes)) h

  pub lent_answer : ltb (length bytes) needed ≡ false → lent_for bytes needed d ≡ (d.0, cond (eqb d.0.number 0) (in_front d.1 bytes) bytes)
  lent_answer e = lent_by_lem (eqb d.0.number 0) e refl

  pub lent_done : ltb (length bytes) needed ≡ false → d.0.number ≡ 0 → lent_for bytes needed d ≡ (d.0, in_front d.1 bytes)
  lent_done e z = lent_by_lem true e (eq-eqb d.0.number 0 z)

  pub lent_kept : ltb (length bytes) needed ≡ false → (d.0.number ≡ 0 → ⊥) → lent_for bytes needed d ≡ (d.0, bytes)
  lent_kept e z = lent_by_lem false e (ne_eqb d.0.number 0 z)

  -- a refusal leaves every byte as found
  pub lent_refused : eqb (lent_for bytes needed d).0.number 0 ≡ false → (lent_for bytes needed d).1 ≡ bytes
  lent_refused = go (ltb (length bytes) needed)
    where
      done : Bool → Wiring × List ℕ
      done b = cond b (refusal 15 (min needed 4294967295), bytes) (d.0, cond (eqb d.0.number 0) (in_front d.1 bytes) bytes)

      go : (b : Bool) → eqb (done b).0.number 0 ≡ false → (done b).1 ≡ bytes
      go true e = refl
      go false e = ap (λ (b : Bool). cond b (in_front d.1 bytes) bytes) e
