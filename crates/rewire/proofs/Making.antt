-- A change that is made leaves a board as long as is said, and its answer is that board's. Assumes nothing.
use mathlib.Core.Path.{◌≡◌, refl, sym, ap, ◌∙◌}
use mathlib.Core.Bool.{Bool, true, false}
use mathlib.Core.List.{List}
use Prim.Native.Nat.{ℕ, ◌+◌, ◌-◌, ◌<◌, ◌≤◌}
use native.Mathlib.Omega.{arith}
use borrow.Author.Tests.{eq-eqb, ne_eqb, eqb-true, eqb-false}
use lib.Dec.{eqb}
use lib.ListN.{length, take}
use lib.Seq.{length-take-le}
use Rattle.values.specs.Words.{Bytes}
use Rattle.reading.specs.Order.{Wire}
use Rattle.boards.specs.Board.{Parsed, Progress, going, refused, whole, memory_length}
use Rattle.boards.specs.Judge.{read_board, answer_by, judge_of}
use Rattle.boards.proofs.Ending.{Ended, board_ends}
use Rattle.records.proofs.RoundBytes.{bytes_front}
use Rattle.wiring.specs.Rewire.{wiring_by, added_board, pulled_board, add_of, pull_of, Leaves}
use Rattle.wiring.specs.declared.rewire.Wiring.{Wiring}
use Rattle.wiring.proofs.Answered.{lent_refused}
use Rattle.wiring.proofs.Changes.{added_leaves, pulled_leaves}
use Rattle.wiring.proofs.Written.{read_long}
use Rattle.rewire.specs.declared.change.Request.{Request}
use Rattle.rewire.specs.declared.change.Request.TheVariants.{Add, Pull}
use Rattle.rewire.specs.Step.{made_of, changed_length, length_after, Room, Plays}

-- an answer and bytes, of which the first n are the board that the answer is of
pub record Made (r : Wiring × List ℕ) (n : ℕ) : Type 0 where
  pub within : n ≤ length r.1
  pub small : Bytes r.1
  pub answers : r.0 ≡ wiring_by (read_board (take n r.1))

leaves_made : {p : Parsed} {ws : List Wire} {r : Wiring × List ℕ} {n : ℕ} → Leaves p ws r n → Made r n
leaves_made l = record { within = l.within; small = l.are_bytes; answers = l.answer ∙ sym (ap wiring_by l.reads) }

-- ---- either change

module _ (bytes : List ℕ) (n : ℕ) (plays : Plays bytes n) (small : Bytes bytes) where
  either_made : (c : Request) → (made_of c bytes n).0.number ≡ 0 → Made (made_of c bytes n) (changed_length c n)
  unfolding made_of
  either_made (Add s t) z = leaves_made (added_leaves bytes small n plays.parsed plays.reads s t z)
  either_made (Pull s t) z = leaves_made (pulled_leaves bytes small n plays.parsed plays.reads s t z)

  either_kept : (c : Request) → ((made_of c bytes n).0.number ≡ 0 → ⊥) → (made_of c bytes n).1 ≡ bytes
  unfolding made_of add_of pull_of
  either_kept (Add s t) o = lent_refused bytes (n + 8) (added_board s t (take n bytes)) (ne_eqb _ 0 o)
  either_kept (Pull s t) o = lent_refused bytes n (pulled_board s t (take n bytes)) (ne_eqb _ 0 o)

  -- there is room for the new board; the board that a wire is pulled from has its 8 bytes
  pub made_room : (c : Request) → (made_of c bytes n).0.number ≡ 0 → length (made_of c bytes n).1 < 18446744073709551616 → Room c n
  unfolding made_of
  made_room (Add s t) z l = let m = either_made (Add s t) z in omega (arith, m.within, l)
  made_room (Pull s t) z l =
      let new = pulled_leaves bytes small n plays.parsed plays.reads s t z in
      let rest = take (n - 8) (pull_of bytes n s t).1 in
      omega (arith, read_long rest (bytes_front (n - 8) (pull_of bytes n s t).1 new.are_bytes) _ new.reads, length-take-le (n - 8) (pull_of bytes n s t).1 new.within)

module _ (c : Request) (bytes : List ℕ) (n : ℕ) (plays : Plays bytes n) (small : Bytes bytes) where
  -- the board's length after a change, made or refused
  after_made : (made_of c bytes n).0.number ≡ 0 → length_after c n (made_of c bytes n).0 ≡ changed_length c n
  unfolding length_after
  after_made z = rw (eq-eqb (made_of c bytes n).0.number 0 z)

  pub made : (made_of c bytes n).0.number ≡ 0 → Made (made_of c bytes n) (length_after c n (made_of c bytes n).0)
  made z = rw (after_made z) (either_made bytes n plays small c z)

  -- an answer of 0 is that of a board
  made_plays : (r : Wiring × List ℕ) (m : ℕ) → Made r m → r.0.number ≡ 0 → Plays r.1 m
  made_plays r m d z = go (read_board (take m r.1)) refl (board_ends (take m r.1))
    where
      go : (v : Progress) → read_board (take m r.1) ≡ v → Ended v → Plays r.1 m
      go (going at last p) e f = absurd f
      go (refused k w) e f = absurd (omega (arith, f, sym (ap (λ (x : Progress). (wiring_by x).number) e) ∙ sym (ap (λ (x : Wiring). x.number) d.answers) ∙ z))
      go (whole p) e f = record { within = d.within; parsed = p; reads = e }

  refused_plays : ((made_of c bytes n).0.number ≡ 0 → ⊥) → Plays (made_of c bytes n).1 (length_after c n (made_of c bytes n).0)
  unfolding length_after
  refused_plays o = rw (ne_eqb (made_of c bytes n).0.number 0 o, either_kept bytes n plays small c o) plays

  pub after_plays : Plays (made_of c bytes n).1 (length_after c n (made_of c bytes n).0)
  after_plays = go (eqb (made_of c bytes n).0.number 0) refl
    where
      go : (b : Bool) → eqb (made_of c bytes n).0.number 0 ≡ b → Plays (made_of c bytes n).1 (length_after c n (made_of c bytes n).0)
      go true e = let z = eqb-true (made_of c bytes n).0.number 0 e in made_plays (made_of c bytes n) _ (made z) z
      go false e = refused_plays (eqb-false (made_of c bytes n).0.number 0 e)

-- the board that the judge accepts at the start
pub judged_plays : (bytes : List ℕ) (n : ℕ) → n ≤ length bytes → (judge_of (take n bytes)).number ≡ 0 → Plays bytes n
unfolding judge_of
judged_plays bytes n h z = go (read_board (take n bytes)) refl (board_ends (take n bytes)) z
  where
    go : (v : Progress) → read_board (take n bytes) ≡ v → Ended v → (answer_by memory_length v).number ≡ 0 → Plays bytes n
    go (going at last p) e f z = absurd f
    go (refused k w) e f z = absurd (omega (arith, f, z))
    go (whole p) e f z = record { within = h; parsed = p; reads = e }
