-- The plate writer's answer and bytes, check by check, and how long the plate's bytes are. Assumes nothing.
use mathlib.Core.Path.{◌≡◌, refl}
use mathlib.Core.Bool.{Bool, true, false, cond, and-eq-true_iff}
use mathlib.Core.List.{List}
use Prim.Native.Nat.{ℕ, ◌≤◌}
use borrow.Author.Tests.{leb-true, le-leb, eq-eqb, ne_eqb}
use lib.Dec.{leb, eqb}
use lib.Ieee.{Float}
use lib.ListN.{length}
use Rattle.values.specs.Floors.{finite_f}
use Rattle.records.specs.Answer.{answer}
use Rattle.boards.specs.Board.{size_fits}
use Rattle.records.specs.Write.{nodes_bytes, wires_bytes, write_board}
use Rattle.records.specs.declared.answer.Answer.{Answer}
use Rattle.plate_board.specs.Plate.{plate_nodes, plate_wires, plate_card, plate_bytes, check_write, write_of}

-- a call's answer, and the bytes that it leaves
abbrev pub answer_of : Answer × List ℕ → Answer
answer_of r = r.0

abbrev pub bytes_of : Answer × List ℕ → List ℕ
bytes_of r = r.1

-- ---- lengths, by computation

pub nodes_long : (mix dry : ℕ) → length (nodes_bytes (plate_nodes mix dry)) ≡ 714
unfolding plate_nodes
nodes_long mix dry = refl

pub wires_long : length (wires_bytes plate_wires) ≡ 544
unfolding plate_wires
wires_long = refl

pub plate_long : (N mix dry : ℕ) → length (write_board (plate_card N mix dry)) ≡ 1270
unfolding write_board plate_nodes plate_wires
plate_long N mix dry = refl

-- ---- the checks

module _ (N : ℕ) where
  pub size_in : 1 ≤ N → N ≤ 128 → size_fits N ≡ true
  size_in l m = (and-eq-true_iff (leb 1 N) (leb N 128)).1 (le-leb 1 N l, le-leb N 128 m)

  pub size_out : (1 ≤ N → N ≤ 128 → ⊥) → size_fits N ≡ false
  size_out h = go (size_fits N) refl
    where
      go : (b : Bool) → size_fits N ≡ b → size_fits N ≡ false
      go true e = let both = (and-eq-true_iff (leb 1 N) (leb N 128)).0 e in absurd (h (leb-true 1 N both.0) (leb-true N 128 both.1))
      go false e = e

module _ (N : ℕ) (mix : Float) (b : List ℕ) where
  -- the bytes that go with an answer
  abbrev left : Answer → Answer × List ℕ
  left a = (a, cond (eqb a.number 0) (plate_bytes N mix) b)

  answers : {a : Answer} → check_write N mix b ≡ a → write_of N mix b ≡ left a
  unfolding write_of
  answers e = λ i. left (e i)

  -- a check's way through the three
  abbrev by : Bool → Bool → Bool → Answer
  by size number long = cond size (cond number (cond long (answer 0 0) (answer 7 1270)) (answer 12 41)) (answer 3 0)

  pub wrong_size : size_fits N ≡ false → write_of N mix b ≡ (answer 3 0, b)
  wrong_size e = answers (λ i. by (e i) (finite_f mix) (eqb (length b) 1270))

  module _ (size : size_fits N ≡ true) where
    pub wrong_mix : finite_f mix ≡ false → write_of N mix b ≡ (answer 12 41, b)
    wrong_mix e = answers (λ i. by (size i) (e i) (eqb (length b) 1270))

    module _ (number : finite_f mix ≡ true) where
      pub wrong_length : (length b ≡ 1270 → ⊥) → write_of N mix b ≡ (answer 7 1270, b)
      wrong_length h = answers (λ i. by (size i) (number i) (ne_eqb (length b) 1270 h i))

      pub written : length b ≡ 1270 → write_of N mix b ≡ (answer 0 0, plate_bytes N mix)
      written h = answers (λ i. by (size i) (number i) (eq-eqb (length b) 1270 h i))
