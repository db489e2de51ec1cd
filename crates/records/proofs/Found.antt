-- What is known where a record is found: its bytes are there, it stands in order, and a refusal has a number. Assumes nothing.
use Prim.Native.Nat.{ℕ, ◌+◌, ◌≤◌, ◌<◌}
use mathlib.Core.Path.{◌≡◌, refl, sym, subst, ◌∙◌}
use mathlib.Core.List.{List}
use mathlib.Core.Bool.{Bool, true, false}
use native.Mathlib.Omega.{arith}
use borrow.Author.Tests.{leb-true, le-leb}
use lib.ListN.{length, drop, length-drop}
use lib.Dec.{leb, eqb}
use Rattle.std.specs.Prelude.{Result, Ok, Err}
use Rattle.values.specs.Bytes.{u16_at}
use Rattle.records.specs.Record.{cut, in_order, found_of, found_at}
use Rattle.records.specs.declared.record.Found.{Found}
use Rattle.records.specs.declared.record.Found.TheVariants.{Head, Node, Wire, End}
use Rattle.reading.proofs.Choice.{pick}
use Rattle.records.proofs.RoundRecords.{Told, found_told}

-- in n bytes, at an offset, after a record of kind `last`
abbrev pub Room : ℕ → ℕ → ℕ → Result Found ℕ → Type 0
Room n at last (Ok Head) = (at + 8 ≤ n) × (last ≡ 0)
Room n at last (Ok Node) = (at + 14 ≤ n) × (0 < last) × (last ≤ 2)
Room n at last (Ok Wire) = (at + 8 ≤ n) × (0 < last)
Room n at last (Ok End) = (at + 4 ≤ n) × (0 < last)
Room n at last (Err k) = 0 < k

told_room : (s : List ℕ) (at last : ℕ) (f : Result Found ℕ) → Told (drop at s) last f → Room (length s) at last f
told_room s at last (Ok Head) h = (omega (arith, h.0.long, length-drop at s), h.1)
told_room s at last (Ok Node) h = (omega (arith, h.0.long, length-drop at s), h.1, h.2)
told_room s at last (Ok Wire) h = (omega (arith, h.0.long, length-drop at s), h.1)
told_room s at last (Ok End) h = (omega (arith, h.0.long, length-drop at s), h.1)
told_room s at last (Err k) h = h

pub found_room : (s : List ℕ) (at last : ℕ) → Room (length s) at last (found_at s at last)
found_room s at last = told_room s at last (found_at s at last) (found_told s at last _ refl)

-- the same of a record that the code found
pub room_of : (s : List ℕ) (at last : ℕ) {x f : Result Found ℕ} → x ≡ found_at s at last → x ≡ f → Room (length s) at last f
room_of s at last e q = subst (Room (length s) at last) (sym e ∙ q) (found_room s at last)

-- ---- what may follow the head may follow a node, and what ends the nodes may follow a wire

order_one : (k : ℕ) → in_order 1 k ≡ in_order 2 k
order_one k = go (leb 2 k) refl
  where
    go : (b : Bool) → leb 2 k ≡ b → in_order 1 k ≡ in_order 2 k
    go true e = rw (e, le-leb 1 k (omega (arith, leb-true 2 k e)))
    go false e = rw e

pub found_one : (s : List ℕ) (at : ℕ) → found_at s at 1 ≡ found_at s at 2
unfolding found_at
found_one s at = rw (order_one (u16_at s (at + 2)))

order_two : (k : ℕ) → (k ≡ 2 → ⊥) → in_order 3 k ≡ in_order 2 k
order_two k other = go (leb 2 k) refl
  where
    go : (b : Bool) → leb 2 k ≡ b → in_order 3 k ≡ in_order 2 k
    go true e = rw (e, le-leb 3 k (omega (arith, leb-true 2 k e)))
    go false e = rw e

-- no node and no refusal
abbrev pub Over : Result Found ℕ → Type 0
Over (Ok Head) = Unit {0}
Over (Ok Node) = ⊥
Over (Ok Wire) = Unit {0}
Over (Ok End) = Unit {0}
Over (Err n) = ⊥

no_node : (s : List ℕ) (at : ℕ) → Over (found_at s at 2) → u16_at s (at + 2) ≡ 2 → ⊥
unfolding found_at found_of
no_node s at o e =
    let P : Result Found ℕ → Type 0 = λ f. Over f → ⊥ in
    pick P (cut s at) _ _ (λ _ o. o)
    (λ _. pick P (in_order 2 (u16_at s (at + 2))) _ _ (λ _. rw e (pick P (eqb (u16_at s at) 14) (Ok Node) (Err 1) (λ _ o. o) (λ _ o. o)))
    (λ _ o. o))
    o

pub found_over : (s : List ℕ) (at : ℕ) → Over (found_at s at 2) → found_at s at 3 ≡ found_at s at 2
unfolding found_at
found_over s at o = rw (order_two (u16_at s (at + 2)) (no_node s at o))
