-- The places of a list's nodes, written from the last to the first, so that the first one stays. Assumes nothing.
use mathlib.Core.Path.{◌≡◌, sym, ap, subst, ◌∙◌}
use mathlib.Core.List.{List, ◌∷◌}
use Prim.Native.Nat.{ℕ, suc, ◌+◌, ◌<◌, ◌≤◌}
use native.Mathlib.Nat.{add-zero, zero-add}
use native.Mathlib.Numerals.{add-one}
use native.Mathlib.Decide.{ℕ_discrete}
use native.Mathlib.Omega.{arith}
use lib.ListN.{length, get_or, set, drop, replicate, get_or-replicate, drop_of_length-le}
use lib.Seq.{get_or-set_same, get_or-set_other, drop-cons}
use Rattle.graph.specs.Late.{place, Placed}
use Rattle.graph.proofs.Late.{place-head, place_other}

-- the nodes from the place i on have been written
abbrev pub Placing : List ℕ → List ℕ → ℕ → Type 0
Placing l r i = (v : ℕ) → v < 64 → get_or r v 0 ≡ i + place (drop i l) v

pub placing_none : (l : List ℕ) (n : ℕ) → length l ≡ n → Placing l (replicate 64 n) n
placing_none l n e v h = get_or-replicate 64 v n 0 h ∙ rw (drop_of_length-le l (subst (λ (k : ℕ). k ≤ n) (sym e) (omega arith))) (sym (add-zero n))

pub placing_done : (l r : List ℕ) → length r ≡ 64 → Placing l r 0 → Placed l r
placing_done l r e p = record { size = e; at = λ v h. p v h ∙ zero-add (place l v) }

-- the node x at the place k is written
pub placing_more : (l r : List ℕ) (i k x : ℕ) → i ≡ k + 1 → length r ≡ 64 → x < 64 → k < length l → x ≡ get_or l k 0 → Placing l r i → Placing l (set r x k) k
placing_more l r i k x up size node h is p v b = pick (ℕ_discrete x v) ∙ ap (λ (m : List ℕ). k + place m v) (sym split)
  where
    split : drop k l ≡ x ∷ drop i l
    split = drop-cons l k 0 h ∙ rw (is, up, add-one)

    pick : Dec (x ≡ v) → get_or (set r x k) v 0 ≡ k + place (x ∷ drop i l) v
    pick (yes e) = ap (λ (u : ℕ). get_or (set r x k) u 0) (sym e) ∙ get_or-set_same r x k 0 (omega arith) ∙ sym (ap (λ (n : ℕ). k + n) (place-head (drop i l) e) ∙ add-zero k)
    pick (no ne) =
        let past : k + suc (place (drop i l) v) ≡ i + place (drop i l) v = omega arith in
        get_or-set_other r x v k 0 (λ e. ne (sym e)) ∙ p v b ∙ sym (ap (λ (n : ℕ). k + n) (place_other (drop i l) ne) ∙ past)
