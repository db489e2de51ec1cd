-- Late wires by places: a node is in a list if its place is below the list's length, and earlier than another if its place is less.
-- Assumes nothing.
use mathlib.Core.Path.{◌≡◌, refl, sym, ap, ap₂, ◌∙◌}
use mathlib.Core.Logic.{◌≢◌}
use Prim.Native.Nat.{ℕ, suc, ◌+◌, ◌<◌}
use native.Mathlib.Decide.{ℕ_discrete}
use native.Mathlib.Omega.{arith}
use mathlib.Core.Bool.{Bool, true, false, cond, not, ◌&&◌}
use mathlib.Core.List.{List, [], ◌∷◌, ◌++◌}
use borrow.Author.Tests.{lt-ltb}
use lib.Dec.{ltb, leb-suc-suc, leb-suc-zero}
use lib.ListN.{length, get_or}
use Rattle.reading.specs.Table.{mem}
use Rattle.reading.specs.Order.{Wire, before, earlier, wire}
use Rattle.reading.proofs.Table.{mem-head, mem_other}
use Rattle.reading.proofs.Order.{before_head, before_other}
use Rattle.boards.specs.Wires.{wire_of, wires_of}
use Rattle.boards.proofs.Wiring.{wires_snoc}
use Rattle.graph.specs.Late.{is_late, late_wires, place, Placed}

-- ---- places

pub place-head : {x v : ℕ} (l : List ℕ) → x ≡ v → place (x ∷ l) v ≡ 0
place-head {x} {v} l e = ap (λ (u : ℕ). place (x ∷ l) u) (sym e) ∙ ap length (before_head x l)

pub place_other : {x v : ℕ} (l : List ℕ) → x ≢ v → place (x ∷ l) v ≡ suc (place l v)
place_other l h = ap length (before_other l h)

mem-place : (l : List ℕ) (v : ℕ) → mem v l ≡ ltb (place l v) (length l)
mem-place [] v = refl
mem-place (x ∷ l) v = pick (ℕ_discrete x v) (mem-place l v)
  where
    pick : Dec (x ≡ v) → mem v l ≡ ltb (place l v) (length l) → mem v (x ∷ l) ≡ ltb (place (x ∷ l) v) (suc (length l))
    pick (yes e) ih =
        ap (λ (u : ℕ). mem u (x ∷ l)) (sym e) ∙ mem-head x l
        ∙ sym (ap (λ (p : ℕ). ltb p (suc (length l))) (place-head l e) ∙ lt-ltb 0 (suc (length l)) (omega arith))
    pick (no h) ih =
        mem_other l (λ e. h (sym e)) ∙ ih
        ∙ sym (ap (λ (p : ℕ). ltb p (suc (length l))) (place_other l h) ∙ leb-suc-suc (suc (place l v)) (length l))

earlier-place : (l : List ℕ) (s t : ℕ) → earlier l s t ≡ ltb (place l s) (place l t)
earlier-place [] s t = refl
earlier-place (x ∷ l) s t = pick (ℕ_discrete x t) (ℕ_discrete x s) (earlier-place l s t)
  where
    pick : Dec (x ≡ t) → Dec (x ≡ s) → earlier l s t ≡ ltb (place l s) (place l t) → earlier (x ∷ l) s t ≡ ltb (place (x ∷ l) s) (place (x ∷ l) t)
    pick (yes e) d ih =
        ap (λ (u : ℕ). earlier (x ∷ l) s u) (sym e) ∙ ap (mem s) (before_head x l)
        ∙ sym (ap (ltb (place (x ∷ l) s)) (place-head l e) ∙ leb-suc-zero (place (x ∷ l) s))
    pick (no h) (yes e) ih =
        ap (mem s) (before_other l h) ∙ ap (λ (u : ℕ). mem u (x ∷ before l t)) (sym e) ∙ mem-head x (before l t)
        ∙ sym (ap₂ ltb (place-head l e) (place_other l h) ∙ lt-ltb 0 (suc (place l t)) (omega arith))
    pick (no h) (no k) ih =
        ap (mem s) (before_other l h) ∙ mem_other (before l t) (λ e. k (sym e)) ∙ ih
        ∙ sym (ap₂ ltb (place_other l k) (place_other l h) ∙ leb-suc-suc (suc (place l s)) (place l t))

-- the three tests of a late wire, on the places of its nodes
late_by_places : (l : List ℕ) (s t : ℕ) → is_late l (wire s t) ≡ (ltb (place l s) (length l) && ltb (place l t) (length l) && not (ltb (place l s) (place l t)))
unfolding is_late
late_by_places l s t = λ i. mem-place l s i && mem-place l t i && not (earlier-place l s t i)

-- on the places p and q that an array holds
pub late_found : (l r : List ℕ) (n s t p q : ℕ) → length l ≡ n → Placed l r → s < 64 → t < 64 → p ≡ get_or r s 0 → q ≡ get_or r t 0
    → (ltb p n && ltb q n && not (ltb p q)) ≡ is_late l (wire s t)
late_found l r n s t p q size placed in-s in-t is_p is_q =
    let here : p ≡ place l s = is_p ∙ placed.at s in-s in
    let there : q ≡ place l t = is_q ∙ placed.at t in-t in
    (λ i. ltb (here i) (sym size i) && ltb (there i) (sym size i) && not (ltb (here i) (there i))) ∙ sym (late_by_places l s t)

-- ---- one wire more

late-append : (l : List ℕ) (xs : List Wire) (w : Wire) → late_wires l (xs ++ (w ∷ [])) ≡ late_wires l xs ++ cond (is_late l w) (w ∷ []) []
unfolding late_wires
late-append l [] w = refl
late-append l (x ∷ xs) w = ap (λ (ys : List Wire). cond (is_late l x) (x ∷ ys) ys) (late-append l xs w) ∙ keep (is_late l x)
  where
    keep : (b : Bool) → cond b (x ∷ (late_wires l xs ++ cond (is_late l w) (w ∷ []) [])) (late_wires l xs ++ cond (is_late l w) (w ∷ []) [])
        ≡ cond b (x ∷ late_wires l xs) (late_wires l xs) ++ cond (is_late l w) (w ∷ []) []
    keep true = refl
    keep false = refl

pub late-more : (l : List ℕ) (ws : List (ℕ × ℕ)) (i : ℕ) (b : Bool) → i < length ws → is_late l (wire_of (get_or ws i (0, 0))) ≡ b
    → late_wires l (wires_of ws (i + 1)) ≡ late_wires l (wires_of ws i) ++ cond b (wire_of (get_or ws i (0, 0)) ∷ []) []
late-more l ws i b h e =
    let w = wire_of (get_or ws i (0, 0)) in
    ap (late_wires l) (wires_snoc ws i h)
    ∙ late-append l (wires_of ws i) w ∙ ap (λ (c : Bool). late_wires l (wires_of ws i) ++ cond c (w ∷ []) []) e
