-- Tests, and lists cut at a node.
-- Assumes nothing.
use mathlib.Core.Path.{◌≡◌, refl, sym, ap, ◌∙◌}
use Prim.Native.Nat.{ℕ}
use mathlib.Core.Bool.{Bool, true, false, cond, ◌||◌, true≢false, false≢true}
use mathlib.Core.List.{List, [], ◌∷◌, ◌++◌}
use lib.Dec.{eqb}
use borrow.Author.Tests.{eq-eqb, eqb-true}
use Rattle.std.proofs.Math.Bool.{or_assoc, or_comm}
use Rattle.std.proofs.lemmas.Bool.{or_parts}
use Rattle.reading.specs.Table.{mem}
use Rattle.reading.proofs.Table.{or_right}
use Rattle.carrying.specs.Carried.{through, up_to, past}

-- ---- tests

pub or_one : {C : Type 0} (a b : Bool) → (a || b) ≡ true → (a ≡ true → C) → (b ≡ true → C) → C
or_one true b e f g = f refl
or_one false b e f g = g e

pub not_both : {C : Type 0} {a : Bool} → a ≡ true → a ≡ false → C
not_both e f = absurd (true≢false (sym e ∙ f))

pub or_turned : (a b c : Bool) → (a || (b || c)) ≡ (b || a || c)
or_turned a b c = sym (or_assoc a b c) ∙ ap (λ (d : Bool). d || c) (or_comm a b)

pub or_swap : (a b c : Bool) → (a || (b || c)) ≡ (b || (a || c))
or_swap a b c = or_turned a b c ∙ or_assoc b a c

-- ---- members

pub mem-append : (j : ℕ) (a b : List ℕ) → mem j (a ++ b) ≡ (mem j a || mem j b)
mem-append j [] b = refl
mem-append j (x ∷ a) b = ap (λ (c : Bool). eqb j x || c) (mem-append j a b) ∙ sym (or_assoc (eqb j x) (mem j a) (mem j b))

pub mem_one : (j k : ℕ) → mem j (k ∷ []) ≡ true → j ≡ k
mem_one j k e = or_one (eqb j k) false e (λ t. eqb-true j k t) (λ f. absurd (false≢true f))

-- not a member of either part
pub mem_parts : (j : ℕ) (a b : List ℕ) → mem j (a ++ b) ≡ false → (mem j a ≡ false) × (mem j b ≡ false)
mem_parts j a b e = or_parts (mem j a) (mem j b) (sym (mem-append j a b) ∙ e)

pub mem_neither : (j : ℕ) (a b : List ℕ) → mem j a ≡ false → mem j b ≡ false → mem j (a ++ b) ≡ false
mem_neither j a b e f = mem-append j a b ∙ ap (λ (c : Bool). c || mem j b) e ∙ f

pub mem_either : {C : Type 0} (j : ℕ) (a b : List ℕ) → mem j (a ++ b) ≡ true → (mem j a ≡ true → C) → (mem j b ≡ true → C) → C
mem_either j a b e f g = or_one (mem j a) (mem j b) (sym (mem-append j a b) ∙ e) f g

pub mem_second : (j : ℕ) (a b : List ℕ) → mem j b ≡ true → mem j (a ++ b) ≡ true
mem_second j a b e = mem-append j a b ∙ or_right (mem j a) e

-- ---- a list cut at the node k, which is not before the cut

pub up_to_at : (k : ℕ) (a r : List ℕ) → mem k a ≡ false → up_to k (a ++ (k ∷ r)) ≡ a ++ (k ∷ [])
up_to_at k [] r e = ap (λ (b : Bool). cond b (k ∷ []) (k ∷ up_to k r)) (eq-eqb k k refl)
up_to_at k (x ∷ a) r e =
    let h = or_parts (eqb k x) (mem k a) e in
    ap (λ (b : Bool). cond b (x ∷ []) (x ∷ up_to k (a ++ (k ∷ r)))) h.0 ∙ ap (λ (l : List ℕ). x ∷ l) (up_to_at k a r h.1)

pub past_at : (k : ℕ) (a r : List ℕ) → mem k a ≡ false → past k (a ++ (k ∷ r)) ≡ r
past_at k [] r e = ap (λ (b : Bool). cond b r (past k r)) (eq-eqb k k refl)
past_at k (x ∷ a) r e =
    let h = or_parts (eqb k x) (mem k a) e in
    ap (λ (b : Bool). cond b (a ++ (k ∷ r)) (past k (a ++ (k ∷ r)))) h.0 ∙ past_at k a r h.1

-- ---- steps for each node

pub through-append : {A : Type 0} (g : ℕ → A → A) (a b : List ℕ) (x : A) → through g (a ++ b) x ≡ through g b (through g a x)
through-append g [] b x = refl
through-append g (k ∷ a) b x = through-append g a b (g k x)
