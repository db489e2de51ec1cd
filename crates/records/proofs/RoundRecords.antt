-- The record that `found_at` finds at an offset, by the bytes b from there on: which bytes make it find a kind (`found_in_lem`), and what the
-- bytes are where it found one (`found_told`). Assumes nothing.
use Prim.Native.Nat.{ℕ, ◌+◌, ◌-◌, ◌≤◌, ◌<◌}
use mathlib.Core.Path.{◌≡◌, refl, sym, ap, subst, ◌∙◌}
use mathlib.Core.Logic.{◌⊎◌, inl, inr, ⊎_elim}
use mathlib.Core.List.{List}
use mathlib.Core.Bool.{Bool, true, cond, ◌&&◌, ◌||◌}
use native.Mathlib.Omega.{arith}
use borrow.Author.Tests.{ltb-false, le-ltb, leb-true, eqb-true, eqb-false}
use lib.ListN.{length, drop, length-drop}
use lib.Dec.{ltb, leb, eqb}
use Rattle.std.specs.Prelude.{Result, Ok, Err}
use Rattle.values.specs.Bytes.{u16_at}
use Rattle.records.specs.Record.{in_order, sized, found_of, found_at}
use Rattle.records.specs.declared.record.Found.{Found}
use Rattle.records.specs.declared.record.Found.TheVariants.{Head, Node, Wire, End}
use Rattle.reading.proofs.Choice.{pick, both, neither}
use Rattle.records.proofs.RoundBytes.{u16_on}

-- ---- by the bytes from the offset on

-- `found_at` at offset 0 of the part
abbrev found_in : List ℕ → ℕ → Result Found ℕ
found_in b last =
    cond (ltb (length b) 4 || ltb (length b) (u16_at b 0)) (Err 1)
    (cond (in_order last (u16_at b 2)) (found_of (u16_at b 2) (u16_at b 0)) (Err 2))

found_part : (s : List ℕ) (at last : ℕ) → found_at s at last ≡ found_in (drop at s) last
unfolding found_at
found_part s at last =
    let l : length s - at ≡ length (drop at s) = sym (length-drop at s) in
    let z : u16_at s at ≡ u16_at (drop at s) 0 = u16_on s at 0 at (omega arith) in
    let k : u16_at s (at + 2) ≡ u16_at (drop at s) 2 = u16_on s at 2 (at + 2) refl in
    λ i. cond (ltb (l i) 4 || ltb (l i) (z i)) (Err 1) (cond (in_order last (k i)) (found_of (k i) (z i)) (Err 2))

-- a whole record of kind k and length z, where kind k may stand
pub found_in_lem : (s : List ℕ) (at last : ℕ) (b : List ℕ) (k z : ℕ) → drop at s ≡ b → u16_at b 0 ≡ z → u16_at b 2 ≡ k → 4 ≤ length b
    → z ≤ length b → in_order last k ≡ true → found_at s at last ≡ found_of k z
found_in_lem s at last b k z eb ez ek l₄ lz o =
    found_part s at last ∙ ap (λ (x : List ℕ). found_in x last) eb
    ∙ (λ i. cond (le-ltb (length b) 4 l₄ i || ltb (length b) (ez i)) (Err 1) (cond (in_order last (ek i)) (found_of (ek i) (ez i)) (Err 2)))
    ∙ (λ i. cond (le-ltb (length b) z lz i) (Err 1) (cond (o i) (found_of k z) (Err 2)))

-- ---- what was found

-- the length and the kind that stand in the bytes, and that all of them are there
pub record Stands (b : List ℕ) (k z : ℕ) : Type 0 where
  pub long : z ≤ length b
  pub length_is : u16_at b 0 ≡ z
  pub kind_is : u16_at b 2 ≡ k

abbrev pub Told : List ℕ → ℕ → Result Found ℕ → Type 0
Told b last (Ok Head) = Stands b 1 8 × (last ≡ 0)
Told b last (Ok Node) = Stands b 2 14 × (1 ≤ last) × (last ≤ 2)
Told b last (Ok Wire) = Stands b 3 8 × (1 ≤ last)
Told b last (Ok End) = Stands b 4 4 × (1 ≤ last)
Told b last (Err n) = 0 < n

-- what `in_order` says
abbrev Ordered : ℕ → ℕ → Type 0
Ordered last k = ((last ≡ 0) × (k ≡ 1)) ⊎ ((1 ≤ last) × (2 ≤ k) × (last ≤ k) × (k ≤ 4))

order_told : (last k : ℕ) → in_order last k ≡ true → Ordered last k
order_told last k =
    pick (λ (b : Bool). b ≡ true → Ordered last k) (eqb last 0) _ _ (λ e h. inl (eqb-true last 0 e, eqb-true k 1 h))
    (λ e h. let two = both (leb 2 k && leb last k) (leb k 4) h in
    let one = both (leb 2 k) (leb last k) two.0 in
    inr (omega (arith, eqb-false last 0 e), leb-true 2 k one.0, leb-true last k one.1, leb-true k 4 two.1))

module _ (b : List ℕ) (last : ℕ) where
  -- a record of kind k whose length is that of its kind
  sized_told : (k n : ℕ) (f : Found) → u16_at b 2 ≡ k → u16_at b 0 ≤ length b → (Stands b k n → Told b last (Ok f)) → Told b last (sized (u16_at b 0) n f)
  sized_told k n f e l h =
      pick (Told b last) (eqb (u16_at b 0) n) (Ok f) (Err 1)
      (λ q. let z = eqb-true (u16_at b 0) n q in h (record { long = omega arith; length_is = z; kind_is = e }))
      (λ _. omega arith)

  kind_told : u16_at b 0 ≤ length b → Ordered last (u16_at b 2) → Told b last (found_of (u16_at b 2) (u16_at b 0))
  unfolding found_of
  kind_told l o =
      let k = u16_at b 2 in
      pick (Told b last) (eqb k 1) _ _
      (λ e. let q = eqb-true k 1 e in sized_told 1 8 Head q l (λ h. (h, ⊎_elim (λ w. w.0) (λ w. absurd (omega arith)) o)))
      (λ e₁. pick (Told b last) (eqb k 2) _ _
      (λ e. let q = eqb-true k 2 e in sized_told 2 14 Node q l (λ h. ⊎_elim (λ w. absurd (omega arith)) (λ w. (h, w.0, omega arith)) o))
      (λ e₂. pick (Told b last) (eqb k 3) _ _
      (λ e. let q = eqb-true k 3 e in sized_told 3 8 Wire q l (λ h. ⊎_elim (λ w. absurd (omega arith)) (λ w. (h, w.0)) o))
      (λ e₃. ⊎_elim (λ w. absurd (eqb-false k 1 e₁ w.1))
      (λ w. sized_told 4 4 End (omega (arith, eqb-false k 2 e₂, eqb-false k 3 e₃)) l (λ h. (h, w.0))) o)))

  part_told : Told b last (found_in b last)
  part_told =
      pick (Told b last) (ltb (length b) 4 || ltb (length b) (u16_at b 0)) _ _ (λ _. omega arith)
      (λ e. pick (Told b last) (in_order last (u16_at b 2)) _ _
      (λ o. kind_told (ltb-false (length b) (u16_at b 0) (neither (ltb (length b) 4) _ e).1) (order_told last (u16_at b 2) o)) (λ _. omega arith))

pub found_told : (s : List ℕ) (at last : ℕ) (f : Result Found ℕ) → found_at s at last ≡ f → Told (drop at s) last f
found_told s at last f e = subst (Told (drop at s) last) (sym (found_part s at last) ∙ e) (part_told (drop at s) last)
