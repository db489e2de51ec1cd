-- The newest wire from one node to another, by its place. Assumes nothing.
use Prim.Native.Nat.{ℕ, zero, suc, ◌<◌}
use mathlib.Core.Path.{◌≡◌, refl, sym, ap, ◌∙◌}
use mathlib.Core.Bool.{Bool, true, false, cond, ◌||◌, ◌&&◌}
use mathlib.Core.List.{List, [], ◌∷◌}
use native.Mathlib.Omega.{arith}
use borrow.Author.Tests.{eq-eqb, eqb-true}
use lib.Dec.{eqb}
use lib.ListN.{length, get_or, take, length-append}
use lib.Seq.{take_at}
use Rattle.std.specs.Prelude.{map, Option, Some, None, IfSome, IsNone, is_some}
use Rattle.std.proofs.lemmas.List.{take-map}
use Rattle.reading.specs.Order.{Wire, wire}
use Rattle.reading.proofs.Table.{or_right}
use Rattle.boards.specs.Wires.{wire_of}
use Rattle.carrying.specs.Carried.{joins, wired, older, newer}
use Rattle.wiring.specs.Rewiring.{newest_place}
use Rattle.carrying.proofs.Wires.{newest}

-- wire k of the array leads from s to t
abbrev pub Joins : List (ℕ × ℕ) → ℕ → ℕ → ℕ → Type 0
Joins l s t k = ((get_or l k (0, 0)).0 ≡ s) × ((get_or l k (0, 0)).1 ≡ t)

other : (x y s t : ℕ) → ((x ≡ s) × (y ≡ t) → ⊥) → (eqb x s && eqb y t) ≡ false
other x y s t h = pick (eqb x s) (eqb y t) refl refl
  where
    pick : (a b : Bool) → eqb x s ≡ a → eqb y t ≡ b → (a && b) ≡ false
    pick true true p q = absurd (h (eqb-true x s p, eqb-true y t q))
    pick true false p q = refl
    pick false b p q = refl

none_there : (l : List (ℕ × ℕ)) (s t : ℕ) → ((k : ℕ) → k < length l → Joins l s t k → ⊥) → wired (map wire_of l) s t ≡ false
none_there [] s t h = refl
none_there (p ∷ l) s t h =
    (λ i. other p.0 p.1 s t (h 0 (omega arith)) i || none_there l s t (λ k b. h (suc k) (omega arith)) i)

-- a wire is the newest if none behind it is like it
newest_at : (l : List (ℕ × ℕ)) (s t i : ℕ) → i < length l → Joins l s t i → ((k : ℕ) → i < k → k < length l → Joins l s t k → ⊥)
    → (wired (map wire_of l) s t ≡ true) × (length (older (map wire_of l) s t) ≡ i)
newest_at [] s t i h j n = absurd (omega arith)
newest_at (p ∷ l) s t zero h j n = (
  (λ i. (eq-eqb p.0 s j.0 i && eq-eqb p.1 t j.1 i) || wired (map wire_of l) s t),
  ap (λ (b : Bool). length (cond b (wire_of p ∷ older (map wire_of l) s t) [])) (none_there l s t (λ k b. n (suc k) (omega arith) (omega arith))),
)
newest_at (p ∷ l) s t (suc i) h j n =
    let ih = newest_at l s t i (omega arith) j (λ k a b. n (suc k) (omega arith) (omega arith)) in (
      or_right (joins s t (wire_of p)) ih.0,
      ap (λ (b : Bool). length (cond b (wire_of p ∷ older (map wire_of l) s t) [])) ih.0 ∙ ap suc ih.1,
    )

-- so an option that says where the newest is, is its place
pub newest_by : (l : List (ℕ × ℕ)) (s t : ℕ) (o : Option ℕ) → IfSome o (λ i. i < length l) → IfSome o (λ i. Joins l s t i)
    → IfSome o (λ i. (k : ℕ) → i < k → k < length l → Joins l s t k → ⊥) → (IsNone o → (k : ℕ) → k < length l → Joins l s t k → ⊥)
    → o ≡ newest_place (map wire_of l) s t
newest_by l s t (Some i) within is last none =
    let e = newest_at l s t i within is last in
    sym (ap (λ (b : Bool). cond b (Some (length (older (map wire_of l) s t))) None) e.0 ∙ ap Some e.1)
newest_by l s t None within is last none =
    sym (ap (λ (b : Bool). cond b (Some (length (older (map wire_of l) s t))) None) (none_there l s t (none refl)))

-- ---- the newest wire's place, if there is one

pub record Found (ws : List Wire) (s t i : ℕ) : Type 0 where
  pub there : wired ws s t ≡ true
  pub inside : i < length ws
  pub place_is : i ≡ length (older ws s t)

pub found : (ws : List Wire) (s t i : ℕ) → newest_place ws s t ≡ Some i → Found ws s t i
found ws s t i h = go (wired ws s t) refl h
  where
    go : (b : Bool) → wired ws s t ≡ b → cond b (Some (length (older ws s t))) None ≡ Some i → Found ws s t i
    go true e h =
        let is : i ≡ length (older ws s t) = cc in
        record { there = e; inside = omega (arith, is, ap length (newest ws s t e), length-append (older ws s t) (wire s t ∷ newer ws s t)); place_is = is }
    go false e h = absurd (cc)

-- there is one, or none
pub some_there : (ws : List Wire) (s t : ℕ) (b : Bool) → is_some (newest_place ws s t) ≡ b → wired ws s t ≡ b
some_there ws s t b h = go (wired ws s t) refl h
  where
    go : (c : Bool) → wired ws s t ≡ c → is_some (cond c (Some (length (older ws s t))) None) ≡ b → wired ws s t ≡ b
    go true e h = e ∙ h
    go false e h = e ∙ h

pub none_found : (ws : List Wire) (s t : ℕ) → newest_place ws s t ≡ None → wired ws s t ≡ false
none_found ws s t h = some_there ws s t false (ap is_some h)

-- those older than the newest wire from s to t are the first ones
pub older_wires : (l : List (ℕ × ℕ)) (s t : ℕ) → wired (map wire_of l) s t ≡ true
    → map wire_of (take (length (older (map wire_of l) s t)) l) ≡ older (map wire_of l) s t
older_wires l s t e =
    let ws = map wire_of l in
    let a = older ws s t in
    sym (take-map wire_of (length a) l)
    ∙ ap (take (length a)) (newest ws s t e) ∙ take_at a (wire s t ∷ newer ws s t) (length a) refl
