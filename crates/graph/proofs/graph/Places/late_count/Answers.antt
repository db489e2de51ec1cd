-- `graph::graph::late_count` meets its contract: the wires at which the test of a late wire holds. Assumes nothing.
use mathlib.Core.Path.{◌≡◌, refl, subst⁻¹, ◌∙◌}
use mathlib.Core.Bool.{Bool, true, false, cond}
use mathlib.Core.List.{List, [], ◌∷◌}
use Prim.Native.Nat.{ℕ, zero, suc, ◌≤◌, ◌<◌}
use denote.Ref.{Bor}
use native.Mathlib.Omega.{arith}
use lib.ListN.{length, get_or, take}
use lib.Seq.{length-take-le, get_or-take}
use Rattle.std.proofs.Common.{rules, tests}
use Rattle.std.specs.Prelude.{map}
use Rattle.std.specs.List.{filter}
use Rattle.std.proofs.lemmas.Iterator.{YieldsList-from_slice}
use Rattle.std.proofs.lemmas.Iterator.Adapters.{serves_from_places}
use Rattle.std.proofs.lemmas.Iterator.Consumers.{YieldsList-from_filter, count_from_yields_List}
use Rattle.boards.specs.Wires.{Joined, wire_of}
use Rattle.graph.specs.Late.{is_late, late_wires}
use Rattle.graph.proofs.graph.Places.late_count.Goals as goal

-- the late wires are those at which the test holds
late_filtered : (l : List ℕ) (ps : List (ℕ × ℕ)) → length (filter (λ p. is_late l (wire_of p)) ps) ≡ length (late_wires l (map wire_of ps))
unfolding late_wires
late_filtered l [] = refl
late_filtered l (p ∷ ps) = go (is_late l (wire_of p)) (late_filtered l ps)
  where
    go : (b : Bool) → length (filter (λ p. is_late l (wire_of p)) ps) ≡ length (late_wires l (map wire_of ps))
        → length (cond b (p ∷ filter (λ p. is_late l (wire_of p)) ps) (filter (λ p. is_late l (wire_of p)) ps))
        ≡ length (cond b (wire_of p ∷ late_wires l (map wire_of ps)) (late_wires l (map wire_of ps)))
    go true e = omega (arith, e)
    go false e = e

-- past no end, whatever stands there
there : {X : Type 0} (l : List X) (k : ℕ) (d e : X) → k < length l → get_or l k d ≡ get_or l k e
there [] k d e h = absurd (omega arith)
there (y ∷ l) zero d e h = refl
there (y ∷ l) (suc k) d e h = there l k d e (omega arith)

ends_below : (n : ℕ) (l : List (ℕ × ℕ)) → Joined 64 l n → n ≤ length l → (x : ℕ × ℕ) (k : ℕ) → k < length (take n l) → x ≡ get_or (take n l) k x
    → (x.0 < 64) × (x.1 < 64)
ends_below n l joined long x k b e =
    let inside : k < n = omega (arith, length-take-le n l long) in
    let same : x ≡ get_or l k (0, 0) = e ∙ get_or-take n l k x inside ∙ there l k x (0, 0) (omega arith) in
    subst⁻¹ (λ (p : ℕ × ℕ). (p.0 < 64) × (p.1 < 64)) same (joined k inside)

pub count-requires-clause-can : goal.count-requires-clause-can
count-requires-clause-can c =
    let ws = c.args.wires.now in (
      tt,
      tt,
      serves_from_places (YieldsList-from_slice (take ws.count ws.list) cc) (λ x q k. search (rules, tests))
          (λ x k b e. let f = ends_below ws.count ws.list ws.joined (omega (arith, ws.few, ws.long)) x.now k b e in
          λ y is. let g : (y.now.now.0 < 64) × (y.now.now.1 < 64) = subst⁻¹ (λ (z : Bor (ℕ × ℕ)). (z.now.0 < 64) × (z.now.1 < 64)) is f in search (rules, tests, g.0, g.1)),
    )

pub returns : goal.returns
returns c l size placed =
    let ws = c.args.wires.now in
    count_from_yields_List _ _ c.count.ensures.ran
    (YieldsList-from_filter _ (λ p. is_late l (wire_of p)) (YieldsList-from_slice (take ws.count ws.list) cc) c.filter.ensures.closure (λ x r q k. search (rules, tests, size, placed)))
    ∙ late_filtered l (take ws.count ws.list)
