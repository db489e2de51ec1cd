-- `sources::sources::among` meets its contract: the numbers of the part, one after the other. Assumes nothing.
use Rattle.std.specs.Prelude.{ℕ, zero, suc, ◌+◌, ◌-◌, ◌≤◌, ◌<◌, ◌≡◌, List, [], ◌∷◌, Bool, true, false, length, get_or, take, drop, eqb}
use Rattle.std.specs.List.{list_any}
use Rattle.std.proofs.lemmas.List.Folds.{list_any-append}
use mathlib.Core.Path.{refl, sym, ap, ◌∙◌}
use mathlib.Core.Bool.{or-false}
use native.Mathlib.Omega.{arith}
use borrow.Author.Tests.{eqb-true, eqb-false, eq-eqb, ne_eqb}
use lib.ListN.{length-drop}
use lib.Seq.{take-suc, get_or-drop}
use Rattle.sources.specs.Gather.{among}
use Rattle.sources.proofs.sources.among.Goals as goal

same : (a b : ℕ) → eqb a b ≡ eqb b a
same a b = go (eqb b a) refl
  where
    go : (t : Bool) → eqb b a ≡ t → eqb a b ≡ eqb b a
    go true e = eq-eqb a b (sym (eqb-true b a e)) ∙ sym e
    go false e = ne_eqb a b (λ q. eqb-false b a e (sym q)) ∙ sym e

any_among : (l : List ℕ) (start n x : ℕ) → start + n ≤ length l → list_any (λ y. eqb y x) (take n (drop start l)) ≡ among l start n x
unfolding among
any_among l start zero x h = refl
any_among l start (suc n) x h =
    let d = drop start l in
    let inside : n < length d = omega (arith, length-drop start l) in
    ap (list_any (λ y. eqb y x)) (take-suc d n 0 inside) ∙ list_any-append (λ y. eqb y x) (take n d) (get_or d n 0 ∷ [])
    ∙ rw (or-false, get_or-drop start l n 0, same (get_or l (start + n) 0) x, any_among l start n x (omega arith))

pub returns : goal.returns
returns c =
    let a = c.args in
    let long : a.start + a.n - a.start ≡ a.n = omega arith in
    c.contains.ensures.value ∙ ap (λ (k : ℕ). list_any (λ y. eqb y a.x) (take k (drop a.start a.lists.now))) long
    ∙ any_among a.lists.now a.start a.n a.x (omega arith)
