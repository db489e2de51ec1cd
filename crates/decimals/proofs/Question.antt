-- What `ok_or(..)?` says of the Option, where it goes on and where it returns. Assumes nothing.
use mathlib.Core.Path.{◌≡◌, refl}
use Rattle.std.specs.Prelude.{Option, Some, None, Result, Ok, Err, ok_or, IsErr, IsErrAnd, MatchResult}

pub went_on : {A E : Type 0} (o : Option A) (e : E) {x : A} → Ok x ≡ ok_or o e → Some x ≡ o
went_on None e h = absurd (cc)
went_on (Some y) e h = cc

pub returned : {A B E : Type 0} (o : Option A) (r : Result B E) (e : E) {y : E} → Err y ≡ ok_or o e → IsErr r × IsErrAnd r (λ x. x ≡ y) → (o ≡ None) × (r ≡ Err e)
returned (Some y) r e h i = absurd (cc)
returned None (Ok x) e h i = absurd (cc)
returned None (Err x) e h i = (refl, cc)

-- what `map_err` says of the Result, for a closure that makes f's errors
module _ {A E D : Type 0} (P : E → D → Type 0) (f : E → D) (makes : (e : E) (d : D) → P e d → d ≡ f e) (r : Result A E) (m : Result A D)
    (cases : MatchResult r (λ x. m ≡ Ok x) (λ e. IsErrAnd m (P e))) where
  pub mapped_on : {x : A} → m ≡ Ok x → r ≡ Ok x
  mapped_on h = pick r m cases h
    where
      pick : (r : Result A E) (m : Result A D) → MatchResult r (λ x. m ≡ Ok x) (λ e. IsErrAnd m (P e)) → {x : A} → m ≡ Ok x → r ≡ Ok x
      pick (Ok y) m c h = cc
      pick (Err e) (Ok y) c h = absurd c
      pick (Err e) (Err d) c h = absurd (cc)

  pub mapped_back : {B : Type 0} {d : D} (out : Result B D) → m ≡ Err d → IsErr out × IsErrAnd out (λ x. x ≡ d) → (e : E) × (r ≡ Err e) × (out ≡ Err (f e))
  mapped_back out h i = pick r m cases out h i
    where
      pick : {B : Type 0} {d : D} (r : Result A E) (m : Result A D) → MatchResult r (λ x. m ≡ Ok x) (λ e. IsErrAnd m (P e)) → (out : Result B D) → m ≡ Err d
          → IsErr out × IsErrAnd out (λ x. x ≡ d) → (e : E) × (r ≡ Err e) × (out ≡ Err (f e))
      pick (Ok y) m c out h i = absurd (cc)
      pick (Err e) (Ok y) c out h i = absurd c
      pick (Err e) (Err d') c (Ok b) h i = absurd (cc)
      pick (Err e) (Err d') c (Err b) h i = (e, refl, (let makes' = makes e d' c in cc))
