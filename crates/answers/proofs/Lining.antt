-- Each line of a text is a part of it. Assumes nothing.
use mathlib.Core.Path.{◌≡◌, refl, sym, ap, subst}
use mathlib.Core.Bool.{Bool, true, false, cond}
use mathlib.Core.List.{List, [], ◌∷◌, ◌++◌}
use Prim.Native.Nat.{ℕ, zero, suc, ◌<◌, ◌≤◌}
use native.Mathlib.Omega.{arith}
use lib.Dec.{eqb}
use lib.ListN.{length, get_or}
use denote.Ref.{Bor}
use Rattle.std.proofs.Common.{Option, Some, None}
use Rattle.std.specs.Option.{IfSome, IsSomeAnd, option_map}
use Rattle.text.specs.Words.{on_first, lines_of}
use Rattle.answers.specs.Part.{IsPart}

-- the first of some lines, if there is one, is where the text begins
abbrev Begins : List ℕ → List (List ℕ) → Type 0
Begins s [] = Unit {0}
Begins s (l ∷ ls) = (after : List ℕ) × (s ≡ l ++ after)

-- each of some lines is a part of the text
abbrev AllParts : List ℕ → List (List ℕ) → Type 0
AllParts s [] = Unit {0}
AllParts s (l ∷ ls) = IsPart s l × AllParts s ls

-- a part of a text is a part of the text with a byte before it
further : (c : ℕ) (s l : List ℕ) → IsPart s l → IsPart (c ∷ s) l
further c s l p = record { before = c ∷ p.before; after = p.after; whole = ap (λ (x : List ℕ). c ∷ x) p.whole }

all_further : (c : ℕ) (s : List ℕ) (ls : List (List ℕ)) → AllParts s ls → AllParts (c ∷ s) ls
all_further c s [] h = tt
all_further c s (l ∷ ls) h = (further c s l h.0, all_further c s ls h.1)

lines_lie : (s : List ℕ) → Begins s (lines_of s) × AllParts s (lines_of s)
unfolding lines_of
lines_lie [] = (tt, tt)
lines_lie (c ∷ s) = pick (eqb c 10) (lines_of s) (lines_lie s)
  where
    pick : (b : Bool) (ls : List (List ℕ)) → Begins s ls × AllParts s ls
        → Begins (c ∷ s) (cond b ([] ∷ ls) (on_first c ls)) × AllParts (c ∷ s) (cond b ([] ∷ ls) (on_first c ls))
    pick true ls h = ((c ∷ s, refl), (record { before = []; after = c ∷ s; whole = refl }, all_further c s ls h.1))
    pick false [] h = ((s, refl), (record { before = []; after = s; whole = refl }, tt))
    pick false (l ∷ ls) h =
        let e : c ∷ s ≡ (c ∷ l) ++ h.0.0 = ap (λ (x : List ℕ). c ∷ x) h.0.1 in
        ((h.0.0, e), (record { before = []; after = h.0.0; whole = e }, all_further c s ls h.1.1))

at_place : (s : List ℕ) (ls : List (List ℕ)) (k : ℕ) (d : List ℕ) → k < length ls → AllParts s ls → IsPart s (get_or ls k d)
at_place s [] k d h a = absurd (omega arith)
at_place s (l ∷ ls) zero d h a = a.0
at_place s (l ∷ ls) (suc k) d h a = at_place s ls k d (omega arith) a.1

-- line k of a text
pub line_part : (s l : List ℕ) (k : ℕ) → k < length (lines_of s) → l ≡ get_or (lines_of s) k l → IsPart s l
line_part s l k h e = let P : List ℕ → Type 0 = λ x. IsPart s x in subst P (sym e) (at_place s (lines_of s) k l h (lines_lie s).1)

-- line j of a text, found with its number where a run over the lines stood at place j
module _ (text : List ℕ) (i : ℕ) (line : Bor (List ℕ)) where
  read : (j : ℕ) (o : Option (ℕ × Bor (List ℕ))) (r : Option (Bor (List ℕ))) → IsSomeAnd o (λ y. y ≡ (i, line)) → r ≡ option_map (λ y. y.1) o
      → IfSome r (λ l. l.now ≡ get_or (lines_of text) j l.now) → line.now ≡ get_or (lines_of text) j line.now
  read j None r h e f = absurd h
  read j (Some y) r h e f =
      let P : Option (Bor (List ℕ)) → Type 0 = λ o. IfSome o (λ l. l.now ≡ get_or (lines_of text) j l.now) in
      let Q : ℕ × Bor (List ℕ) → Type 0 = λ z. z.1.now ≡ get_or (lines_of text) j z.1.now in
      subst Q h (subst P e f)

  pub numbered_part : (found : Option (ℕ × Bor (List ℕ))) (numbered : ℕ → Option (ℕ × Bor (List ℕ))) (lines : ℕ → Option (Bor (List ℕ))) (len : ℕ)
      → found ≡ Some (i, line) → IfSome found (λ x. (j : ℕ) × (j < len) × IsSomeAnd (numbered j) (λ y. y ≡ x))
      → ((k : ℕ) → lines k ≡ option_map (λ y. y.1) (numbered k)) → len ≤ length (lines_of text)
      → ((k : ℕ) → IfSome (lines k) (λ l. l.now ≡ get_or (lines_of text) k l.now)) → IsPart text line.now
  numbered_part found numbered lines len e at names long reads =
      let P : Option (ℕ × Bor (List ℕ)) → Type 0 = λ o. IfSome o (λ x. (j : ℕ) × (j < len) × IsSomeAnd (numbered j) (λ y. y ≡ x)) in
      let here = subst P e at in
      line_part text line.now here.0 (omega (arith, here.1)) (read here.0 (numbered here.0) (lines here.0) here.2 (names here.0) (reads here.0))
