-- The names of nodes: bytes of a name, and the first node with a name. Assumes nothing.
use mathlib.Core.Path.{◌≡◌, refl, sym, ap, ◌∙◌}
use mathlib.Core.Bool.{Bool, true, false, cond, ◌&&◌}
use mathlib.Core.List.{List, [], ◌∷◌}
use Prim.Native.Nat.{ℕ, ◌+◌}
use Rattle.std.specs.List.{list_all}
use Rattle.std.specs.Prelude.{Option, Some, None, MatchOption, unwrap_or, is_some, not, take, drop}
use Rattle.std.specs.Option.{UnwrapsOrElse}
use Rattle.text.specs.Words.{nth_word}
use Rattle.card_lines.specs.Names.{alike}
use Rattle.card_lines.specs.Labels.{is_inner, all_inner, bare, is_label, label_of, nodes_in, node_named, mark, unmarked}

-- ---- the bytes of a name

pub all_inside : (s : List ℕ) → list_all is_inner s ≡ all_inner s
unfolding all_inner
all_inside [] = refl
all_inside (c ∷ s) = pick (is_inner c) (all_inside s)
  where
    pick : (b : Bool) → list_all is_inner s ≡ all_inner s → (b && list_all is_inner s) ≡ cond b (all_inner s) false
    pick true e = e
    pick false e = refl

-- ---- the name that a line gives, or none

pub labelled : {A : Type 0} (P : A → Type 0) (r : Option A) (b none : Bool) → is_some r ≡ not none → MatchOption r (b ≡ false) (λ x. (b ≡ true) × P x) → b ≡ not none
labelled P None b none e m = m ∙ e
labelled P (Some x) b none e m = m.0 ∙ e

unlabelled : (s : List ℕ) → is_label (nth_word 0 s) ≡ false → label_of s ≡ []
unfolding label_of
unlabelled s e = rw e

-- the name, or an empty one
pub label_now : {A : Type 0} (now : A → List ℕ) (r : Option A) (name : A) (s : List ℕ)
    → MatchOption r (is_label (nth_word 0 s) ≡ false) (λ x. (is_label (nth_word 0 s) ≡ true) × (now x ≡ label_of s)) → UnwrapsOrElse r (λ x. now x ≡ []) name → now name ≡ label_of s
label_now now None name s m u = u ∙ sym (unlabelled s m)
label_now now (Some x) name s m u = ap now u ∙ m.1

-- ---- a text without its mark: what is behind it, or all

pub without_mark : {A : Type 0} (now : A → List ℕ) (P : A → Type 0) (r : Option A) (result all : A) (text : List ℕ) → result ≡ unwrap_or r all → now all ≡ text
    → MatchOption r (alike (take 3 text) mark ≡ false) (λ x. (alike (take 3 text) mark ≡ true) × (now x ≡ drop 3 text) × P x) → now result ≡ unmarked text
without_mark now P None result all text e is m = ap now e ∙ is ∙ sym (ap (λ (b : Bool). drop (cond b 3 0) text) m)
without_mark now P (Some x) result all text e is m = ap now e ∙ m.1 ∙ sym (ap (λ (b : Bool). drop (cond b 3 0) text) m.0)

-- ---- the first node with a name

module _ (name : List ℕ) (k : ℕ) (line : List ℕ) (ls : List (List ℕ)) where
  pub named_here : alike (label_of (bare line)) name ≡ true → Some k ≡ node_named name k (line ∷ ls)
  unfolding node_named
  named_here e = rw e

  pub named_on : alike (label_of (bare line)) name ≡ false → node_named name (k + nodes_in (bare line)) ls ≡ node_named name k (line ∷ ls)
  unfolding node_named
  named_on e = rw e

pub named_none : (name : List ℕ) (k : ℕ) (ls : List (List ℕ)) → ls ≡ [] → None ≡ node_named name k ls
unfolding node_named
named_none name k ls e = rw e
