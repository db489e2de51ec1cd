-- Runs of stores, `sets` of `lib.Seq`, one behind the other. Assumes nothing.
use mathlib.Core.Path.{◌≡◌, sym, ap, ◌∙◌}
use mathlib.Core.List.{List, [], ◌∷◌, ◌++◌, append-nil, append_assoc}
use Prim.Native.Nat.{ℕ, suc, ◌+◌, ◌*◌, ◌≤◌, ◌<◌}
use native.Mathlib.Nat.{mul-zero, mul-suc, add_comm}
use native.Mathlib.Numerals.{add-one}
use native.Mathlib.Omega.{arith}
use lib.ListN.{length, get_or, set, take, drop, drop_of_length-le, length-append}
use lib.Seq.{sets, sets-eq, length-take-le, take-suc, take_all}

module _ {A : Type 0} where
  -- a second run that starts where the first ends
  pub sets_then : (l : List A) (i j : ℕ) (xs ys : List A) → i + length xs ≡ j → sets (sets l i xs) j ys ≡ sets l i (xs ++ ys)
  sets_then l i j [] ys e = let q : j ≡ i = omega arith in ap (λ (k : ℕ). sets l k ys) q
  sets_then l i j (x ∷ xs) ys e = sets_then (set l i x) (suc i) j xs ys (omega arith)

  -- a run over the whole list
  pub sets_all : (l vs : List A) → length vs ≡ length l → sets l 0 vs ≡ vs
  sets_all l vs e =
      let gone : length l ≤ 0 + length vs → drop (0 + length vs) l ≡ [] = drop_of_length-le l in
      let h : 0 + length vs ≤ length l = omega arith in
      sets-eq vs l 0 h ∙ ap (λ (r : List A). vs ++ r) (gone (omega arith)) ∙ append-nil vs

  -- the same, of what one call after the other left
  pub next : (l : List A) {m n : List A} (i j : ℕ) (xs ys : List A) → i + length xs ≡ j → m ≡ sets l i xs → n ≡ sets m j ys → n ≡ sets l i (xs ++ ys)
  next l i j xs ys q e f = f ∙ ap (λ (k : List A). sets k j ys) e ∙ sets_then l i j xs ys q

-- ---- a loop that writes w bytes for each element of a list: `enc` of the elements before i is written from `at` on

module _ {D : Type 0} (enc : List D → List ℕ) (one : D → List ℕ) (w : ℕ) (none : enc [] ≡ [])
    (more : (x : D) (xs : List D) → enc (x ∷ xs) ≡ one x ++ enc xs) (long : (x : D) → length (one x) ≡ w) where
  pub enc_length : (xs : List D) → length (enc xs) ≡ w * length xs
  enc_length [] = ap length none ∙ sym (mul-zero w)
  enc_length (x ∷ xs) =
      ap length (more x xs) ∙ length-append (one x) (enc xs)
      ∙ (λ i. long x i + enc_length xs i) ∙ add_comm w (w * length xs) ∙ sym (mul-suc w (length xs))

  pub enc_snoc : (xs : List D) (d : D) → enc (xs ++ (d ∷ [])) ≡ enc xs ++ one d
  enc_snoc [] d = more d [] ∙ ap (λ (r : List ℕ). one d ++ r) none ∙ append-nil (one d) ∙ ap (λ (r : List ℕ). r ++ one d) (sym none)
  enc_snoc (x ∷ xs) d =
      more x (xs ++ (d ∷ [])) ∙ ap (λ (r : List ℕ). one x ++ r) (enc_snoc xs d) ∙ sym (append_assoc (one x) (enc xs) (one d))
      ∙ ap (λ (r : List ℕ). r ++ one d) (sym (more x xs))

  pub one_more : (l : List ℕ) {m n : List ℕ} (at i : ℕ) (xs : List D) (d : D) → i < length xs
      → m ≡ sets l at (enc (take i xs)) → n ≡ sets m (at + w * i) (one (get_or xs i d)) → n ≡ sets l at (enc (take (i + 1) xs))
  one_more l at i xs d h e f =
      let long-yet : length (enc (take i xs)) ≡ w * i = enc_length (take i xs) ∙ ap (λ (k : ℕ). w * k) (length-take-le i xs (omega arith)) in
      next l at (at + w * i) (enc (take i xs)) (one (get_or xs i d)) (ap (λ (k : ℕ). at + k) long-yet) e f
      ∙ ap (sets l at) (sym (enc_snoc (take i xs) (get_or xs i d)) ∙ ap enc (sym (take-suc xs i d h) ∙ ap (λ (k : ℕ). take k xs) (sym (add-one i))))

  pub all_written : (l : List ℕ) {m : List ℕ} (at i : ℕ) (xs : List D) → length xs ≤ i → m ≡ sets l at (enc (take i xs)) → m ≡ sets l at (enc xs)
  all_written l at i xs h e = e ∙ ap (λ (ys : List D). sets l at (enc ys)) (take_all i xs h)
