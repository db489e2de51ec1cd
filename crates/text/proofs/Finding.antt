-- Words of a line, and lines of a text, found one after the other. Assumes nothing.
use mathlib.Core.Path.{◌≡◌, refl, sym, ap, subst, ◌∙◌}
use mathlib.Core.Bool.{Bool, true, false, cond, not}
use mathlib.Core.List.{List, [], ◌∷◌}
use Prim.Native.Nat.{ℕ, suc, ◌+◌, ◌-◌, ◌<◌, ◌≤◌, min}
use native.Mathlib.Decide.{dec_lt}
use native.Mathlib.Numerals.{add-one}
use native.Mathlib.Omega.{arith}
use borrow.Author.Tests.{ltb-false}
use Rattle.std.proofs.Common.{Option, Some, None}
use Rattle.std.specs.List.{position_or_len}
use Rattle.std.specs.Option.{MatchOption}
use Rattle.std.proofs.lemmas.List.Recursion.{is_position_or_len}
use lib.Dec.{eqb, ltb}
use lib.ListN.{length, take, drop, get_or, length-drop, drop_of_length-le}
use lib.Seq.{drop-cons, drop-drop}
use Rattle.text.specs.Words.{is_space, is_word, is_byte, ahead, next_word, unspaced, nth_word, begins, count_from, on_first, lines_of}

-- ---- a place looked for

module _ (stop : ℕ → Bool) (s : List ℕ) (i : ℕ) where
  pub ahead_stop : i < length s → stop (get_or s i 0) ≡ true → ahead stop (drop i s) ≡ 0
  unfolding ahead
  ahead_stop h t =
      ap (ahead stop) (drop-cons s i 0 h) ∙ ap (λ (b : Bool). cond b 0 (suc (ahead stop (drop (suc i) s)))) t

  pub ahead_more : i < length s → stop (get_or s i 0) ≡ false → ahead stop (drop i s) ≡ suc (ahead stop (drop (i + 1) s))
  unfolding ahead
  ahead_more h t =
      ap (ahead stop) (drop-cons s i 0 h)
      ∙ ap (λ (b : Bool). cond b 0 (suc (ahead stop (drop (suc i) s)))) t
      ∙ ap (λ (n : ℕ). suc (ahead stop (drop n s))) (sym (add-one i))

  pub ahead_end : length s ≤ i → ahead stop (drop i s) ≡ 0
  unfolding ahead
  ahead_end h = ap (ahead stop) (drop_of_length-le s h)

-- what `position` answers, and the sum that is made of it
ahead_is : (p : ℕ → Bool) (l : List ℕ) → ahead p l ≡ position_or_len p l
unfolding ahead
ahead_is p l = is_position_or_len (ahead p) p refl (λ x xs. let one : suc (ahead p xs) ≡ 1 + ahead p xs = omega arith in ap (λ (n : ℕ). cond (p x) 0 n) one) l

ahead_le : (p : ℕ → Bool) (l : List ℕ) → ahead p l ≤ length l
unfolding ahead
ahead_le p [] = omega arith
ahead_le p (c ∷ l) = pick (p c) (ahead_le p l)
  where
    pick : (b : Bool) → ahead p l ≤ length l → cond b 0 (suc (ahead p l)) ≤ suc (length l)
    pick true h = omega arith
    pick false h = omega arith

pub found_at : (p : ℕ → Bool) (l : List ℕ) (r : Option ℕ) (at size sum : ℕ) (P : ℕ → Type 0)
    → r ≡ cond (ltb (position_or_len p l) (length l)) (Some (position_or_len p l)) None → size ≡ at + length l
    → MatchOption r (sum ≡ size) P → ((k : ℕ) → P k → sum ≡ at + k) → sum ≡ at + ahead p l
found_at p l r at size sum P e s m f = pick (ltb (position_or_len p l) (length l)) refl e m
  where
    pick : (b : Bool) → ltb (position_or_len p l) (length l) ≡ b → r ≡ cond b (Some (position_or_len p l)) None → MatchOption r (sum ≡ size) P → sum ≡ at + ahead p l
    pick true h e m =
        let M : Option ℕ → Type 0 = λ o. MatchOption o (sum ≡ size) P in
        omega (arith, f (position_or_len p l) (subst M e m), ahead_is p l)
    pick false h e m =
        let M : Option ℕ → Type 0 = λ o. MatchOption o (sum ≡ size) P in
        let none : sum ≡ size = subst M e m in
        omega (arith, none, s, ahead_is p l, ahead_le p l, ltb-false (position_or_len p l) (length l) h)

-- ---- the word from a place on, and the words behind it

module _ (s : List ℕ) (at : ℕ) where
  starts : unspaced (drop at s) ≡ drop (next_word s at).from s
  unfolding next_word
  starts = drop-drop (ahead is_word (drop at s)) at s

  pub word_here : nth_word 0 (drop at s) ≡ take ((next_word s at).to - (next_word s at).from) (drop (next_word s at).from s)
  unfolding nth_word next_word
  word_here =
      let from = at + ahead is_word (drop at s) in
      let size : ahead is_space (drop from s) ≡ from + ahead is_space (drop from s) - from = omega arith in
      ap (λ (l : List ℕ). take (ahead is_space l) l) starts ∙ ap (λ (n : ℕ). take n (drop from s)) size

  pub words_behind : (k : ℕ) → nth_word (suc k) (drop at s) ≡ nth_word k (drop (next_word s at).to s)
  unfolding nth_word next_word
  words_behind k =
      let from = at + ahead is_word (drop at s) in
      ap (λ (l : List ℕ). nth_word k (drop (ahead is_space l) l)) starts ∙ ap (nth_word k) (drop-drop (ahead is_space (drop from s)) from s)

-- ---- words counted

module _ (s : List ℕ) (i : ℕ) (inside : Bool) where
  pub count_more : i < length s → count_from inside (drop i s) ≡ begins inside (is_space (get_or s i 0)) + count_from (not (is_space (get_or s i 0))) (drop (i + 1) s)
  unfolding count_from
  count_more h = rw (add-one, drop-cons s i 0)

  pub count_end : length s ≤ i → count_from inside (drop i s) ≡ 0
  unfolding count_from
  count_end h = ap (count_from inside) (drop_of_length-le s h)

-- ---- lines

-- the first line ends at the first line feed, and the others stand behind that
pub lines_next : (s : List ℕ) → 0 < length s → lines_of s ≡ take (ahead (is_byte 10) s) s ∷ lines_of (drop (suc (ahead (is_byte 10) s)) s)
unfolding lines_of ahead
lines_next [] h = absurd (omega arith)
lines_next (c ∷ s) h = pick (eqb c 10) (dec_lt 0 (length s)) (lines_next s)
  where
    pick : (b : Bool) → Dec (0 < length s) → (0 < length s → lines_of s ≡ take (ahead (is_byte 10) s) s ∷ lines_of (drop (suc (ahead (is_byte 10) s)) s))
        → cond b ([] ∷ lines_of s) (on_first c (lines_of s)) ≡ take (cond b 0 (suc (ahead (is_byte 10) s))) (c ∷ s) ∷ lines_of (drop (suc (cond b 0 (suc (ahead (is_byte 10) s)))) (c ∷ s))
    pick true d rest = refl
    pick false (yes l) rest = ap (on_first c) (rest l)
    pick false (no g) rest = last s (omega arith)
      where
        last : (s : List ℕ) → length s ≡ 0 → on_first c (lines_of s) ≡ (c ∷ take (ahead (is_byte 10) s) s) ∷ lines_of (drop (suc (ahead (is_byte 10) s)) s)
        last [] e = refl
        last (d ∷ t) e = absurd (omega arith)

-- the line from a place on, up to `end`, and those behind it: `next` is the place after its line feed, or the end of the text
pub line_here : (s : List ℕ) (at end next : ℕ) → at < length s → end ≡ at + ahead (is_byte 10) (drop at s) → next ≡ min (end + 1) (length s)
    → lines_of (drop at s) ≡ take (end - at) (drop at s) ∷ lines_of (drop next s)
line_here s at end next h e f =
    let n = ahead (is_byte 10) (drop at s) in
    let size : n ≡ end - at = omega arith in
    lines_next (drop at s) (omega (arith, length-drop at s))
    ∙ ap (λ (l : List ℕ). take n (drop at s) ∷ lines_of l) (drop-drop (suc n) at s ∙ past (dec_lt end (length s)))
    ∙ ap (λ (k : ℕ). take k (drop at s) ∷ lines_of (drop next s)) size
  where
    past : Dec (end < length s) → drop (at + suc (ahead (is_byte 10) (drop at s))) s ≡ drop next s
    past (yes l) = let q : at + suc (ahead (is_byte 10) (drop at s)) ≡ next = omega arith in ap (λ (k : ℕ). drop k s) q
    past (no g) = drop_of_length-le s {i = at + suc (ahead (is_byte 10) (drop at s))} (omega arith) ∙ sym (drop_of_length-le s {i = next} (omega arith))

-- past the end there is no line
pub no_line : (s : List ℕ) (at : ℕ) → length s ≤ at → lines_of (drop at s) ≡ []
unfolding lines_of
no_line s at h = ap lines_of (drop_of_length-le s {i = at} h)

-- a text has no more lines than bytes
pub lines_few : (s : List ℕ) → length (lines_of s) ≤ length s
unfolding lines_of
lines_few [] = omega arith
lines_few (c ∷ s) = pick (eqb c 10) (lines_of s) (lines_few s)
  where
    pick : (b : Bool) (ls : List (List ℕ)) → length ls ≤ length s → length (cond b ([] ∷ ls) (on_first c ls)) ≤ suc (length s)
    pick true ls h = omega arith
    pick false [] h = omega arith
    pick false (l ∷ ls) h = omega arith
