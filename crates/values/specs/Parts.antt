-- A part of a list, and the list with a part replaced, `paste` of `lib.Seq`: what a function that is lent a part leaves of the whole.
--     part                 k elements from `at`
--     words-part, lent_long      the words and the length of a part that starts and ends at a word
--     lent, lent_run       the words of the whole, where such a part was lent and came back
--     part_paste           the part is what was pasted
--     part_before, part_after    a part that lies outside is as it was
-- Assumes nothing.
use Rattle.std.specs.Prelude.{◌≡◌, refl, List, [], ◌∷◌, ◌++◌, ℕ, zero, suc, ◌+◌, ◌-◌, ◌*◌, ◌≤◌, length, take, drop}
use Rattle.std.proofs.Common.{sym, ap, ◌∙◌, append_assoc, arith, length-drop, length-take-le, take_at, drop_at, take-take, drop-drop, take_all}
use Rattle.std.proofs.Math.Seq.{paste}
use Rattle.std.proofs.lemmas.List.Edits.{drop-paste}
use Rattle.values.specs.Words.{words, words_append, words_take, words-drop, length-words}

module _ {A : Type 0} where
  abbrev pub part : List A → ℕ → ℕ → List A
  part l at k = take k (drop at l)

  -- a part of a front
  pub part_take : (l : List A) (at k n : ℕ) → at + k ≤ n → part (take n l) at k ≡ part l at k
  part_take l zero k n h = take-take k n l (omega arith)
  part_take [] (suc at) k zero h = refl
  part_take [] (suc at) k (suc n) h = refl
  part_take (x ∷ l) (suc at) k zero h = absurd (omega arith)
  part_take (x ∷ l) (suc at) k (suc n) h = part_take l at k n (omega arith)

  module _ (l : List A) (at : ℕ) (s : List A) (n : ℕ) (h : at + n ≤ length l) (hs : n ≤ length s) where
    pub part_paste : part (paste l at s n) at n ≡ take n s
    part_paste =
        ap (λ (r : List A). part r at n) (append_assoc (take at l) (take n s) (drop (at + n) l))
        ∙ ap (take n) (drop_at (take at l) (take n s ++ drop (at + n) l) at (length-take-le at l (omega arith)))
        ∙ take_at (take n s) (drop (at + n) l) n (length-take-le n s hs)

    pub part_before : (from k : ℕ) → from + k ≤ at → part (paste l at s n) from k ≡ part l from k
    part_before from k b =
        sym (part_take (paste l at s n) from k at b)
        ∙ ap (λ (r : List A). part (take at r) from k) (append_assoc (take at l) (take n s) (drop (at + n) l))
        ∙ ap (λ (r : List A). part r from k) (take_at (take at l) (take n s ++ drop (at + n) l) at (length-take-le at l (omega arith)))
        ∙ part_take l from k at b

    pub part_after : (from k : ℕ) → at + n ≤ from → part (paste l at s n) from k ≡ part l from k
    part_after from k b =
        let e : at + n + (from - (at + n)) ≡ from = omega arith in
        ap (λ (r : ℕ). part (paste l at s n) r k) (sym e)
        ∙ ap (take k) (sym (drop-drop (from - (at + n)) (at + n) (paste l at s n)))
        ∙ ap (λ (r : List A). take k (drop (from - (at + n)) r)) (drop-paste l at s n (omega arith) hs)
        ∙ ap (take k) (drop-drop (from - (at + n)) (at + n) l)
        ∙ ap (λ (r : ℕ). part l r k) e

-- a part of the bytes was lent and came back as ys
pub lent : (m ys : List ℕ) (a k : ℕ) → length ys ≡ 4 * k → 4 * (a + k) ≤ length m
    → words (take (4 * a) m ++ (ys ++ drop (4 * k) (drop (4 * a) m))) ≡ paste (words m) a (words ys) k
lent m ys a k e h =
    let rest : List ℕ = drop (4 * k) (drop (4 * a) m) in
    let all : length (words ys) ≤ k = omega (arith, length-words ys) in
    words_append (take (4 * a) m) (ys ++ rest) a (length-take-le (4 * a) m (omega arith))
    ∙ ap (λ (r : List ℕ). r ++ words (ys ++ rest)) (words_take m a)
    ∙ ap (λ (r : List ℕ). take a (words m) ++ r) (words_append ys rest k e)
    ∙ sym (append_assoc (take a (words m)) (words ys) (words rest))
    ∙ ap (λ (r : List ℕ). take a (words m) ++ r ++ words rest) (sym (take_all k (words ys) all))
    ∙ ap (λ (r : List ℕ). take a (words m) ++ take k (words ys) ++ r)
    (words-drop (drop (4 * a) m) k ∙ ap (drop k) (words-drop m a) ∙ drop-drop k a (words m))

-- the words of a part that is lent
pub words-part : (m : List ℕ) (a k r : ℕ) → r ≡ 4 * k → words (take r (drop (4 * a) m)) ≡ part (words m) a k
words-part m a k r e =
    ap (λ (j : ℕ). words (take j (drop (4 * a) m))) e ∙ words_take (drop (4 * a) m) k ∙ ap (take k) (words-drop m a)

-- its length in bytes
pub lent_long : (m : List ℕ) (a k r : ℕ) → r ≡ 4 * k → 4 * (a + k) ≤ length m → length (take r (drop (4 * a) m)) ≡ 4 * k
lent_long m a k r e h =
    let d : length (drop (4 * a) m) ≡ length m - 4 * a = length-drop (4 * a) m in
    ap (λ (j : ℕ). length (take j (drop (4 * a) m))) e ∙ length-take-le (4 * k) (drop (4 * a) m) (omega arith)

-- what a function is lent, mem[4 a .. 4 (a + k)], and gives back as `f` of its words, is pasted
pub lent_run : (f : List ℕ → List ℕ) (m ys : List ℕ) (a k r : ℕ) → r ≡ 4 * k → 4 * (a + k) ≤ length m → length ys ≡ length (take r (drop (4 * a) m))
    → words ys ≡ f (words (take r (drop (4 * a) m)))
    → words (take (4 * a) m ++ (ys ++ drop r (drop (4 * a) m))) ≡ paste (words m) a (f (part (words m) a k)) k
lent_run f m ys a k r e h l g =
    ap (λ (j : ℕ). words (take (4 * a) m ++ (ys ++ drop j (drop (4 * a) m)))) e
    ∙ lent m ys a k (l ∙ lent_long m a k r e h) h
    ∙ ap (λ (w : List ℕ). paste (words m) a w k) (g ∙ ap f (words-part m a k r e))
