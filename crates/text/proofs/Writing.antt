-- How written texts join. Assumes nothing.
use mathlib.Core.Path.{◌≡◌, sym, ap, ◌∙◌}
use mathlib.Core.List.{List, [], ◌++◌, append_assoc, append-nil}
use Prim.Native.Nat.{ℕ, ◌+◌, ◌≤◌}
use native.Mathlib.Omega.{arith}
use lib.ListN.{length, take, drop, length-append}
use lib.Seq.{take_at, length-take-le, sets, sets-eq}
use Rattle.text.specs.Written.{Appends, number, pair}

-- some bytes, and then others
pub wrote_both : (o : List ℕ) {o' o'' : List ℕ} (s t : List ℕ) → o' ≡ o ++ s → o'' ≡ o' ++ t → o'' ≡ o ++ (s ++ t)
wrote_both o s t p q = q ∙ ap (λ (x : List ℕ). x ++ t) p ∙ append_assoc o s t

pub appends_none : (o : List ℕ) → Appends 0 o [] o
appends_none o = record { wrote = sym (append-nil o); short = omega arith }

pub appends_both : (o : List ℕ) {o' o'' : List ℕ} (s t : List ℕ) (m n : ℕ) → Appends m o s o' → Appends n o' t o'' → Appends (m + n) o (s ++ t) o''
appends_both o s t m n p q = record { wrote = wrote_both o s t p.wrote q.wrote; short = omega (arith, p.short, q.short) }

-- the bytes of a text that are no more than so many
pub appends_short : (o t : List ℕ) {o' : List ℕ} (n : ℕ) → o' ≡ o ++ t → length t ≤ n → Appends n o t o'
appends_short o t n e h = record { wrote = e; short = omega (arith, ap (λ (l : List ℕ). length l) e, length-append o t, h) }

-- bytes that are stored behind the first of a list
pub wrote_sets : (text o : List ℕ) (at : ℕ) → at + length text ≤ length o → take (at + length text) (sets o at text) ≡ take at o ++ text
wrote_sets text o at h =
    let long : length (take at o ++ text) ≡ at + length text = length-append (take at o) text ∙ ap (λ (n : ℕ). n + length text) (length-take-le at o (omega arith)) in
    ap (take (at + length text)) (sets-eq text o at h) ∙ take_at (take at o ++ text) (drop (at + length text) o) (at + length text) long

pub pair-length : (first : List ℕ) (a : ℕ) (between : List ℕ) (b : ℕ) (last : List ℕ)
    → length (pair first a between b last) ≡ length first + length (number a) + length between + length (number b) + length last
unfolding pair
pair-length first a between b last = simp length-append
