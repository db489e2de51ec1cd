-- The lines of a board one wire or node longer, and how long they are. Assumes nothing.
use mathlib.Core.Path.{◌≡◌, refl, sym, ap, ◌∙◌}
use mathlib.Core.List.{List, [], ◌∷◌, ◌++◌, append-nil, append_assoc}
use mathlib.Core.Bool.{Bool, true, false, cond}
use Prim.Native.Nat.{ℕ, ◌+◌, ◌<◌, ◌≤◌}
use native.Mathlib.Omega.{arith}
use lib.ListN.{length, get_or, take}
use Rattle.reading.specs.Order.{Wire, wire}
use Rattle.boards.specs.Wires.{wires_of}
use Rattle.graph.specs.Late.{is_late, late_wires}
use Rattle.graph.proofs.Late.{late-more}
use Rattle.text.specs.Written.{spaced}
use Rattle.std.proofs.lemmas.List.{take_more}
use Rattle.text.proofs.Writing.{pair-length}
use Rattle.text.proofs.Digits.{two_digits}
use Rattle.listing.specs.Text.{spaced_all, line, late_word, late_lines}

-- ---- the nodes of a list

all_append : (k l : List ℕ) → spaced_all (k ++ l) ≡ spaced_all k ++ spaced_all l
unfolding spaced_all
all_append [] l = refl
all_append (v ∷ k) l = ap (λ (x : List ℕ). spaced v ++ x) (all_append k l) ∙ sym (append_assoc (spaced v) (spaced_all k) (spaced_all l))

all_one : (v : ℕ) → spaced_all (v ∷ []) ≡ spaced v
unfolding spaced_all
all_one v = append-nil (spaced v)

-- one node more
pub all_snoc : (l : List ℕ) (i v : ℕ) → v ≡ get_or l i 0 → i < length l → spaced_all (take (i + 1) l) ≡ spaced_all (take i l) ++ spaced v
all_snoc l i v is h =
    ap spaced_all (take_more l i 0 h ∙ rw is) ∙ all_append (take i l) (v ∷ []) ∙ ap (λ (x : List ℕ). spaced_all (take i l) ++ x) (all_one v)

-- ---- lines

pub late_short : (s t : ℕ) → s < 64 → t < 64 → length (line late_word s t) ≤ 11
late_short s t a b = omega (arith, pair-length (late_word ++ (32 ∷ [])) s (32 ∷ []) t (10 ∷ []), two_digits s (omega arith), two_digits t (omega arith))

lines_append : (xs ys : List Wire) → late_lines (xs ++ ys) ≡ late_lines xs ++ late_lines ys
unfolding late_lines
lines_append [] ys = refl
lines_append (x ∷ xs) ys =
    ap (λ (z : List ℕ). line late_word x.source x.target ++ z) (lines_append xs ys) ∙ sym (append_assoc (line late_word x.source x.target) (late_lines xs) (late_lines ys))

-- the late ones of one wire more, p
module _ (l : List ℕ) (ws : List (ℕ × ℕ)) (i : ℕ) (p : ℕ × ℕ) (is : p ≡ get_or ws i (0, 0)) (h : i < length ws) where
  lates_more : (b : Bool) → is_late l (wire p.0 p.1) ≡ b
      → late_lines (late_wires l (wires_of ws (i + 1))) ≡ late_lines (late_wires l (wires_of ws i)) ++ late_lines (cond b (wire p.0 p.1 ∷ []) [])
  lates_more b e =
      let more : late_wires l (wires_of ws (i + 1)) ≡ late_wires l (wires_of ws i) ++ cond b (wire p.0 p.1 ∷ []) [] = rw is (late-more l ws i b h (rw (← is) e)) in
      ap late_lines more ∙ lines_append (late_wires l (wires_of ws i)) (cond b (wire p.0 p.1 ∷ []) [])

  pub lates_hit : is_late l (wire p.0 p.1) ≡ true → late_lines (late_wires l (wires_of ws (i + 1))) ≡ late_lines (late_wires l (wires_of ws i)) ++ line late_word p.0 p.1
  unfolding late_lines
  lates_hit e = lates_more true e ∙ ap (λ (x : List ℕ). late_lines (late_wires l (wires_of ws i)) ++ x) (append-nil (line late_word p.0 p.1))

  pub lates_miss : is_late l (wire p.0 p.1) ≡ false → late_lines (late_wires l (wires_of ws (i + 1))) ≡ late_lines (late_wires l (wires_of ws i))
  unfolding late_lines
  lates_miss e = lates_more false e ∙ append-nil (late_lines (late_wires l (wires_of ws i)))
