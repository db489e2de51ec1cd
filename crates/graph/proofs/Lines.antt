-- The listed lines, node by node; and what the tail of a board's array of nodes has to do with the tail of the board. Assumes nothing.
use mathlib.Core.Path.{◌≡◌, refl, sym, ap, ap₂, subst, ◌∙◌}
use Prim.Native.Nat.{ℕ, zero, suc, ◌+◌, ◌<◌, ◌≤◌}
use native.Mathlib.Nat.{add-zero, zero-add, add_assoc, le_trans}
use native.Mathlib.Omega.{arith}
use mathlib.Core.Bool.{Bool, true, false, cond, ◌&&◌, and_assoc}
use mathlib.Core.List.{List, [], ◌∷◌, ◌++◌}
use lib.Dec.{eqb}
use lib.ListN.{length, get_or, take, drop}
use Rattle.std.proofs.lemmas.List.{take_more}
use lib.Seq.{split_at, get_or-take}
use Rattle.kinds.specs.Kind.{line_of}
use Rattle.kinds.specs.declared.kind.NodeRecord.{NodeRecord}
use Rattle.reading.specs.Table.{mem}
use Rattle.reading.specs.Order.{Wire}
use Rattle.reading.proofs.Table.{mem-head, or_right}
use Rattle.boards.specs.Board.{Parsed, Progress, going, refused, whole, blank, lines_of}
use Rattle.graph.specs.Visit.{visiting_list}
use Rattle.graph.specs.Listed.{SourcesBelow}
use Rattle.graph.specs.Late.{late_wires}
use Rattle.graph.specs.Tail.{delays, kind_in, only_delays, listed_lines, endless, tail_by, tail_of, tail_answer, tail_if, tail_read, LinesFit}
use Rattle.std.specs.Prelude.{Option, Some, None, unwrap_or, Result, Ok, Err}
use Rattle.records.specs.Answer.{answer}
use Rattle.records.specs.declared.answer.Answer.{Answer}
use Rattle.boards.specs.Judge.{read_board, answer_by}
use Rattle.graph.proofs.Listed.{lists_reached}

-- ---- one listed node more

only_append : (ns : List NodeRecord) (a b : List ℕ) → only_delays ns (a ++ b) ≡ (only_delays ns a && only_delays ns b)
only_append ns [] b = refl
only_append ns (k ∷ a) b =
    ap (λ (t : Bool). delays (kind_in ns k) && t) (only_append ns a b) ∙ sym (and_assoc (delays (kind_in ns k)) (only_delays ns a) (only_delays ns b))

lines_append : (ns : List NodeRecord) (a b : List ℕ) → listed_lines ns (a ++ b) ≡ listed_lines ns a + listed_lines ns b
lines_append ns [] b = sym (zero-add (listed_lines ns b))
lines_append ns (k ∷ a) b =
    ap (λ (n : ℕ). line_of (kind_in ns k) + n) (lines_append ns a b) ∙ sym (add_assoc (line_of (kind_in ns k)) (listed_lines ns a) (listed_lines ns b))

-- the first i of a list's nodes only delay, and their lines are n together
pub record Summed (ns : List NodeRecord) (l : List ℕ) (n i : ℕ) : Type 0 where
  pub only : only_delays ns (take i l) ≡ true
  pub lines : n ≡ listed_lines ns (take i l)

module _ (ns : List NodeRecord) (l : List ℕ) (n i v : ℕ) (inside : i < length l) (is : v ≡ get_or l i 0) (s : Summed ns l n i) where
  next : take (i + 1) l ≡ take i l ++ (v ∷ [])
  next = take_more l i 0 inside ∙ ap (λ (x : ℕ). take i l ++ (x ∷ [])) (sym is)

  pub summed_more : delays (kind_in ns v) ≡ true → Summed ns l (n + line_of (kind_in ns v)) (i + 1)
  summed_more e = record {
    only = ap (only_delays ns) next ∙ only_append ns (take i l) (v ∷ []) ∙ ap₂ ◌&&◌ s.only (ap (λ (b : Bool). b && true) e);
    lines = sym (ap (listed_lines ns) next ∙ lines_append ns (take i l) (v ∷ []) ∙ ap₂ ◌+◌ (sym s.lines) (add-zero (line_of (kind_in ns v))));
  }

  pub summed_never : delays (kind_in ns v) ≡ false → only_delays ns l ≡ false
  summed_never e =
      ap (only_delays ns) (split_at l i 0 inside) ∙ only_append ns (take i l) (get_or l i 0 ∷ drop (suc i) l)
      ∙ ap₂ ◌&&◌ s.only (ap (λ (b : Bool). b && only_delays ns (drop (suc i) l)) (ap (λ (k : ℕ). delays (kind_in ns k)) (sym is) ∙ e))

-- ---- the two tests of a tail, one after the other

pub tail-late : (ns : List NodeRecord) (ws : List Wire) (l : List ℕ) → eqb (length (late_wires l ws)) 0 ≡ false → tail_by ns ws l ≡ endless
unfolding tail_by
tail-late ns ws l e = ap (λ (b : Bool). cond (b && only_delays ns l) (listed_lines ns l) endless) e

pub tail_on_time : (ns : List NodeRecord) (ws : List Wire) (l : List ℕ) → eqb (length (late_wires l ws)) 0 ≡ true
    → tail_by ns ws l ≡ cond (only_delays ns l) (listed_lines ns l) endless
unfolding tail_by
tail_on_time ns ws l e = ap (λ (b : Bool). cond (b && only_delays ns l) (listed_lines ns l) endless) e

-- a tail that is found, or the number for an endless one
pub tail_or : (ns : List NodeRecord) (ws : List Wire) (l : List ℕ) → unwrap_or (tail_if ns ws l) endless ≡ tail_by ns ws l
unfolding tail_by
tail_or ns ws l = split (eqb (length (late_wires l ws)) 0) (only_delays ns l)
  where
    split : (b c : Bool) → unwrap_or (cond b (cond c (Some (listed_lines ns l)) None) None) endless ≡ cond (b && c) (listed_lines ns l) endless
    split true true = refl
    split true false = refl
    split false c = refl

-- the tail call's answer
abbrev pub tail_told : Result (Option ℕ) Answer → Answer
tail_told (Ok t) = answer 0 (unwrap_or t endless)
tail_told (Err a) = a

pub tail_told_is : (s : List ℕ) → tail_told (tail_read (read_board s)) ≡ tail_answer s
unfolding tail_answer tail_of
tail_told_is s = by_reading (read_board s)
  where
    by_reading : (v : Progress) → tail_told (tail_read v) ≡ answer_by tail_of v
    by_reading (going at last p) = refl
    by_reading (refused n w) = refl
    by_reading (whole p) = ap (answer 0) (tail_or p.nodes p.wires (visiting_list p.wires))

-- ---- a board's nodes, the first n of an array

only_front : (ns : List NodeRecord) (n : ℕ) (l : List ℕ) → ((k : ℕ) → mem k l ≡ true → k < n) → only_delays (take n ns) l ≡ only_delays ns l
only_front ns n [] h = refl
only_front ns n (k ∷ l) h =
    ap₂ ◌&&◌ (ap (λ (r : NodeRecord). delays r.kind) (get_or-take n ns k blank (h k (mem-head k l)))) (only_front ns n l (λ j e. h j (or_right (eqb j k) e)))

lines_front : (ns : List NodeRecord) (n : ℕ) (l : List ℕ) → ((k : ℕ) → mem k l ≡ true → k < n) → listed_lines (take n ns) l ≡ listed_lines ns l
lines_front ns n [] h = refl
lines_front ns n (k ∷ l) h =
    ap₂ ◌+◌ (ap (λ (r : NodeRecord). line_of r.kind) (get_or-take n ns k blank (h k (mem-head k l)))) (lines_front ns n l (λ j e. h j (or_right (eqb j k) e)))

-- a node's line is no longer than all lines together
line-within : (ns : List NodeRecord) (k : ℕ) → line_of (kind_in ns k) ≤ lines_of ns
line-within [] k = omega arith
line-within (r ∷ ns) zero = omega arith
line-within (r ∷ ns) (suc k) = let ih = line-within ns k in omega arith

module _ (p : Parsed) (ns : List NodeRecord) (n : ℕ) (front : take n ns ≡ p.nodes) (pos : 0 < n) (few : n ≤ 64) (below : SourcesBelow p.wires n) where
  listed_below : (k : ℕ) → mem k (visiting_list p.wires) ≡ true → k < n
  listed_below k e = (lists_reached p.wires (λ j s m. le_trans (below j s m) few)).below n pos below k e

  -- the tail over the array is the board's
  pub tail_front : tail_if ns p.wires (visiting_list p.wires) ≡ tail_if p.nodes p.wires (visiting_list p.wires)
  tail_front =
      let l = visiting_list p.wires in
      ap₂ (λ (b : Bool) (m : ℕ). cond (eqb (length (late_wires l p.wires)) 0) (cond b (Some m) None) None)
      (sym (only_front ns n l listed_below)) (sym (lines_front ns n l listed_below))
      ∙ ap (λ (ms : List NodeRecord). tail_if ms p.wires l) front

  -- and its lines are as the code asks, where the board's are within their limit
  pub lines_fit : lines_of p.nodes ≤ 262144 → (l : List ℕ) (count : ℕ) → ((i : ℕ) → i < count → get_or l i 0 < n) → LinesFit ns l count
  lines_fit h l count inside i b =
      subst (λ (r : NodeRecord). line_of r.kind ≤ 262144) (ap (λ (ms : List NodeRecord). get_or ms (get_or l i 0) blank) (sym front) ∙ get_or-take n ns (get_or l i 0) blank (inside i b))
      (le_trans (line-within p.nodes (get_or l i 0)) h)
