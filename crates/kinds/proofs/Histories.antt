-- What memory holds of a node does as what the reading knows of it, for all ten types:
--     oldest          a line's index 0 is the sample from n ago
--     fresh-heard     fresh memory is that of a node that has taken nothing
--     sample_heard_lem    both give the same sample
--     state_heard     both go on alike
--     number-heard    a number message sets both
-- Assumes nothing.
use mathlib.Core.Path.{◌≡◌, refl, sym, ap, ◌∙◌, fun_ext}
use mathlib.Core.Bool.{cond}
use mathlib.Core.List.{List, [], ◌∷◌, ◌++◌}
use Prim.Native.Nat.{ℕ, suc, ◌+◌, ◌-◌, ◌*◌, ◌%◌, ◌≤◌, ◌<◌}
use native.Mathlib.Nat.{mod-lt, add-mod-mod, mod-eq_of_lt}
use native.Mathlib.Omega.{arith}
use lib.ListN.{length, get_or, set, replicate, length-map, length-set, replicate-append-replicate, get_or-append}
use lib.Seq.{set-append_left, get_or-append-add}
use lib.Ieee.{Float, binary32, of_bits, to_bits}
use Rattle.reading.specs.Ring.{Ring, from, ring_of}
use Rattle.reading.proofs.Ring.{push_is, get_is}
use Rattle.reading.proofs.Table.{length_tab, tab_constant}
use Rattle.kinds.specs.Row.{Line, no_line, line_x, line_xy, row_of}
use Rattle.kinds.specs.Kind.{line_values}
use Rattle.kinds.specs.Rule.{Brought, Frame, State, with_number, first, next, get, left_of, left_by, right_of, keeps, carry_after, x_in, y_in, x_line, y_line, place_on, place_after, line_on, line_after, sample_by, state_by}
use Rattle.kinds.specs.Cell.{number_of, fresh_cell}
use Rattle.kinds.specs.Node.{LengthIn, LineFits}
use Rattle.kinds.specs.History.{Heard, xs, ys, count, fresh_heard, set_number, ago_by, x_ago, y_ago, left_heard, sample_heard, heard_after, place_by, place_of, ring, rings_by, line_heard, state_of}
use Rattle.kinds.specs.declared.kind.NodeKind.{NodeKind}
use Rattle.kinds.proofs.Cells.{set_append_right}

-- ---- a line of n, once c samples l have been taken

ring_long : (n : ℕ) (l : List ℕ) → length (ring n l) ≡ n
ring_long n l = length_tab n _

module _ (n : ℕ) (pos : 1 ≤ n) (l : List ℕ) (c : ℕ) (taken : length l ≡ c) where
  ring_get : (j : ℕ) → get_or (ring n l) ((c % n + j) % n) 0 ≡ from 0 n l (n - j % n)
  unfolding ring_of
  ring_get j =
      ap (λ (d : ℕ). get_or (ring n l) ((d % n + j) % n) 0) (sym taken)
      ∙ ap (λ (m : ℕ). get_or (ring n l) m 0) (sym (add-mod-mod (length l % n) j n))
      ∙ get_is 0 n pos l (j % n) (mod-lt j pos)

  ring_push : (x : ℕ) → set (ring n l) (c % n) x ≡ ring n (x ∷ l)
  unfolding ring_of
  ring_push x = ap (λ (d : ℕ). set (ring n l) (d % n) x) (sym taken) ∙ ap (λ (r : Ring ℕ). r.line) (push_is 0 n pos l x)

  ring_next : next n (c % n) ≡ suc c % n
  unfolding ring_of
  ring_next =
      ap (λ (d : ℕ). next n (d % n)) (sym taken) ∙ ap (λ (r : Ring ℕ). r.at) (push_is 0 n pos l 0) ∙ ap (λ (d : ℕ). suc d % n) taken

-- ---- what is read

-- index 0 is the sample from n ago
pub oldest : (n : ℕ) → 1 ≤ n → (l : List ℕ) → ago_by n l 0 ≡ of_bits binary32 (from 0 n l n)
unfolding ago_by
oldest n pos l =
    let whole : n - 0 ≡ n = omega arith in
    ap (λ (j : ℕ). of_bits binary32 (from 0 n l (n - j))) (mod-eq_of_lt pos) ∙ ap (λ (j : ℕ). of_bits binary32 (from 0 n l j)) whole

no_more : (q : ℕ) → 0 + q ≡ q
no_more q = omega arith

-- a value of the first and of the second of two lines
first-line : (n : ℕ) (l m : List ℕ) (q : ℕ) → q < n → get_or (ring n l ++ m) (0 + q) 0 ≡ get_or (ring n l) q 0
first-line n l m q h = rw (no_more q) (get_or-append (ring n l) m 0 q (omega (arith, ring_long n l)))

second_line : (n : ℕ) (l m : List ℕ) (q : ℕ) → get_or (ring n l ++ m) (n + q) 0 ≡ get_or m q 0
second_line n l m q = ap (λ (d : ℕ). get_or (ring n l ++ m) (d + q) 0) (sym (ring_long n l)) ∙ get_or-append-add (ring n l) m q 0

x_long : (h : Heard) → length (xs h) ≡ count h
x_long h = length-map h.past (λ t. t.x)

y_long : (h : Heard) → length (ys h) ≡ count h
y_long h = length-map h.past (λ t. t.y)

-- the lines of x and y, in memory and from n ago
x_heard : (l : Line) → LengthIn l → (h : Heard) (s : State) → s.place ≡ place_by l (count h) → s.line ≡ rings_by l (xs h) (ys h) → x_in l s ≡ x_ago l (xs h)
unfolding get ago_by
x_heard no_line fit h s p e = refl
x_heard (line_x n) fit h s p e =
    fun_ext (λ j.
    (λ i. of_bits binary32 (get_or (e i) (0 + (p i + j) % n) 0))
    ∙ ap (λ (m : ℕ). of_bits binary32 (get_or (ring n (xs h)) m 0)) (no_more ((count h % n + j) % n))
    ∙ ap (of_bits binary32) (ring_get n fit.0 (xs h) (count h) (x_long h) j))
x_heard (line_xy n) fit h s p e =
    fun_ext (λ j.
    (λ i. of_bits binary32 (get_or (e i) (0 + (p i + j) % n) 0))
    ∙ ap (of_bits binary32)
    (first-line n (xs h) (ring n (ys h)) ((count h % n + j) % n) (mod-lt (count h % n + j) fit.0) ∙ ring_get n fit.0 (xs h) (count h) (x_long h) j))

y_heard : (l : Line) → LengthIn l → (h : Heard) (s : State) → s.place ≡ place_by l (count h) → s.line ≡ rings_by l (xs h) (ys h) → y_in l s ≡ y_ago l (ys h)
unfolding get ago_by
y_heard no_line fit h s p e = refl
y_heard (line_x n) fit h s p e = refl
y_heard (line_xy n) fit h s p e =
    fun_ext (λ j.
    (λ i. of_bits binary32 (get_or (e i) (n + (p i + j) % n) 0))
    ∙ ap (of_bits binary32)
    (second_line n (xs h) (ring n (ys h)) ((count h % n + j) % n) ∙ ring_get n fit.0 (ys h) (count h) (y_long h) j))

left_heard_lem : (k : NodeKind) → LineFits k → (h : Heard) (b : Brought) → left_by k (state_of k h) b ≡ left_heard k h b
unfolding x_line y_line state_of place_of line_heard
left_heard_lem k fit h b =
    let l = (row_of k).line in
    let s = state_of k h in
    λ i. left_of k (of_bits binary32 h.number) (of_bits binary32 h.carry) (x_heard l fit h s refl refl i) (y_heard l fit h s refl refl i) b

-- ---- what is left

place-heard : (l : Line) → LengthIn l → (h : Heard) → place_on l (place_by l (count h)) ≡ place_by l (suc (count h))
place-heard no_line fit h = refl
place-heard (line_x n) fit h = ring_next n fit.0 (xs h) (count h) (x_long h)
place-heard (line_xy n) fit h = ring_next n fit.0 (xs h) (count h) (x_long h)

-- a push to each of two lines of n
pub two-set : (n : ℕ) (l m : List ℕ) (p x y : ℕ) → length l ≡ n → p < n → set (set (l ++ m) p x) (n + p) y ≡ set l p x ++ set m p y
two-set n l m p x y long h =
    ap (λ (v : List ℕ). set v (n + p) y) (set-append_left l m p x (omega arith))
    ∙ ap (λ (d : ℕ). set (set l p x ++ m) (d + p) y) (sym long ∙ sym (length-set l p x))
    ∙ set_append_right (set l p x) m p y

line-heard : (l : Line) → LengthIn l → (h : Heard) (x y : ℕ)
    → line_on l (place_by l (count h)) x y (rings_by l (xs h) (ys h)) ≡ rings_by l (x ∷ xs h) (y ∷ ys h)
line-heard no_line fit h x y = refl
line-heard (line_x n) fit h x y = ring_push n fit.0 (xs h) (count h) (x_long h) x
line-heard (line_xy n) fit h x y =
    two-set n (ring n (xs h)) (ring n (ys h)) (count h % n) x y (ring_long n (xs h)) (mod-lt (count h) fit.0)
    ∙ (λ i. ring_push n fit.0 (xs h) (count h) (x_long h) x i ++ ring_push n fit.0 (ys h) (count h) (y_long h) y i)

-- ---- the laws

module _ (k : NodeKind) (fit : LineFits k) (h : Heard) where
  pub sample_heard_lem : (held : Frame) (b : Brought) → sample_by k (state_of k h) held b ≡ sample_heard k h held b
  unfolding sample_by sample_heard
  sample_heard_lem held b =
      ap (λ (v : Float). cond (keeps k b) held (record { left = to_bits binary32 v; right = to_bits binary32 (right_of k b) })) (left_heard_lem k fit h b)

  pub state_heard : (b : Brought) → state_by k (state_of k h) b ≡ state_of k (heard_after k h b)
  unfolding state_by state_of heard_after place_after place_of line_after line_heard
  state_heard b =
      let l = (row_of k).line in
      let same = left_heard_lem k fit h b in
      let x : ℕ = to_bits binary32 (first b) in
      λ i. record {
        number = h.number;
        carry = carry_after k (of_bits binary32 h.number) h.carry (same i);
        place = place-heard l fit h i;
        line = (ap (λ (v : Float). line_on l (place_by l (count h)) x (to_bits binary32 v) (rings_by l (xs h) (ys h))) same ∙ line-heard l fit h x (to_bits binary32 (left_heard k h b))) i;
      }

pub number-heard : (k : NodeKind) (h : Heard) (v : ℕ) → with_number (state_of k h) v ≡ state_of k (set_number v h)
unfolding state_of set_number
number-heard k h v = refl

-- ---- fresh memory

fresh-place : (l : Line) → LengthIn l → 0 ≡ place_by l 0
fresh-place no_line fit = refl
fresh-place (line_x n) fit = sym (mod-eq_of_lt fit.0)
fresh-place (line_xy n) fit = sym (mod-eq_of_lt fit.0)

fresh-line : (l : Line) → replicate (line_values l) 0 ≡ rings_by l [] []
fresh-line no_line = refl
fresh-line (line_x n) = sym (tab_constant n 0)
fresh-line (line_xy n) =
    let twice : n * 2 ≡ n + n = omega arith in
    ap (λ (d : ℕ). replicate d 0) twice
    ∙ sym (replicate-append-replicate n n 0)
    ∙ ap (λ (l : List ℕ). l ++ l) (sym (tab_constant n 0))

pub fresh-heard : (N : ℕ) (k : NodeKind) → LineFits k → (fresh_cell N k).state ≡ state_of k (fresh_heard k)
unfolding fresh_cell state_of fresh_heard place_of line_heard
fresh-heard N k fit = λ i. record { number = to_bits binary32 (number_of k); carry = 0; place = fresh-place (row_of k).line fit i; line = fresh-line (row_of k).line i }
