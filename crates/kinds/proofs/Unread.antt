-- What a rule does not read: the second wire's source, unless there are two sources; and what lines keep.
--     unread                           what wires bring, with nothing for the second source unless there are two
--     sample_unread, state_unread      the rule on what memory holds reads no more
--     heard_sample_unread, heard_unread    nor does the rule on what the reading knows
--     line_after_long                  a line keeps its length
-- Assumes nothing.
use mathlib.Core.Path.{◌≡◌, refl, sym, ap, ◌∙◌}
use mathlib.Core.Bool.{Bool, true, false, cond, and-eq-true_iff}
use mathlib.Core.List.{List, ◌∷◌}
use Prim.Native.Nat.{ℕ, ◌+◌}
use native.Mathlib.Omega.{arith}
use borrow.Author.Tests.{leb-true, lt-ltb}
use lib.Dec.{leb}
use lib.ListN.{length, set, length-set}
use lib.Ieee.{Float, nan, binary32, of_bits, to_bits, add, mul}
use Rattle.leaves.specs.Position.{position_of, rest_of}
use Rattle.values.specs.Floors.{floor_of}
use Rattle.kinds.specs.Row.{Line, no_line, line_x, line_xy, Writes, mono, keeping, stereo, row_of}
use Rattle.kinds.specs.Kind.{sources_fit}
use Rattle.kinds.specs.Rule.{Brought, Frame, State, first, two, all_pass, between, tap_by, tap, left_of, right_of, keeps_in, keeps, carry_after, line_on, line_after, x_line, y_line, left_by, sample_by, state_by}
use Rattle.kinds.specs.History.{Heard, left_heard, sample_heard, heard_after}
use Rattle.kinds.specs.declared.kind.NodeKind.{NodeKind}
use Rattle.kinds.specs.declared.kind.NodeKind.TheVariants.{Pass, Sum, Destination, Balance, Mul, Add, Delay, AllPass, OnePole, Sine}

abbrev pub unread : Brought → Brought
unread b = record { left = b.left; right = b.right; second = cond (two b) b.second nan }

-- what is used only where there are two sources
inner : {A : Type 0} (q : Bool) (f : Float → A) (s : Float) (g : A) → cond q (f s) g ≡ cond q (f (cond q s nan)) g
inner true f s g = refl
inner false f s g = refl

tap_unread : (n : ℕ) (b : Brought) (get : ℕ → Float) → tap n b get ≡ tap n (unread b) get
unfolding tap_by
tap_unread n b get =
    inner (two b)
    (λ m. between (get (floor_of (position_of m n))) (get (floor_of (position_of m n) + 1)) (rest_of (position_of m n)))
    b.second (get 0)

left_unread : (k : NodeKind) (g c : Float) (x y : ℕ → Float) (b : Brought) → left_of k g c x y b ≡ left_of k g c x y (unread b)
unfolding left_of
left_unread Pass g c x y b = refl
left_unread Sum g c x y b = refl
left_unread Destination g c x y b = refl
left_unread Balance g c x y b = refl
left_unread (Mul f) g c x y b = ap (mul binary32 (first b)) (inner (two b) (λ m. m) b.second g)
left_unread (Add f) g c x y b = ap (add binary32 (first b)) (inner (two b) (λ m. m) b.second g)
left_unread (Delay n) g c x y b = refl
left_unread (AllPass n f) g c x y b = λ i. all_pass g (first b) (tap_unread n b x i) (tap_unread n b y i)
left_unread (OnePole f) g c x y b = refl
left_unread (Sine f) g c x y b = refl

keeps_in_lem : (w : Writes) (b : Brought) → keeps_in w b ≡ keeps_in w (unread b)
keeps_in_lem (mono l) b = refl
keeps_in_lem (keeping l) b = refl
keeps_in_lem (stereo l r) b = refl

keeps_unread : (k : NodeKind) (b : Brought) → keeps k b ≡ keeps k (unread b)
unfolding keeps
keeps_unread k b = keeps_in_lem (row_of k).writes b

-- the one type that always reads it has two sources
balance-two : (b : Brought) → sources_fit Balance (length b.left) ≡ true → b.second ≡ cond (two b) b.second nan
balance-two b fits =
    let more = leb-true 2 (length b.left) ((and-eq-true_iff (leb 2 (length b.left)) (leb (length b.left) 2)).0 fits).0 in
    ap (λ (q : Bool). cond q b.second nan) (sym (lt-ltb 1 (length b.left) (omega arith)))

right_unread : (k : NodeKind) (b : Brought) → sources_fit k (length b.left) ≡ true → right_of k b ≡ right_of k (unread b)
unfolding right_of
right_unread Pass b fits = refl
right_unread Sum b fits = refl
right_unread Destination b fits = refl
right_unread Balance b fits = balance-two b fits
right_unread (Mul f) b fits = refl
right_unread (Add f) b fits = refl
right_unread (Delay n) b fits = refl
right_unread (AllPass n f) b fits = refl
right_unread (OnePole f) b fits = refl
right_unread (Sine f) b fits = refl

-- ---- the rules

module _ (k : NodeKind) (b : Brought) (fits : sources_fit k (length b.left) ≡ true) where
  sample_by_lem : (held : Frame) (x y : Float) → x ≡ y
      → ◌≡◌ {A = Frame} (cond (keeps k b) held (record { left = to_bits binary32 x; right = to_bits binary32 (right_of k b) }))
      (cond (keeps k (unread b)) held (record { left = to_bits binary32 y; right = to_bits binary32 (right_of k (unread b)) }))
  sample_by_lem held x y e =
      λ i. cond (keeps_unread k b i) held (record { left = to_bits binary32 (e i); right = to_bits binary32 (right_unread k b fits i) })

  -- on what memory holds
  pub sample_unread : (s : State) (held : Frame) → sample_by k s held b ≡ sample_by k s held (unread b)
  unfolding sample_by
  sample_unread s held =
      sample_by_lem held (left_by k s b) (left_by k s (unread b))
      (left_unread k (of_bits binary32 s.number) (of_bits binary32 s.carry) (x_line k s) (y_line k s) b)

  -- on what the reading knows
  pub heard_sample_unread : (h : Heard) (held : Frame) → sample_heard k h held b ≡ sample_heard k h held (unread b)
  unfolding sample_heard
  heard_sample_unread h held =
      sample_by_lem held (left_heard k h b) (left_heard k h (unread b))
      (left_unread k (of_bits binary32 h.number) (of_bits binary32 h.carry) _ _ b)

module _ (k : NodeKind) (b : Brought) where
  pub state_unread : (s : State) → state_by k s b ≡ state_by k s (unread b)
  unfolding state_by
  state_unread s =
      let e = left_unread k (of_bits binary32 s.number) (of_bits binary32 s.carry) (x_line k s) (y_line k s) b in
      λ i. record {
        number = s.number;
        carry = carry_after k (of_bits binary32 s.number) s.carry (e i);
        place = (state_by k s b).place;
        line = line_after k s.place (to_bits binary32 (first b)) (to_bits binary32 (e i)) s.line;
      }

  pub heard_unread : (h : Heard) → heard_after k h b ≡ heard_after k h (unread b)
  unfolding heard_after
  heard_unread h =
      let e = left_unread k (of_bits binary32 h.number) (of_bits binary32 h.carry) _ _ b in
      λ i. record {
        number = h.number;
        carry = carry_after k (of_bits binary32 h.number) h.carry (e i);
        past = record { x = to_bits binary32 (first b); y = to_bits binary32 (e i) } ∷ h.past;
      }

-- ---- lines

line_on_long : (r : Line) (p x y : ℕ) (l : List ℕ) → length (line_on r p x y l) ≡ length l
line_on_long no_line p x y l = refl
line_on_long (line_x n) p x y l = length-set l p x
line_on_long (line_xy n) p x y l = length-set (set l p x) (n + p) y ∙ length-set l p x

pub line_after_long : (k : NodeKind) (p x y : ℕ) (l : List ℕ) → length (line_after k p x y l) ≡ length l
unfolding line_after
line_after_long k p x y l = line_on_long (row_of k).line p x y l
