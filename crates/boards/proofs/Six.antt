-- Check 6 against the arrays: the kind at an index, the counts of the table, and the walk over the nodes. Assumes nothing.
use Prim.Native.Nat.{ℕ, zero, suc, ◌+◌, min, ◌≤◌, ◌<◌}
use native.Mathlib.Nat.{le_refl}
use mathlib.Core.Path.{◌≡◌, refl, sym, ap, ◌∙◌}
use mathlib.Core.List.{List, [], ◌∷◌, ◌++◌}
use mathlib.Core.Bool.{Bool, true, false, true≢false, ◌&&◌}
use native.Mathlib.Numerals.{add-one}
use native.Mathlib.Omega.{arith}
use borrow.Author.Tests.{leb-true, leb-false, le-leb, lt-leb, lt-ltb, ltb-true, ltb-false, eq-eqb, ne_eqb}
use lib.Dec.{ltb, leb, eqb}
use Rattle.std.specs.Prelude.{Some, None, not, fold, position}
use Rattle.std.specs.List.{position_or_len}
use Rattle.std.proofs.lemmas.List.Quantifiers.{position-Some}
use Rattle.std.proofs.lemmas.Slice.Zip.{get_or-zip, length-zip}
use lib.ListN.{length, get_or, take, drop, length-append}
use lib.Seq.{length-take-le, drop-cons, drop-length, get_or-take}
use Rattle.kinds.specs.Kind.{fewest, most, sources_fit, is_pass}
use Rattle.kinds.specs.declared.kind.Bounds.{Bounds as NodeBounds}
use Rattle.kinds.specs.declared.kind.NodeKind.{NodeKind}
use Rattle.kinds.specs.declared.kind.NodeRecord.{NodeRecord}
use Rattle.reading.specs.Order.{sources}
use Rattle.reading.specs.Table.{mem}
use Rattle.kinds.proofs.Rows.{row_laws}
use Rattle.boards.specs.Board.{Parsed, refused, whole, blank, memory_length, read_records}
use Rattle.records.specs.Answer.{answer}
use Rattle.records.specs.declared.answer.Answer.{Answer}
use Rattle.boards.specs.BoardParts.{no_bounds, Refuses, Counts, fits, beside}
use Rattle.sources.specs.Sources.{add_new, add_all, distinct, distinct_sources}
use Rattle.boards.specs.Judge.{pass_at, input_fits, check_sources, check_six, then_six, read_board, answer_by, judge_of}
use Rattle.reading.proofs.Choice.{pick, both}

-- ---- the counts of the table, nine standing for more than eight

pub sources_few : (k : NodeKind) → (fewest k ≤ 9) × (most k ≤ 8)
sources_few k = (row_laws k).few

-- two tests that say the same
leb_same : (a b c d : ℕ) → (a ≤ b → c ≤ d) → (c ≤ d → a ≤ b) → leb a b ≡ leb c d
leb_same a b c d f g = go (leb c d) refl
  where
    go : (t : Bool) → leb c d ≡ t → leb a b ≡ leb c d
    go true e = le-leb a b (g (leb-true c d e)) ∙ sym e
    go false e = lt-leb a b (less (leb a b) refl) ∙ sym e
      where
        less : (t : Bool) → leb a b ≡ t → b < a
        less true q = absurd (omega (arith, f (leb-true a b q), leb-false c d e))
        less false q = leb-false a b q

pub fits_nine : (k : NodeKind) (n : ℕ) → sources_fit k (min 9 n) ≡ sources_fit k n
fits_nine k n =
    let few = sources_few k in
    rw (leb_same (fewest k) (min 9 n) (fewest k) n (λ h. omega arith) (λ h. omega arith), leb_same (min 9 n) (most k) n (most k) (λ h. omega arith) (λ h. omega arith))

add_longer : (l : List ℕ) (x : ℕ) → length l ≤ length (add_new l x)
add_longer l x = pick (λ (m : List ℕ). length l ≤ length m) (mem x l) l (l ++ (x ∷ [])) (λ _. omega arith) (λ _. simp length-append (omega arith))

all_longer : (l xs : List ℕ) → length l ≤ length (add_all l xs)
all_longer l [] = omega arith
all_longer l (x ∷ xs) = omega (arith, add_longer l x, all_longer (add_new l x) xs)

pub none_nine : (xs : List ℕ) → eqb (min 9 (length (distinct xs))) 0 ≡ eqb (length xs) 0
unfolding distinct
none_nine [] = refl
none_nine (x ∷ xs) =
    let some : min 9 (length (add_all (x ∷ []) xs)) ≡ 0 → ⊥ = λ e. omega (arith, all_longer (x ∷ []) xs) in
    let more : suc (length xs) ≡ 0 → ⊥ = λ e. omega arith in
    rw (ne_eqb (min 9 (length (add_all (x ∷ []) xs))) 0 some, ne_eqb (suc (length xs)) 0 more)

-- ---- the node at an index

pub pass_get_d : (l : List NodeRecord) (i : ℕ) (d : NodeRecord) → i < length l → pass_at l i ≡ is_pass (get_or l i d).kind
pass_get_d [] i d h = absurd (omega arith)
pass_get_d (r ∷ l) zero d h = refl
pass_get_d (r ∷ l) (suc i) d h = pass_get_d l i d (omega arith)

pub pass-past : (l : List NodeRecord) (i : ℕ) → length l ≤ i → pass_at l i ≡ false
pass-past [] i h = refl
pass-past (r ∷ l) zero h = absurd (omega arith)
pass-past (r ∷ l) (suc i) h = pass-past l i (omega arith)

module _ (nodes : List NodeRecord) (n : ℕ) (fits : n ≤ length nodes) where
  pub counted : length (take n nodes) ≡ n
  counted = length-take-le n nodes fits

  pub pass_out : (i : ℕ) → n ≤ i → pass_at (take n nodes) i ≡ false
  pass_out i h = pass-past (take n nodes) i (rw counted h)

  module _ (i : ℕ) (within : i < n) (d : NodeRecord) where
    inside : i < length (take n nodes)
    inside = rw counted within

    pub pass_here : pass_at (take n nodes) i ≡ is_pass (get_or nodes i d).kind
    pass_here = pass_get_d (take n nodes) i d inside ∙ ap (λ (r : NodeRecord). is_pass r.kind) (get_or-take n nodes i d within)

    pub node_here : drop i (take n nodes) ≡ get_or nodes i d ∷ drop (suc i) (take n nodes)
    node_here = drop-cons (take n nodes) i d inside ∙ ap (λ (r : NodeRecord). r ∷ drop (suc i) (take n nodes)) (get_or-take n nodes i d within)

  -- where a pass stands there are so many nodes
  pub pass_below : (i : ℕ) (pass : Bool) → pass ≡ pass_at (take n nodes) i → pass ≡ true → i < n
  pass_below i pass e t = go (ltb i n) refl
    where
      go : (b : Bool) → ltb i n ≡ b → i < n
      go true f = ltb-true i n f
      go false f = absurd (true≢false (sym t ∙ e ∙ pass_out i (ltb-false i n f)))

-- ---- what a fold of `and` and a search say of each item

folded : {X : Type 0} (p : X → Bool) (xs : List X) (d : X) (a : Bool) → fold (λ all x. all && p x) a xs ≡ true
    → (a ≡ true) × ((i : ℕ) → i < length xs → p (get_or xs i d) ≡ true)
folded p [] d a e = (e, λ i b. absurd (omega arith))
folded p (x ∷ xs) d a e =
    let rest = folded p xs d (a && p x) e in
    let two = both a (p x) rest.0 in
    (two.0, each two.1 rest.1)
  where
    each : p x ≡ true → ((i : ℕ) → i < length xs → p (get_or xs i d) ≡ true) → (i : ℕ) → i < length (x ∷ xs) → p (get_or (x ∷ xs) i d) ≡ true
    each here there zero b = here
    each here there (suc i) b = there i (omega arith)

-- an item that passes is found
found_below : {X : Type 0} (p : X → Bool) (xs : List X) (d : X) (i : ℕ) → i < length xs → p (get_or xs i d) ≡ true → position_or_len p xs < length xs
found_below p [] d i b e = absurd (omega arith)
found_below p (x ∷ xs) d i b e = go (p x) refl i b e (λ j l f. found_below p xs d j l f)
  where
    go : (t : Bool) → p x ≡ t → (i : ℕ) → i < length (x ∷ xs) → p (get_or (x ∷ xs) i d) ≡ true
        → ((j : ℕ) → j < length xs → p (get_or xs j d) ≡ true → position_or_len p xs < length xs) → position_or_len p (x ∷ xs) < length (x ∷ xs)
    go true q i b e more = rw q (omega arith)
    go false q zero b e more = absurd (true≢false (sym e ∙ q))
    go false q (suc i) b e more = rw q (omega (arith, more i (omega arith) e))

none_passes : {X : Type 0} (p : X → Bool) (xs : List X) (d : X) → position p xs ≡ None → (i : ℕ) → i < length xs → p (get_or xs i d) ≡ false
none_passes p xs d none i b = go (p (get_or xs i d)) refl
  where
    go : (t : Bool) → p (get_or xs i d) ≡ t → t ≡ false
    go false q = refl
    go true q =
        let some : position p xs ≡ Some (position_or_len p xs) = rw (lt-ltb _ _ (found_below p xs d i b q)) refl in
        absurd (cc (sym none ∙ some))

pub first_below : (bounds : List NodeBounds) (counts : List ℕ) (n i : ℕ) (q : NodeBounds × ℕ → Bool) → n ≤ length bounds → position q (beside bounds counts n) ≡ Some i → i < n
first_below bounds counts n i q h e =
    omega (arith, (position-Some q (beside bounds counts n) i (no_bounds, 0) e).0, length-zip (take n bounds) counts, length-take-le n bounds h)

unfit_not : (b : Bool) → not b ≡ false → b ≡ true
unfit_not true e = refl
unfit_not false e = absurd (true≢false e)

fit_not : (b : Bool) → not b ≡ true → b ≡ false
fit_not true e = absurd (true≢false (sym e))
fit_not false e = refl

-- ---- the walk over the nodes

module _ (p : Parsed) (bounds : List NodeBounds) (counts : List ℕ) (h : Counts p bounds counts) where
  -- the count of node i fits as its sources do
  fits_as : (i : ℕ) → i < length p.nodes → sources_fit (get_or p.nodes i blank).kind (length (distinct_sources p.wires i))
      ≡ fits (get_or bounds i no_bounds, get_or counts i 0)
  fits_as i b =
      sym (rw (h.counted i b, (h.bound i b).0, (h.bound i b).1) (fits_nine (get_or p.nodes i blank).kind (length (distinct_sources p.wires i))))

  -- the first i nodes fit, so what is left decides
  pub check_next : (i : ℕ) → i < length p.nodes → fits (get_or bounds i no_bounds, get_or counts i 0) ≡ true
      → check_sources p (i + 1) (drop (i + 1) p.nodes) ≡ check_sources p i (drop i p.nodes)
  unfolding check_sources
  check_next i b e = rw (add-one, drop-cons p.nodes i blank b, fits_as i b ∙ e)

  pub check_wrong : (i : ℕ) → i < length p.nodes → fits (get_or bounds i no_bounds, get_or counts i 0) ≡ false
      → check_sources p i (drop i p.nodes) ≡ refused 6 i
  unfolding check_sources
  check_wrong i b e = rw (drop-cons p.nodes i blank b, fits_as i b ∙ e)

  pub check_end : check_sources p (length p.nodes) (drop (length p.nodes) p.nodes) ≡ whole p
  unfolding check_sources
  check_end = rw (drop-length p.nodes)

  -- those before node i fit
  check_past : (i : ℕ) → i ≤ length p.nodes
      → ((k : ℕ) → k < i → fits (get_or bounds k no_bounds, get_or counts k 0) ≡ true)
      → check_sources p 0 p.nodes ≡ check_sources p i (drop i p.nodes)
  check_past zero b all = refl
  check_past (suc i) b all =
      check_past i (omega arith) (λ k l. all k (omega arith)) ∙ sym (rw (add-one i) at (check_next i (omega arith) (all i (omega arith))))

  module _ (n : ℕ) (total : length p.nodes ≡ n) (bounds_long : length bounds ≡ 64) (counts_long : length counts ≡ 64) (few : n ≤ 64) where
    pairs : List (NodeBounds × ℕ)
    pairs = beside bounds counts n

    pairs_long : length pairs ≡ n
    unfolding pairs
    pairs_long = length-zip (take n bounds) counts ∙ omega (arith, length-take-le n bounds (omega arith))

    pair_at : (i : ℕ) → i < n → fits (get_or pairs i (no_bounds, 0)) ≡ fits (get_or bounds i no_bounds, get_or counts i 0)
    unfolding pairs
    pair_at i b =
        ap fits (get_or-zip (take n bounds) counts i (no_bounds, 0) (omega (arith, length-take-le n bounds (omega arith))) (omega arith))
        ∙ rw (get_or-take n bounds i no_bounds b) refl

    all_fit : ((i : ℕ) → i < length pairs → fits (get_or pairs i (no_bounds, 0)) ≡ true) → check_sources p 0 p.nodes ≡ whole p
    all_fit all =
        check_past (length p.nodes) (le_refl _) (λ k b. sym (pair_at k (omega arith)) ∙ all k (omega (arith, pairs_long)))
        ∙ check_end

    pub check_all : fold (λ all q. all && fits q) true (beside bounds counts n) ≡ true → check_sources p 0 p.nodes ≡ whole p
    unfolding pairs
    check_all e = all_fit (folded fits (beside bounds counts n) (no_bounds, 0) true e).1

    pub check_none : position (λ q. not (fits q)) (beside bounds counts n) ≡ None → check_sources p 0 p.nodes ≡ whole p
    unfolding pairs
    check_none e = all_fit (λ i b. unfit_not (fits (get_or (beside bounds counts n) i (no_bounds, 0))) (none_passes (λ q. not (fits q)) (beside bounds counts n) (no_bounds, 0) e i b))

    pub check_first : (i : ℕ) → position (λ q. not (fits q)) (beside bounds counts n) ≡ Some i → check_sources p 0 p.nodes ≡ refused 6 i
    unfolding pairs
    check_first i e =
        let at = position-Some (λ q. not (fits q)) (beside bounds counts n) i (no_bounds, 0) e in
        let below : i < n = omega (arith, at.0, pairs_long) in
        check_past i (omega arith) (λ k b. sym (pair_at k (omega arith)) ∙ unfit_not (fits (get_or (beside bounds counts n) k (no_bounds, 0))) (at.2 k b))
        ∙ check_wrong i (omega arith) (sym (pair_at i below) ∙ fit_not (fits (get_or (beside bounds counts n) i (no_bounds, 0))) at.1)

-- ---- the three cases of check 6

module _ (p : Parsed) where
  pub six_none : length p.nodes ≡ 0 → check_six p ≡ refused 6 0
  six_none e = rw (eq-eqb (length p.nodes) 0 e)

  module _ (some : length p.nodes ≡ 0 → ⊥) where
    pub six_walked : input_fits p ≡ true → check_six p ≡ check_sources p 0 p.nodes
    six_walked e = rw (ne_eqb (length p.nodes) 0 some, e)

    pub six_input : input_fits p ≡ false → check_six p ≡ refused 6 p.input
    six_input e = rw (ne_eqb (length p.nodes) 0 some, e)

    -- the same from the arrays: the input node is no pass, has a wire in, or is as it must be
    pub six_no_pass : pass_at p.nodes p.input ≡ false → check_six p ≡ refused 6 p.input
    six_no_pass e = six_input (rw e)

    module _ (pass : pass_at p.nodes p.input ≡ true) (counts : List ℕ)
        (counted : get_or counts p.input 0 ≡ min 9 (length (distinct_sources p.wires p.input))) where
      free : input_fits p ≡ eqb (get_or counts p.input 0) 0
      free = rw (pass, counted, none_nine (sources p.wires p.input))

      pub six_entered : (get_or counts p.input 0 ≡ 0 → ⊥) → check_six p ≡ refused 6 p.input
      six_entered e = six_input (free ∙ ne_eqb _ _ e)

      pub six_open : get_or counts p.input 0 ≡ 0 → check_six p ≡ check_sources p 0 p.nodes
      six_open e = six_walked (free ∙ eq-eqb _ _ e)

-- ---- checks 1 to 6

module _ (s : List ℕ) where
  pub six_whole : (p : Parsed) → read_records s ≡ whole p → read_board s ≡ check_six p
  unfolding read_board
  six_whole p e = ap then_six e

  pub six_refused : (n w : ℕ) → read_records s ≡ refused n w → read_board s ≡ refused n w
  unfolding read_board
  six_refused n w e = ap then_six e

  -- refused in its records, refused
  pub six_refuses : (a : Answer) → Refuses (read_records s) a → Refuses (read_board s) a
  six_refuses a h = (h.0, six_refused a.number a.place h.1)

  pub judged_whole : (p : Parsed) → read_board s ≡ whole p → judge_of s ≡ answer 0 (memory_length p)
  unfolding judge_of
  judged_whole p e = ap (answer_by memory_length) e

  pub judged_refused : (n w : ℕ) → read_board s ≡ refused n w → judge_of s ≡ answer n w
  unfolding judge_of
  judged_refused n w e = ap (answer_by memory_length) e
