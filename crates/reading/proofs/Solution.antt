-- The equations in samples are the equations by block and place, and so the theorem holds of what solves them.
--     there_is      there is a reading
--     only          and only one
--     as_read       the block run writes and leaves what it says
-- Assumes nothing.
use mathlib.Core.Path.{◌≡◌, refl, sym, ap, ◌∙◌}
use mathlib.Core.Logic.{◌≢◌, ⊎_elim}
use Prim.Native.Nat.{ℕ, zero, suc, ◌+◌, ◌-◌, ◌*◌, ◌/◌, ◌%◌, ◌≤◌, ◌<◌}
use native.Mathlib.Nat.{le_of_lt, add-zero, not-suc-le-zero, mul-mod_left, mul-div_cancel, div-lt_iff_lt-mul, div-add-mod', div-eq_of_lt, div-eq-sub-div, mod-eq-sub-mod, mod-lt, zero-div, zero-mod}
use native.Mathlib.Numerals.{add-one}
use native.Mathlib.Omega.{arith}
use native.Mathlib.Decide.{dec_le}
use mathlib.Core.Bool.{Bool, cond}
use mathlib.Core.List.{List, [], ◌∷◌}
use lib.ListN.{get_or}
use lib.Dec.{leb, eqb}
use lib.Arith.{digits_lt, digits_div, digits_mod}
use borrow.Author.Tests.{le-leb, lt-leb, eq-eqb, ne_eqb}
use Rattle.reading.specs.Table.{tab}
use Rattle.reading.specs.Effect.{Effect, inputs, blocks, wiring_after, wiring_in, told, heard}
use Rattle.reading.specs.Calls.{after_calls, replies}
use Rattle.reading.specs.Board.{Rules, Board, Proper, Orders, silent, entered}
use Rattle.reading.specs.Blocks.{run_call, fresh_cells}
use Rattle.reading.specs.Past.{start}
use Rattle.reading.specs.Time.{Timed, block_ago, last_block}
use Rattle.reading.specs.Solution.{end, in_force, told_at, row, IsSolution, cells_after, outputs_by}
use Rattle.reading.proofs.Table.{tab_agree}
use Rattle.reading.proofs.Times.{next_time}
use Rattle.reading.proofs.Calls.{wiring_ok}
use Rattle.reading.proofs.Main.{block_reading}
use Rattle.reading.proofs.Time.{Placed, earlier_in, row_at, Solves, samples_from, states_from, solves_from, Along, outputs_in, outputs_follow, left_follow, samples_are}

-- ---- samples by block and place, and by time, for blocks of n

abbrev by_block : {A : Type 0} → ℕ → Timed A → Placed A
by_block n s b i k = s (b * n + i) k

abbrev by_time : {A : Type 0} → ℕ → Placed A → Timed A
by_time n s t k = s (t / n) (t % n) k

abbrev none : {Out : Type 0} → Out → ℕ → ℕ → Out
none silence i k = silence

-- one block earlier, by either account
pub earlier_block : {Out : Type 0} (n : ℕ) (silence : Out) (s : Timed Out) (b i k : ℕ) → i < n
    → block_ago n silence s (b * n + i) k ≡ earlier_in (none silence) (by_block n s) b i k
earlier_block n silence s zero i k h =
    ap (λ (t : Bool). cond t (s (0 * n + i - n) k) silence) (lt-leb n (0 * n + i) (omega arith))
earlier_block n silence s (suc b) i k h =
    let m : n ≤ suc b * n + i = omega arith in
    let d : suc b * n + i - n ≡ b * n + i = omega arith in
    ap (λ (t : Bool). cond t (s (suc b * n + i - n) k) silence) (le-leb n (suc b * n + i) m) ∙ ap (λ (t : ℕ). s t k) d

earlier_time : {Out : Type 0} (n : ℕ) (silence : Out) (s : Placed Out) → zero < n → (t k : ℕ)
    → earlier_in (none silence) s (t / n) (t % n) k ≡ block_ago n silence (by_time n s) t k
earlier_time n silence s pos t k = go (dec_le n t)
  where
    go : Dec (n ≤ t) → earlier_in (none silence) s (t / n) (t % n) k ≡ cond (leb n t) (by_time n s (t - n) k) silence
    go (yes h) =
        ap (λ (b : ℕ). earlier_in (none silence) s b (t % n) k) (div-eq-sub-div pos h ∙ add-one ((t - n) / n))
        ∙ ap (λ (i : ℕ). s ((t - n) / n) i k) (mod-eq-sub-mod h)
        ∙ ap (λ (b : Bool). cond b (by_time n s (t - n) k) silence) (sym (le-leb n t h))
    go (no h) =
        let small : t < n = omega arith in
        ap (λ (b : ℕ). earlier_in (none silence) s b (t % n) k) (div-eq_of_lt small)
        ∙ ap (λ (b : Bool). cond b (by_time n s (t - n) k) silence) (sym (lt-leb n t small))

-- node k's last block, where b have been run
last_block_lem : {Out : Type 0} (n : ℕ) (silence : Out) (s : Timed Out) (b k : ℕ)
    → tab n (λ i. earlier_in (none silence) (by_block n s) b i k) ≡ last_block n silence s b k
last_block_lem n silence s b k = tab_agree n _ _ (λ i h. sym (earlier_block n silence s b i k h))

module _ {C W In Out State Value : Type 0} (B : Board C W In Out Value) (R : W → Rules Out State Value) (pos : zero < B.size)
    (es : List (Effect W In Value)) where
  -- ---- what solves the equations in samples solves those by block and place

  module _ (s : Timed Out) (u : Timed State) (f : IsSolution B R es s u) where
    -- what is known after a time, and before place i of block b
    abbrev after : Timed State
    after t k = (row B R es s u t k).1

    abbrev states : Placed State
    states b zero = u (b * B.size)
    states b (suc i) = after (b * B.size + i)

    -- within a block no number is set
    before_is : (b i k : ℕ) → b < blocks es → i < B.size → u (b * B.size + i) k ≡ states b i k
    before_is b zero k l h = ap (λ (t : ℕ). u t k) (add-zero (b * B.size))
    before_is b (suc i) k l h =
        let t : ℕ = b * B.size + i in
        let e : b * B.size + suc i ≡ suc t = omega arith in
        let m : suc t % B.size ≡ suc i = ap (λ (n : ℕ). n % B.size) (sym e) ∙ digits_mod b h in
        let a : suc t % B.size ≢ 0 = omega arith in
        ap (λ (n : ℕ). u n k) e
        ∙ f.next t k (digits_lt l (le_of_lt h))
        ∙ ap (λ (q : Bool). cond q (told (R B.first).set es (suc t / B.size) k (after t k)) (after t k)) (ne_eqb _ _ a)

    last_is : (b n k : ℕ) → zero < n → states b n k ≡ after (b * B.size + (n - 1)) k
    last_is b zero k h = absurd (not-suc-le-zero h)
    last_is b (suc n) k h = let e : n ≡ suc n - 1 = omega arith in ap (λ (i : ℕ). after (b * B.size + i) k) e

    -- between blocks they are
    next_is : (b k : ℕ) → b < blocks es → u (suc b * B.size) k ≡ told (R B.first).set es (suc b) k (states b B.size k)
    next_is b k l =
        let inside : B.size - 1 < B.size = omega arith in
        let t : ℕ = b * B.size + (B.size - 1) in
        let e : suc t ≡ suc b * B.size = omega arith in
        ap (λ (n : ℕ). u n k) (sym e)
        ∙ f.next t k (digits_lt l inside)
        ∙ ap (λ (q : Bool). cond q (told (R B.first).set es (suc t / B.size) k (after t k)) (after t k))
        (eq-eqb _ _ (ap (λ (n : ℕ). n % B.size) e ∙ mul-mod_left (suc b) B.size))
        ∙ ap (λ (n : ℕ). told (R B.first).set es n k (after t k)) (ap (λ (n : ℕ). n / B.size) e ∙ mul-div_cancel (suc b) pos)
        ∙ ap (told (R B.first).set es (suc b) k) (sym (last_is b B.size k pos))

    placed : Solves B R B.first es (none (silent B)) (R B.first).fresh (by_block B.size s) states
    placed =
        record {
          first = λ k. let z : 0 * B.size ≡ 0 = omega arith in ap (λ (t : ℕ). u t k) z ∙ f.first k;
          next = next_is;
          row = λ b i k l h.
              let t : ℕ = b * B.size + i in
              (λ j. (f.sample t k (digits_lt l h) j, after t k))
              ∙ (λ j. row_at B R (wiring_in B.first es (digits_div b h j)) (digits_mod b h j) (entered B (get_or (inputs es) (digits_div b h j) []) (digits_mod b h j))
              (λ a. earlier_block B.size (silent B) s b i a h j) (s t) (λ a. before_is b i a l h j) k);
        }

  -- ---- and the other way round

  module _ (s : Placed Out) (st : Placed State) (r : Solves B R B.first es (none (silent B)) (R B.first).fresh s st) where
    abbrev before : Timed State
    before = by_time B.size st

    in_block : (t : ℕ) → t < end B es → t / B.size < blocks es
    in_block t h = (div-lt_iff_lt-mul pos).1 h

    row_is : (t k : ℕ) → t < end B es
        → ◌≡◌ {A = Out × State} (by_time B.size s t k, st (t / B.size) (suc (t % B.size)) k) (row B R es (by_time B.size s) before t k)
    row_is t k h =
        r.row (t / B.size) (t % B.size) k (in_block t h) (mod-lt t pos)
        ∙ (λ j. row_at B R (in_force B es t) (t % B.size) (entered B (get_or (inputs es) (t / B.size) []) (t % B.size))
        (λ a. earlier_time B.size (silent B) s pos t a j) (by_time B.size s t) (before t) k)

    next_from : (t k : ℕ) → t < end B es → before (suc t) k ≡ told_at B R es (suc t) k (st (t / B.size) (suc (t % B.size)) k)
    next_from t k h =
        ⊎_elim (λ w. pick w.0 w.1 (r.next b k (in_block t h) ∙ ap (λ (n : ℕ). told (R B.first).set es (suc b) k (st b n k)) (sym w.2)))
        (λ w. pick w.0 w.1
        (ap (λ (q : Bool). cond q (told (R B.first).set es b k then) then) (sym (ne_eqb _ _ (let z : suc (t % B.size) ≢ 0 = omega arith in z)))))
        (next_time B.size t pos)
      where
        b : ℕ
        b = t / B.size

        then : State
        then = st b (suc (t % B.size)) k

        pick : {x y : ℕ} → suc t / B.size ≡ x → suc t % B.size ≡ y → st x y k ≡ cond (eqb y 0) (told (R B.first).set es x k then) then
            → before (suc t) k ≡ told_at B R es (suc t) k then
        pick p q e = (λ i. st (p i) (q i) k) ∙ e ∙ (λ i. cond (eqb (sym q i) 0) (told (R B.first).set es (sym p i) k then) then)

    timed : IsSolution B R es (by_time B.size s) before
    timed = record {
      first = λ k. (λ i. st (zero-div B.size i) (zero-mod B.size i) k) ∙ r.first k;
      sample = λ t k h. ap (λ (x : Out × State). x.0) (row_is t k h);
      next = λ t k h. next_from t k h ∙ ap (λ (x : Out × State). told_at B R es (suc t) k x.1) (row_is t k h);
    }

-- ---- the theorem

module _ {C W In Out State Value : Type 0} (B : Board C W In Out Value) (R : W → Rules Out State Value) (Ok : W → Type 0) (pos : zero < B.size)
    (ok : Proper B Ok) (cs : List C) where
  abbrev es : List (Effect W In Value)
  es = heard B.effects B.first cs

  abbrev pub samples : Timed Out
  samples = by_time B.size (samples_from B R B.first (start B R) es)

  abbrev pub known : Timed State
  known = by_time B.size (states_from B R B.first (start B R) es)

  -- There is a reading of every list of calls.
  pub there_is : IsSolution B R es samples known
  there_is =
      timed B R pos es (samples_from B R B.first (start B R) es) (states_from B R B.first (start B R) es)
      (solves_from B R Ok ok.each es B.first (start B R) (wiring_ok B Ok ok cs))

  module _ (s : Timed Out) (u : Timed State) (f : IsSolution B R es s u) where
    along : Along B R Ok ok.each (by_block B.size s) (states B R pos es s u f) B.first (start B R) es 0
    along = record {
      oks = wiring_ok B Ok ok cs;
      before = none (silent B);
      s = by_block B.size s;
      st = states B R pos es s u f;
      solves = placed B R pos es s u f;
      old = λ i k h. refl;
      before_link = λ i k. refl;
      samples_link = λ j i k. let e : j ≡ 0 + j = omega arith in ap (λ (n : ℕ). by_block B.size s n i k) e;
      states_link = λ j i k. let e : j ≡ 0 + j = omega arith in ap (λ (n : ℕ). states B R pos es s u f n i k) e;
    }

    -- And only one.
    pub only : (t k : ℕ) → t < end B es → s t k ≡ samples t k
    only t k h =
        let b : ℕ = t / B.size in
        let e : t ≡ (0 + b) * B.size + t % B.size = omega (arith, div-add-mod' t B.size) in
        ap (λ (n : ℕ). s n k) e
        ∙ samples_are B R Ok ok.each (by_block B.size s) (states B R pos es s u f) es B.first (start B R) 0 along b (t % B.size) k
        ((div-lt_iff_lt-mul pos).1 h) (mod-lt t pos)

    outputs_are : (ds : List C) (w : W) (b : ℕ)
        → outputs_in B R Ok ok.each (by_block B.size s) (states B R pos es s u f) w b ds ≡ outputs_by B s w b ds
    outputs_are [] w b = refl
    outputs_are (c ∷ ds) w b =
        λ i. last_block_lem B.size (silent B) s (b + blocks (B.effects w c)) B.sink i
        ∷ outputs_are ds (wiring_after w (B.effects w c)) (b + blocks (B.effects w c)) i

    -- From fresh memory, whatever the list of calls, changes and refused ones among them, and whatever the orders: every call writes what the
    -- reading says, and the wiring and all cells afterwards are the reading's.
    pub as_read : (o : W → List ℕ) → Orders B Ok o
        → (replies (run_call B R o) cs (B.first, fresh_cells B R) ≡ outputs_by B s B.first 0 cs)
        × (after_calls (run_call B R o) cs (B.first, fresh_cells B R) ≡ (wiring_after B.first es, cells_after B es s u))
    as_read o fit =
        let ran = block_reading B R Ok ok o fit cs in
        let S = by_block B.size s in
        let ST = states B R pos es s u f in
        let end = left_follow B R Ok ok.each S ST cs B.first (start B R) along in (
          ran.0 ∙ outputs_follow B R Ok ok.each S ST cs B.first (start B R) 0 along ∙ outputs_are cs B.first 0,
          ran.1
              ∙ (λ i. (
                end.0 i,
                λ k. record {
                  state = end.1 k i;
                  samples = (tab_agree B.size _ _ (λ j h. end.2 j k h) ∙ last_block_lem B.size (silent B) s (blocks es) k) i;
                },
              )),
        )
