-- Digits read one after the other: a step, a stop, and what a run up to the end says. Assumes nothing.
use mathlib.Core.Path.{◌≡◌, refl, sym, ap, subst, ◌∙◌}
use mathlib.Core.Bool.{Bool, true, false, cond}
use mathlib.Core.List.{List, [], ◌∷◌}
use Prim.Native.Nat.{ℕ, zero, suc, ◌+◌, ◌*◌, ◌^◌, ◌<◌, ◌≤◌}
use native.Mathlib.Decide.{dec_lt}
use native.Mathlib.Nat.{le_trans, le_of_eq, mul_assoc, mul-one, mul-le-mul_left, mul-le-mul_right, pow-succ', one-le-pow}
use native.Mathlib.Numerals.{add-one}
use native.Mathlib.Omega.{arith}
use borrow.Author.Tests.{lt-ltb, le-ltb, ltb-true, eq-eqb, ne_eqb}
use lib.Dec.{ltb}
use lib.Ieee as ieee
use lib.ListN.{length, drop, get_or, drop_of_length-le, length-take}
use lib.Seq.{drop-cons, get_or-take}
use Rattle.std.proofs.lemmas.Bool.Decides.{nat_tests}
use Rattle.std.specs.Prelude.{SomeIff, MatchOption, Option, Some, None, Ok, Err, ◌⊎◌}
use Rattle.std.specs.Char.{digit_value}
use Rattle.decimals.specs.declared.number.FloatError.TheVariants.{Bad}
use Rattle.decimals.specs.declared.number.Run.{Run}
use Rattle.decimals.specs.Number.{digit_of, more, digits_from, read_from, upto, whole_of, hex_from, bits_of, first_digits, Decimals, number_from, parts, digits_of, power_of, signed, powered, decimal_by, decimal, float_of}

-- ---- a digit, as the library reads it

digit_cases : (c : ℕ) → ((digit_value c < 16) × (digit_of c ≡ digit_value c)) ⊎ ((16 ≤ digit_value c) × (digit_of c ≡ 16))
unfolding digit_of
digit_cases c = grind (arith, nat_tests)

pub digit_found : (r : Option ℕ) (c base : ℕ) → base ≤ 16 → SomeIff r (digit_value c < base) (digit_value c)
    → MatchOption r (base ≤ digit_of c) (λ d. (d ≡ digit_of c) × (d < base))
digit_found None c base h n = let cases = digit_cases c in grind arith
digit_found (Some d) c base h n = let cases = digit_cases c in grind arith

-- ---- a run of digits

module _ (s : List ℕ) (i v : ℕ) where
  pub run_more : i < length s → ltb (digit_of (get_or s i 0)) 10 ≡ true
      → digits_from (drop i s) v i ≡ digits_from (drop (i + 1) s) (more v (digit_of (get_or s i 0))) (i + 1)
  unfolding digits_from
  run_more h t =
      ap (λ (l : List ℕ). digits_from l v i) (drop-cons s i 0 h)
      ∙ ap (λ (b : Bool). cond b (digits_from (drop (suc i) s) (more v (digit_of (get_or s i 0))) (i + 1)) (record { value = v; next = i })) t
      ∙ ap (λ (n : ℕ). digits_from (drop n s) (more v (digit_of (get_or s i 0))) (i + 1)) (sym (add-one i))

  pub run_stop : i < length s → ltb (digit_of (get_or s i 0)) 10 ≡ false → digits_from (drop i s) v i ≡ record { value = v; next = i }
  unfolding digits_from
  run_stop h t =
      ap (λ (l : List ℕ). digits_from l v i) (drop-cons s i 0 h)
      ∙ ap (λ (b : Bool). cond b (digits_from (drop (suc i) s) (more v (digit_of (get_or s i 0))) (i + 1)) (record { value = v; next = i })) t

  pub run_end : length s ≤ i → digits_from (drop i s) v i ≡ record { value = v; next = i }
  unfolding digits_from
  run_end h = ap (λ (l : List ℕ). digits_from l v i) (drop_of_length-le s h)

-- a run up to the end is the whole text's number
pub run-whole : (s : List ℕ) (v i : ℕ) → (digits_from s v i).next ≡ i + length s → read_from s v ≡ Some (digits_from s v i).value
unfolding digits_from read_from
run-whole [] v i e = refl
run-whole (c ∷ s) v i e = pick (ltb (digit_of c) 10) e (run-whole s (more v (digit_of c)) (i + 1))
  where
    pick : (b : Bool)
        → (cond {A = Run} b (digits_from s (more v (digit_of c)) (i + 1)) (record { value = v; next = i })).next ≡ i + suc (length s)
        → ((digits_from s (more v (digit_of c)) (i + 1)).next ≡ i + 1 + length s → read_from s (more v (digit_of c)) ≡ Some (digits_from s (more v (digit_of c)) (i + 1)).value)
        → cond b (read_from s (more v (digit_of c))) None ≡ Some (cond {A = Run} b (digits_from s (more v (digit_of c)) (i + 1)) (record { value = v; next = i })).value
    pick true e rest = rest (omega (arith, e))
    pick false e rest = absurd (omega (arith, e))

-- one that stops earlier says none
pub run_short : (s : List ℕ) (v i : ℕ) → (digits_from s v i).next < i + length s → read_from s v ≡ None
unfolding digits_from read_from
run_short [] v i h = absurd (omega (arith, h))
run_short (c ∷ s) v i h = pick (ltb (digit_of c) 10) h (run_short s (more v (digit_of c)) (i + 1))
  where
    pick : (b : Bool)
        → (cond {A = Run} b (digits_from s (more v (digit_of c)) (i + 1)) (record { value = v; next = i })).next < i + suc (length s)
        → ((digits_from s (more v (digit_of c)) (i + 1)).next < i + 1 + length s → read_from s (more v (digit_of c)) ≡ None)
        → cond b (read_from s (more v (digit_of c))) None ≡ None
    pick true h rest = rest (omega (arith, h))
    pick false h rest = refl

cut : (s : List ℕ) (most : ℕ) → (digits_from s 0 0).next < length s → whole_of s most ≡ None
unfolding whole_of
cut [] most h = refl
cut (c ∷ s) most h = ap (upto most) (run_short (c ∷ s) 0 0 (omega (arith, h)))

ended : (s : List ℕ) (most : ℕ) → 0 < length s → (digits_from s 0 0).next ≡ length s → whole_of s most ≡ upto most (Some (digits_from s 0 0).value)
unfolding whole_of
ended [] most p e = absurd (omega (arith, p))
ended (c ∷ s) most p e = ap (upto most) (run-whole (c ∷ s) 0 0 (omega (arith, e)))

empty : (s : List ℕ) (most : ℕ) → length s ≡ 0 → whole_of s most ≡ None
unfolding whole_of
empty [] most e = refl
empty (c ∷ s) most e = absurd (omega (arith, e))

-- what a word's run r says of its whole number
module _ (s : List ℕ) (most : ℕ) (r : Run) (is-run : r ≡ digits_from s 0 0) where
  place : r.next ≡ (digits_from s 0 0).next
  place = ap (λ (x : Run). x.next) is-run

  pub whole_cut : r.next < length s → None ≡ whole_of s most
  whole_cut h = sym (cut s most (omega (arith, place)))

  pub whole_stopped : r.next ≡ 0 → None ≡ whole_of s most
  whole_stopped h = pick (dec_lt 0 (length s))
    where
      pick : Dec (0 < length s) → None ≡ whole_of s most
      pick (yes l) = whole_cut (omega arith)
      pick (no g) = sym (empty s most (omega arith))

  whole_judged : 0 < length s → r.next ≡ length s → (b : Bool) → ltb most r.value ≡ b → cond b None (Some r.value) ≡ whole_of s most
  whole_judged p e b t =
      ap (λ (x : Bool). cond x None (Some r.value)) (sym t)
      ∙ ap (λ (x : Run). upto most (Some x.value)) is-run
      ∙ sym (ended s most p (sym place ∙ e))

  pub whole_large : 0 < length s → r.next ≡ length s → most < r.value → None ≡ whole_of s most
  whole_large p e h = whole_judged p e true (lt-ltb most r.value h)

  pub whole_fits : 0 < length s → r.next ≡ length s → r.value ≤ most → Some r.value ≡ whole_of s most
  whole_fits p e h = whole_judged p e false (le-ltb most r.value h)

-- ---- digits of base 16

module _ (s : List ℕ) (i v : ℕ) where
  pub hex_more : i < length s → ltb (digit_of (get_or s i 0)) 16 ≡ true → hex_from (drop i s) v ≡ hex_from (drop (i + 1) s) (v * 16 + digit_of (get_or s i 0))
  unfolding hex_from
  hex_more h t =
      ap (λ (l : List ℕ). hex_from l v) (drop-cons s i 0 h)
      ∙ ap (λ (b : Bool). cond b (hex_from (drop (suc i) s) (v * 16 + digit_of (get_or s i 0))) (Err Bad)) t
      ∙ ap (λ (n : ℕ). hex_from (drop n s) (v * 16 + digit_of (get_or s i 0))) (sym (add-one i))

  pub hex_stop : i < length s → ltb (digit_of (get_or s i 0)) 16 ≡ false → hex_from (drop i s) v ≡ Err Bad
  unfolding hex_from
  hex_stop h t =
      ap (λ (l : List ℕ). hex_from l v) (drop-cons s i 0 h)
      ∙ ap (λ (b : Bool). cond b (hex_from (drop (suc i) s) (v * 16 + digit_of (get_or s i 0))) (Err Bad)) t

  pub hex_end : length s ≤ i → hex_from (drop i s) v ≡ Ok v
  unfolding hex_from
  hex_end h = ap (λ (l : List ℕ). hex_from l v) (drop_of_length-le s h)

pub bits_long : (s : List ℕ) → length s ≡ 8 → hex_from s 0 ≡ bits_of s
unfolding bits_of
bits_long s e = sym (ap (λ (b : Bool). cond b (hex_from s 0) (Err Bad)) (eq-eqb (length s) 8 e))

pub bits_short : (s : List ℕ) → (length s ≡ 8 → ⊥) → Err Bad ≡ bits_of s
unfolding bits_of
bits_short s n = sym (ap (λ (b : Bool). cond b (hex_from s 0) (Err Bad)) (ne_eqb (length s) 8 n))

-- ---- decimals

-- each byte of a run is a digit
pub run-digits : (s : List ℕ) (v i k : ℕ) → i + k < (digits_from s v i).next → digit_of (get_or s k 0) < 10
unfolding digits_from
run-digits [] v i k h = absurd (omega arith)
run-digits (c ∷ s) v i k h = pick k (ltb (digit_of c) 10) (ltb-true (digit_of c) 10) (run-digits s (more v (digit_of c)) (i + 1)) h
  where
    pick : (k : ℕ) (b : Bool) → (b ≡ true → digit_of c < 10)
        → ((k : ℕ) → i + 1 + k < (digits_from s (more v (digit_of c)) (i + 1)).next → digit_of (get_or s k 0) < 10)
        → i + k < (cond {A = Run} b (digits_from s (more v (digit_of c)) (i + 1)) (record { value = v; next = i })).next → digit_of (get_or (c ∷ s) k 0) < 10
    pick zero true t on h = t refl
    pick (suc k) true t on h = on k (omega arith)
    pick k false t on h = absurd (omega arith)

pub first_decimals : (s : List ℕ) → Decimals (first_digits s)
first_decimals s k h =
    let n = (digits_from s 0 0).next in
    let short : k < n = omega (arith, length-take n s) in
    subst (λ (c : ℕ). digit_of c < 10) (sym (get_or-take n s k 0 short)) (run-digits s 0 0 k (omega (arith, short)))

-- the number of digits, one after the other
module _ (s : List ℕ) (i v : ℕ) where
  pub number_more : i < length s → number_from (drop i s) v ≡ number_from (drop (i + 1) s) (v * 10 + digit_of (get_or s i 0))
  unfolding number_from
  number_more h = rw (add-one, drop-cons s i 0)

  pub number_end : length s ≤ i → number_from (drop i s) v ≡ v
  unfolding number_from
  number_end h = ap (λ (l : List ℕ). number_from l v) (drop_of_length-le s h)

-- a digit more leaves room for the others: v is the number so far, and n digits follow it
pub room_step : (v d n w : ℕ) → d < 10 → (v + 1) * 10 ^ suc n ≤ w → (v * 10 + d + 1) * 10 ^ n ≤ w
room_step v d n w h r =
    let under : v * 10 + d + 1 ≤ (v + 1) * 10 = omega arith in
    le_trans (mul-le-mul_right (10 ^ n) under)
    (le_trans (le_of_eq (mul_assoc (v + 1) 10 (10 ^ n) ∙ ap (λ (x : ℕ). (v + 1) * x) (sym (pow-succ' 10 n)))) r)

pub room_now : (v d n w : ℕ) → d < 10 → (v + 1) * 10 ^ suc n ≤ w → v * 10 + d ≤ w
room_now v d n w h r =
    le_trans (omega (arith, mul-one ((v * 10 + d + 1)))) (le_trans (mul-le-mul_left (v * 10 + d + 1) (one-le-pow n 10 (omega arith))) (room_step v d n w h r))

-- a decimal, by its parts: no digit; or a power of ten behind the digits
module _ (minus : Bool) (word whole fraction rest : List ℕ) (found : parts whole fraction rest ≡ digits_of word) where
  pub decimal_none : length whole + length fraction ≡ 0 → Err Bad ≡ decimal minus word
  unfolding decimal
  decimal_none e = rw (eq-eqb (length whole + length fraction) 0 e) at (ap (decimal_by minus) found)

  pub decimal_some : (length whole + length fraction ≡ 0 → ⊥) → powered minus (parts whole fraction rest) (power_of rest) ≡ decimal minus word
  unfolding decimal
  decimal_some n = rw (ne_eqb (length whole + length fraction) 0 n) at (ap (decimal_by minus) found)

-- a sign in front of the bits
pub signed_is : (minus : Bool) (x : ieee.Float) (bits : ℕ) → bits ≡ ieee.to_bits ieee.binary32 x → ieee.to_bits ieee.binary32 (ieee.neg x) ≡ 2147483648 + ieee.to_bits ieee.binary32 x
    → Ok (cond minus (2147483648 + bits) bits) ≡ signed minus x
signed_is true x bits e n = ap Ok (ap (λ (z : ℕ). 2147483648 + z) e ∙ sym n)
signed_is false x bits e n = ap Ok e

-- an empty word is no float
pub float_empty : (word : List ℕ) → length word ≡ 0 → Err Bad ≡ float_of word
unfolding float_of decimal digits_of digits_from
float_empty [] e = refl
float_empty (c ∷ word) e = absurd (omega arith)
