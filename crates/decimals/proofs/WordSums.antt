-- Whole numbers in words: one power more, one word more, one word set, and a word of a product and of a difference. Assumes nothing.
use mathlib.Core.Path.{◌≡◌, refl, sym, ap, ◌∙◌}
use mathlib.Core.List.{List}
use Prim.Native.Nat.{ℕ, zero, suc, ◌+◌, ◌*◌, ◌/◌, ◌%◌, ◌^◌, ◌<◌, ◌≤◌}
use native.Mathlib.Nat.{div-add-mod', zero-mul, suc-mul, add-mul, mul_assoc, mul_right_comm, pow-suc, mul-le-mul_right}
use native.Mathlib.Numerals.{add-one}
use native.Mathlib.Omega.{arith}
use lib.ListN.{length, get_or, set}
use lib.Seq.{get_or-set_same, get_or-set_other}
use Rattle.decimals.specs.Big.{lowest}

-- the weight of word i
abbrev pub weight : ℕ → ℕ
weight i = 4294967296 ^ i

-- one power more
pub pow_more : (m i : ℕ) → m ^ (i + 1) ≡ m ^ i * m
pow_more m i = ap (λ (n : ℕ). m ^ n) (add-one i) ∙ pow-suc m i

pub raised_more : (a v m i : ℕ) → v ≡ a * m ^ i → v * m + 0 ≡ a * m ^ (i + 1)
raised_more a v m i e =
    let on : v * m ≡ a * m ^ (i + 1) = ap (λ (x : ℕ). x * m) e ∙ mul_assoc a (m ^ i) m ∙ ap (λ (x : ℕ). a * x) (sym (pow_more m i)) in
    omega arith

pub lowest-more : (a : List ℕ) (i : ℕ) → lowest a (i + 1) ≡ lowest a i + get_or a i 0 * weight i
unfolding lowest
lowest-more a i = ap (lowest a) (add-one i)

-- a word that is set leaves the words below it
pub lowest_set : (a : List ℕ) (i v : ℕ) (j : ℕ) → j ≤ i → lowest (set a i v) j ≡ lowest a j
unfolding lowest
lowest_set a i v zero h = refl
lowest_set a i v (suc j) h =
    ap (λ (x : ℕ). x + get_or (set a i v) j 0 * weight j) (lowest_set a i v j (omega arith))
    ∙ ap (λ (x : ℕ). lowest a j + x * weight j) (get_or-set_other a i j v 0 (λ e. omega arith))

-- and is the next word's share
pub lowest-next : (a : List ℕ) (i v : ℕ) → i < length a → lowest (set a i v) (i + 1) ≡ lowest a i + v * weight i
lowest-next a i v h =
    lowest-more (set a i v) i
    ∙ ap (λ (x : ℕ). x + get_or (set a i v) i 0 * weight i) (lowest_set a i v i (omega arith))
    ∙ ap (λ (x : ℕ). lowest a i + x * weight i) (get_or-set_same a i v 0 h)

-- one word of a product: what is kept and what is carried, at the weight p
pub product-step : (p l a k x m c : ℕ) → l + k * p ≡ a * m + c
    → l + (x * m + k) % 4294967296 * p + (x * m + k) / 4294967296 * (p * 4294967296) ≡ (a + x * p) * m + c
product-step p l a k x m c h =
    let w = x * m + k in
    let high : w / 4294967296 * (p * 4294967296) ≡ w / 4294967296 * 4294967296 * p =
    sym (mul_assoc (w / 4294967296) p 4294967296) ∙ mul_right_comm (w / 4294967296) p 4294967296 in
    let whole : w / 4294967296 * 4294967296 * p + w % 4294967296 * p ≡ w * p =
    sym (add-mul (w / 4294967296 * 4294967296) (w % 4294967296) p) ∙ ap (λ (z : ℕ). z * p) (div-add-mod' w 4294967296) in
    let parts = add-mul (x * m) k p in
    let right = add-mul a (x * p) m in
    let swap = mul_right_comm x p m in
    omega arith

-- one word of a difference
pub difference_step : (p a r b x y z k n : ℕ) → a + k * p ≡ r + b → x + n * 4294967296 ≡ z + y + k → a + x * p + n * (p * 4294967296) ≡ r + z * p + (b + y * p)
difference_step p a r b x y z k n h e =
    let high : n * (p * 4294967296) ≡ n * 4294967296 * p = sym (mul_assoc n p 4294967296) ∙ mul_right_comm n p 4294967296 in
    let word : (x + n * 4294967296) * p ≡ (z + y + k) * p = ap (λ (v : ℕ). v * p) e in
    let left = add-mul x (n * 4294967296) p in
    let right = add-mul (z + y) k p in
    let more = add-mul z y p in
    omega arith

-- a word below 2^32 on top of what is below its weight
pub word_lt : (p l v : ℕ) → l < p → v < 4294967296 → l + v * p < p * 4294967296
word_lt p l v h u =
    let share : (1 + v) * p ≤ 4294967296 * p = mul-le-mul_right p (omega arith) in
    omega (arith, add-mul 1 v p)

-- what is carried out of a number below the limit is nothing
pub no_carry : (limit r k t : ℕ) → r + k * limit ≡ t → t < limit → r ≡ t
no_carry limit r zero t e h = omega (arith, zero-mul limit)
no_carry limit r (suc k) t e h = absurd (omega (arith, suc-mul k limit))
