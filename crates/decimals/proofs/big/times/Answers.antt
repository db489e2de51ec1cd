-- `decimals::big::times` meets its contract. The loop's invariant: the words made, with what is carried, are the product of those passed.
-- Assumes nothing.
use mathlib.Core.Path.{◌≡◌, sym, ap, subst, ◌∙◌}
use mathlib.Core.List.{List}
use Prim.Native.Nat.{ℕ, ◌≤◌, ◌<◌, ◌+◌, ◌*◌, ◌/◌, ◌%◌}
use native.Mathlib.Omega.{arith}
use native.Mathlib.Nat.{mul-le-mul}
use borrow.Author.Rules.{rules}
use lib.ListN.{length, length-set}
use Rattle.decimals.specs.Big.{lowest, limit}
use Rattle.decimals.proofs.WordSums.{weight, pow_more, lowest-more, lowest-next, product-step, no_carry}
use Rattle.decimals.proofs.big.times.Goals as goal

-- the product of two words
product-room : (x m : ℕ) → x < 4294967296 → m < 4294967296 → x * m ≤ 4294967295 * 4294967295
product-room x m h l = mul-le-mul {n₂ = 4294967295} {m₂ = 4294967295} (omega arith) (omega arith)

-- at the end all words are passed
all : (words read : List ℕ) (i k m c : ℕ) → i ≤ 16 → 16 ≤ i → lowest words i + k * weight i ≡ lowest read i * m + c → lowest read 16 * m + c < limit
    → lowest words 16 ≡ lowest read 16 * m + c
unfolding limit
all words read i k m c l g e h =
    let end : i ≡ 16 = omega arith in
    no_carry (weight 16) (lowest words 16) k (lowest read 16 * m + c) (subst (λ (n : ℕ). lowest words n + k * weight n ≡ lowest read n * m + c) end e) h

pub loop-i-init : goal.loop-i-init
unfolding lowest
loop-i-init c = (search rules, search rules, search rules, omega arith)

pub loop-i-preserved : goal.loop-i-preserved
loop-i-preserved c =
    let a = c.args in
    let read = a.a.words in
    let words = c.loop-i.words in
    let i = c.loop-i.i in
    let carry = c.loop-i.carry in
    let x = c.from.result in
    let m = c.from-in-loop-i.result in
    let sum = x * m + carry in
    let same = c.from-in-loop-i.ensures in
    let room = product-room x m (omega arith) (omega arith) in
    let long : length words ≡ 16 = c.loop-i.invariant.2 in (
      search rules,
      omega arith,
      simp length-set long,
      ap (λ (z : ℕ). z + sum / 4294967296 * weight (i + 1)) (lowest-next words i (sum % 4294967296) (omega arith))
          ∙ ap (λ (z : ℕ). lowest words i + sum % 4294967296 * weight i + sum / 4294967296 * z) (pow_more 4294967296 i)
          ∙ product-step (weight i) (lowest words i) (lowest read i) carry x m a.c (c.loop-i.invariant.3 ∙ ap (λ (z : ℕ). lowest read i * z + a.c) (sym same))
          ∙ ap (λ (z : ℕ). (lowest read i + z * weight i) * m + a.c) c.from.ensures
          ∙ ap (λ (z : ℕ). z * m + a.c) (sym (lowest-more read i))
          ∙ ap (λ (z : ℕ). lowest read (i + 1) * z + a.c) same,
    )

pub returns : goal.returns
returns c =
    let a = c.args in
    all c.loop-i.words a.a.words c.loop-i.i c.loop-i.carry a.m a.c c.loop-i.invariant.0 c.loop-i-test.false c.loop-i.invariant.3 c.requires
