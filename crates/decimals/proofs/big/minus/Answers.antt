-- `decimals::big::minus` meets its contract. The loop's invariant: the words left, with those taken off, are those passed and what is borrowed.
-- Assumes nothing.
use mathlib.Core.Path.{◌≡◌, sym, ap, subst, ◌∙◌}
use Prim.Native.Nat.{ℕ, ◌≤◌, ◌<◌, ◌+◌, ◌-◌, ◌*◌, ◌/◌, ◌%◌}
use native.Mathlib.Omega.{arith}
use borrow.Author.Rules.{rules}
use lib.ListN.{length, length-set, set}
use Rattle.decimals.specs.Big.{lowest}
use Rattle.decimals.proofs.WordSums.{weight, pow_more, lowest-more, lowest-next, difference_step, word_lt}
use Rattle.decimals.proofs.big.minus.Goals as goal

-- what a word leaves, and what it borrows
word-left : (x y k : ℕ) → x < 4294967296 → y < 4294967296 → k ≤ 1
    → x + (1 - (x + 4294967296 - y - k) / 4294967296) * 4294967296 ≡ (x + 4294967296 - y - k) % 4294967296 + y + k
word-left x y k h l b = omega arith

pub loop-i-init : goal.loop-i-init
unfolding lowest
loop-i-init c = search rules

pub loop-i-preserved : goal.loop-i-preserved
loop-i-preserved c =
    let a = c.args in
    let words = c.loop-i.words in
    let i = c.loop-i.i in
    let x = c.from.result in
    let y = c.from-in-loop-i.result in
    let left = x + 4294967296 - y - c.loop-i.borrow in
    let long : length words ≡ 16 = c.loop-i.invariant.2 in
    let next = lowest-next words i (left % 4294967296) (omega arith) in (
      search rules,
      omega arith,
      simp length-set long,
      subst (λ (v : ℕ). lowest (set words i (left % 4294967296)) (i + 1) < v) (sym (pow_more 4294967296 i))
          (subst (λ (v : ℕ). v < weight i * 4294967296) (sym next) (word_lt (weight i) (lowest words i) (left % 4294967296) c.loop-i.invariant.3 (omega arith))),
      ap (λ (v : ℕ). v + (1 - left / 4294967296) * weight (i + 1))
          (lowest-more a.a.words i ∙ ap (λ (v : ℕ). lowest a.a.words i + v * weight i) (sym c.from.ensures))
          ∙ ap (λ (v : ℕ). lowest a.a.words i + x * weight i + (1 - left / 4294967296) * v) (pow_more 4294967296 i)
          ∙ difference_step (weight i) (lowest a.a.words i) (lowest words i) (lowest a.b.words i) x y (left % 4294967296) c.loop-i.borrow (1 - left / 4294967296) c.loop-i.invariant.4 (word-left x y c.loop-i.borrow (omega arith) (omega arith) c.loop-i.invariant.1)
          ∙ ap (λ (v : ℕ). v + (lowest a.b.words i + y * weight i)) (sym next)
          ∙ ap (λ (v : ℕ). lowest (set words i (left % 4294967296)) (i + 1) + v)
          (ap (λ (v : ℕ). lowest a.b.words i + v * weight i) c.from-in-loop-i.ensures ∙ sym (lowest-more a.b.words i)),
    )
