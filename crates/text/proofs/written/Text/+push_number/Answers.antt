-- `text::written::Text::push_number` meets its contract: a digit; or the digits before the last, then the last. The measure is the number.
-- Assumes nothing.
use mathlib.Core.Path.{ap}
use mathlib.Core.List.{List}
use Prim.Native.Nat.{ℕ, ◌+◌, ◌<◌, ◌≤◌}
use native.Mathlib.Omega.{arith}
use borrow.Author.Rules.{rules}
use lib.ListN.{length, length-append}
use Rattle.text.specs.Written.{Appends, number}
use Rattle.text.proofs.Digits.{number_digit, number_more, number_below}
use Rattle.text.proofs.Writing.{wrote_both}
use Rattle.text.proofs.written.Text.+push_number.Goals as goal

pub returns-then-v-lt10 : goal.returns-then-v-lt10
returns-then-v-lt10 g t c = record { wrote = rw (number_digit _ c.if-v-lt10.true) c.push.ensures.text; short = omega (arith, c.push.ensures.len) }

-- a number below 10^9 leaves room for a digit
nine : (n : ℕ) (o o' : List ℕ) → Appends 10 o (number n) o' → n < 1000000000 → length o' ≤ length o + 9
nine n o o' a h = omega (arith, ap (λ (l : List ℕ). length l) a.wrote, length-append o (number n), number_below n h)

pub push-requires-2 : goal.push-requires-2
push-requires-2 g t c =
    let few = nine _ c.args.self.now _ c.push_number.ensures (omega arith) in
    (search rules, omega (arith, few))

pub returns : goal.returns
returns g t c =
    let v = c.args.v in
    record {
      wrote = rw (number_more v (omega arith) (omega arith)) (wrote_both c.args.self.now _ _ c.push_number.ensures.wrote c.push-2.ensures.text);
      short = omega (arith, nine _ c.args.self.now _ c.push_number.ensures (omega arith), c.push-2.ensures.len);
    }
