-- `records::record::found_at` meets its contract: at each `return` the tests that led there say which case of `found_at` holds. Assumes
-- nothing.
use Prim.Native.Nat.{◌-◌, ◌≤◌, ◌<◌}
use mathlib.Core.Path.{◌∙◌}
use lib.ListN.{length}
use borrow.Author.Tests.{lt-ltb, le-ltb}
use native.Mathlib.Omega.{arith}
use Rattle.records.specs.Record.{found_at}
use Rattle.records.proofs.record.found_at.Goals as goal

pub returns-then-left-lt4 : goal.returns-then-left-lt4
unfolding found_at
returns-then-left-lt4 c =
    let few : length c.args.s.now - c.args.at < 4 = omega (arith, c.saturating_sub-left.ensures) in
    simp (lt-ltb _ _ few)

pub returns-then-left-from : goal.returns-then-left-from
unfolding found_at
returns-then-left-from c =
    let left = c.saturating_sub-left.ensures in
    let some : 4 ≤ length c.args.s.now - c.args.at = omega (arith, left) in
    let less : length c.args.s.now - c.args.at < c.u16_at-size.result = omega (arith, left, c.from.ensures) in
    simp (le-ltb _ _ some, ← c.u16_at-size.ensures, lt-ltb _ _ less)

pub returns-then-in_order : goal.returns-then-in_order
unfolding found_at
returns-then-in_order c =
    let left = c.saturating_sub-left.ensures in
    let some : 4 ≤ length c.args.s.now - c.args.at = omega (arith, left) in
    let there : c.u16_at-size.result ≤ length c.args.s.now - c.args.at = omega (arith, left, c.from.ensures) in
    c.found_of.ensures
    ∙ simp (le-ltb _ _ some, ← c.u16_at-size.ensures, le-ltb _ _ there, ← c.u16_at-kind.ensures, ← c.in_order.ensures, c.if-in_order.true)

pub returns-else-in_order : goal.returns-else-in_order
unfolding found_at
returns-else-in_order c =
    let left = c.saturating_sub-left.ensures in
    let some : 4 ≤ length c.args.s.now - c.args.at = omega (arith, left) in
    let there : c.u16_at-size.result ≤ length c.args.s.now - c.args.at = omega (arith, left, c.from.ensures) in
    simp (le-ltb _ _ some, ← c.u16_at-size.ensures, le-ltb _ _ there, ← c.u16_at-kind.ensures, ← c.in_order.ensures, c.if-in_order.false)
