-- `text::words::word_count` meets its contract. The loop's invariant: the words so far, and those that start from i on, are the line's. Assumes nothing.
use mathlib.Core.Path.{sym, ap, ◌∙◌}
use mathlib.Core.Bool.{Bool, not}
use Prim.Native.Nat.{ℕ, ◌+◌}
use native.Mathlib.Omega.{arith}
use borrow.Author.Rules.{rules}
use lib.ListN.{drop}
use Rattle.text.specs.Words.{begins, count_from}
use Rattle.text.proofs.Finding.{count_more, count_end}
use Rattle.text.proofs.words.word_count.Goals as goal

pub loop-byte-init : goal.loop-byte-init
loop-byte-init c = (search rules, search rules, omega arith)

pub loop-byte-preserved : goal.loop-byte-preserved
loop-byte-preserved c =
    let a = c.args in
    let space = c.is_space-space in
    let on = count_more a.line.now c.loop-byte.byte-index c.loop-byte.inside (omega arith) in
    let grown =
    on
    ∙ ap (λ (b : Bool). begins c.loop-byte.inside b + count_from (not b) (drop (c.loop-byte.byte-index + 1) a.line.now)) (sym space.ensures)
    ∙ ap (λ (n : ℕ). n + count_from (not space.result) (drop (c.loop-byte.byte-index + 1) a.line.now)) (sym c.begins-count.ensures.0) in
    (search rules, search rules, omega (arith, grown, c.loop-byte.invariant.2))

pub returns : goal.returns
returns c =
    let a = c.args in
    omega (arith, count_end a.line.now c.loop-byte.byte-index c.loop-byte.inside (omega arith), c.loop-byte.invariant.2)
