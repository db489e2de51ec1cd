-- `operators::sum::total` meets its contract: after the first and k others x is their sum. Assumes nothing.
use mathlib.Core.Path.{◌≡◌, refl, sym, ap, ◌∙◌}
use mathlib.Core.List.{List, ◌∷◌}
use Prim.Native.Nat.{ℕ, ◌+◌, ◌*◌, ◌≤◌, ◌<◌}
use native.Mathlib.Omega.{arith}
use native.Mathlib.Numerals.{add-one}
use lib.ListN.{length, get_or}
use lib.Ieee.{of_bits}
use Rattle.values.specs.Words.{words}
use Rattle.effects.specs.Block.{fill, begun, added}
use Rattle.effects.proofs.Filled.{quiet_all}
use Rattle.operators.specs.Sums.{InMemory}
use Rattle.operators.proofs.Totals.{sum-none, sum_one, sum_more, sum_all}
use Rattle.operators.proofs.sum.total.Goals as goal

-- a source v is a node, whose block lies in the memory
source : (list starts : List ℕ) (size long k v : ℕ) → InMemory list starts size long → k < length list → v ≡ get_or list k 0
    → (v < 64) × (4 * (get_or starts v 0 + size) ≤ long)
source list starts size long k v all h e = rw e (all k h)

-- the others come after the first
other : {list others : List ℕ} {first : ℕ} (k v : ℕ) → list ≡ first ∷ others → v ≡ get_or others k 0 → v ≡ get_or list (k + 1) 0
other k v e f = f ∙ sym (ap (λ (l : List ℕ). get_or l (k + 1) 0) e ∙ rw (add-one k) refl)

pub returns-in_default : goal.returns-in_default
unfolding of_bits
returns-in_default c =
    let a = c.args in
    sum-none (words a.memory.now) a.starts.now a.list.now (length a.x.now) _ a.x.now (omega arith) (quiet_all a.x.now (c.fill.ensures.after (λ y e. e))) (sym c.in_default.ensures.cases)

pub begin-requires : goal.begin-requires
begin-requires c =
    let a = c.args in
    let s = c.in-Some.ensures.cases in
    (source a.list.now a.starts.now (length a.x.now) (length a.memory.now) 0 _ c.requires (omega arith) (c.from.ensures ∙ sym (ap (λ (l : List ℕ). get_or l 0 0) s.0))).1

pub loop-source-init : goal.loop-source-init
loop-source-init c =
    let a = c.args in
    let s = c.in-Some.ensures.cases in (
      c.begin.auto.x,
      sum_one (words a.memory.now) a.starts.now a.list.now (length a.x.now) c.from.result c.begin.new.x a.x.now (omega arith) (omega arith)
          (c.from.ensures ∙ sym (ap (λ (l : List ℕ). get_or l 0 0) s.0)) c.begin.ensures,
    )

pub bounds-starts-from-in-loop-source : goal.bounds-starts-from-in-loop-source
bounds-starts-from-in-loop-source c =
    let a = c.args in
    let s = c.in-Some.ensures.cases in
    (source a.list.now a.starts.now (length a.x.now) (length a.memory.now) (c.loop-source.source-index + 1) _ c.requires (omega (arith, c.loop-source-test.true))
    (other c.loop-source.source-index _ s.0 c.from-in-loop-source.ensures)).0

pub accumulate-requires : goal.accumulate-requires
accumulate-requires c =
    let a = c.args in
    let s = c.in-Some.ensures.cases in
    let h =
    source a.list.now a.starts.now (length a.x.now) (length a.memory.now) (c.loop-source.source-index + 1) _ c.requires (omega (arith, c.loop-source-test.true))
    (other c.loop-source.source-index _ s.0 c.from-in-loop-source.ensures) in
    omega (arith, h.1, c.loop-source.invariant.0)

pub loop-source-preserved : goal.loop-source-preserved
loop-source-preserved c =
    let a = c.args in
    let s = c.in-Some.ensures.cases in
    let long = c.loop-source.invariant.0 in (
      c.accumulate.auto.x ∙ long,
      sum_more (words a.memory.now) a.starts.now a.list.now (length a.x.now) (begun (words a.memory.now) (get_or a.starts.now c.from.result 0))
          c.begin.new.x a.x.now (omega arith) c.begin.ensures
          (c.loop-source.source-index + 1) _ c.loop-source.x _ (omega (arith, c.loop-source-test.true)) (other c.loop-source.source-index _ s.0 c.from-in-loop-source.ensures)
          c.loop-source.invariant.1
          (c.accumulate.ensures ∙ ap (λ (n : ℕ). fill (added (words a.memory.now) (get_or a.starts.now c.from-in-loop-source.result 0) c.loop-source.x) n c.loop-source.x) long),
    )

pub returns : goal.returns
returns c =
    let a = c.args in
    let s = c.in-Some.ensures.cases in
    sum_all (words a.memory.now) a.starts.now a.list.now (length a.x.now) (begun (words a.memory.now) (get_or a.starts.now c.from.result 0))
    c.begin.new.x a.x.now (omega arith) c.begin.ensures
    (c.loop-source.source-index + 1) _ (omega (arith, c.loop-source-test.false, c.loop-source.auto.source-index-end)) c.loop-source.invariant.1
