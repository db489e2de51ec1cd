-- `nodes::node::operands` meets its contract: each block is fetched where there is such a source. Assumes nothing.
use mathlib.Core.Path.{◌≡◌, refl, ap, ◌∙◌}
use mathlib.Core.List.{List, [], ◌∷◌}
use Prim.Native.Nat.{ℕ}
use native.Mathlib.Omega.{arith}
use borrow.Author.Tests.{lt-ltb, le-ltb}
use lib.Dec.{ltb}
use lib.ListN.{length, get_or}
use lib.Ieee.{Float}
use Rattle.std.specs.Prelude.{Some, None, slice_get}
use Rattle.values.specs.Words.{words}
use Rattle.effects.specs.Block.{fill, fetched, fetched_if}
use Rattle.effects.proofs.Filled.{fetch_asked, fetch_not}
use Rattle.nodes.proofs.node.operands.Goals as goal
use Rattle.nodes.proofs.node.operands.Goals.{in-Some, in_default}

-- the first source's block, and none where the list is empty
module _ (ws lefts : List ℕ) (N : ℕ) (x : List Float) {y z : List Float} (e : y ≡ z) where
  some : (l : List ℕ) (v j : ℕ) → Some v ≡ slice_get l 0 → j ≡ v → z ≡ fill (fetched ws (get_or lefts j 0)) N x
      → y ≡ fetched_if (ltb 0 (length l)) ws (get_or lefts (get_or l 0 0) 0) N x
  some [] v j first same f = absurd (cc)
  some (k ∷ l) v j first same f =
      let at : j ≡ k = cc in
      fetch_asked _ _ _ _ _ _ (lt-ltb 0 (length (k ∷ l)) (omega arith)) (e ∙ f ∙ ap (λ (i : ℕ). fill (fetched ws (get_or lefts i 0)) N x) at)

  none : (l : List ℕ) → None ≡ slice_get l 0 → z ≡ x → y ≡ fetched_if (ltb 0 (length l)) ws (get_or lefts (get_or l 0 0) 0) N x
  none [] first f = fetch_not _ _ _ _ _ _ (le-ltb 0 0 (omega arith)) (e ∙ f)
  none (k ∷ l) first f = absurd (cc)

pub returns-then-sources-gt1-clause-first : goal.returns-then-sources-gt1-clause-first
returns-then-sources-gt1-clause-first c =
    let a = c.args in
    elim c.match-first.branch [
      | in-Some w ↦ some _ _ _ a.x.now w.x-is a.sources.list.now _ _ w.in-Some.ensures.value w.from.ensures w.fetch.ensures
      | in_default w ↦ none _ _ _ a.x.now w.x-is a.sources.list.now w.in_default.ensures.value refl
    ]

pub returns-then-sources-gt1-clause-second : goal.returns-then-sources-gt1-clause-second
returns-then-sources-gt1-clause-second c =
    let a = c.args in
    fetch_asked _ _ _ _ _ _ (lt-ltb _ _ c.if-sources-gt1.true)
    (c.fetch-then-sources-gt1.ensures ∙ ap (λ (n : ℕ). fill (fetched (words a.memory.now) (get_or a.starts.now.lefts a.sources.second 0)) n a.m.now) c.requires.alike)

pub returns-else-sources-gt1-clause-first : goal.returns-else-sources-gt1-clause-first
returns-else-sources-gt1-clause-first c =
    let a = c.args in
    elim c.match-first.branch [
      | in-Some w ↦ some _ _ _ a.x.now w.x-is a.sources.list.now _ _ w.in-Some.ensures.value w.from.ensures w.fetch.ensures
      | in_default w ↦ none _ _ _ a.x.now w.x-is a.sources.list.now w.in_default.ensures.value refl
    ]

pub returns-else-sources-gt1-clause-second : goal.returns-else-sources-gt1-clause-second
returns-else-sources-gt1-clause-second c = fetch_not _ _ _ _ _ _ (le-ltb _ _ c.if-sources-gt1.false) refl
