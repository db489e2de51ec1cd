-- What the wires bring, against the blocks that are fetched and summed for a type's loop.
--     operands_brought   the first and the second source, fetched
--     total_brought      a sum
--     supplies           all of a block, from each place
-- Assumes nothing.
use mathlib.Core.Path.{◌≡◌, refl, sym, ap, subst, ◌∙◌}
use mathlib.Core.List.{List, [], ◌∷◌, map}
use Prim.Native.Nat.{ℕ, ◌≤◌, ◌<◌}
use native.Mathlib.Omega.{arith}
use borrow.Author.Tests.{lt-ltb}
use lib.Dec.{ltb}
use lib.ListN.{length, get_or, length-map}
use lib.Ieee.{Float, nan}
use Rattle.kinds.specs.Rule.{total}
use Rattle.effects.specs.Block.{sample, fill, fetched_if}
use Rattle.kinds.specs.Node.{samples_at, brought_at}
use Rattle.operators.specs.Sums.{total_at}
use Rattle.nodes.specs.Ready.{Operands, Gives, Supplies}
use Rattle.kinds.specs.declared.kind.NodeKind.{NodeKind}
use Rattle.effects.proofs.Filled.{fill_at, fetch_at}

head-map : (f : ℕ → Float) (l : List ℕ) → 0 < length l → get_or (map f l) 0 nan ≡ f (get_or l 0 0)
head-map f [] h = absurd (omega arith)
head-map f (k ∷ l) h = refl

pub total_brought : (ws starts list : List ℕ) (N : ℕ) (x y : List Float) → N ≤ length x → y ≡ fill (total_at ws starts list) N x
    → (i : ℕ) → i < N → total (samples_at ws starts list i) ≡ sample y i
total_brought ws starts list N x y long e i h = sym (ap (λ (u : List Float). sample u i) e ∙ fill_at (total_at ws starts list) N x long i h)

module _ (ws lefts rights list : List ℕ) (second N : ℕ) where
  pub operands_brought : (x m y z : List Float) → N ≤ length x → N ≤ length m
      → y ≡ fetched_if (ltb 0 (length list)) ws (get_or lefts (get_or list 0 0) 0) N x → z ≡ fetched_if (ltb 1 (length list)) ws (get_or lefts second 0) N m
      → (i : ℕ) → i < N → Operands (length list) (brought_at ws lefts rights list second i) (sample y i) (sample z i)
  operands_brought x m y z x_long m-long e f i h = (
    λ some. head-map _ list some ∙ fetch_at _ ws _ N x y (lt-ltb 0 (length list) some) x_long e i h,
    λ two. fetch_at _ ws _ N m z (lt-ltb 1 (length list) two) m-long f i h,
  )

  pub supplies : {k j : NodeKind} {y z : List Float} → k ≡ j
      → ((i : ℕ) → i < N → Gives j (length list) (brought_at ws lefts rights list second i) (sample y i) (sample z i))
      → Supplies k (length list) N y z (brought_at ws lefts rights list second)
  supplies {k} {j} {y} {z} e g =
      subst (λ (n : NodeKind). Supplies n (length list) N y z (brought_at ws lefts rights list second)) (sym e)
      (record { counted = λ i h. length-map list _; gives = g })
