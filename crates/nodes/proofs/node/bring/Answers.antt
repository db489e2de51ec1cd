-- `nodes::node::bring` meets its contract: in each arm the kind is known, and its blocks are sums or the operands. Assumes nothing.
use mathlib.Core.Path.{◌≡◌, refl, sym, ap, subst, ◌∙◌}
use mathlib.Core.Logic.{inl, inr}
use mathlib.Core.List.{List, [], ◌∷◌}
use Prim.Native.Nat.{ℕ, ◌<◌}
use native.Mathlib.Omega.{arith}
use lib.Dec.{ltb}
use lib.ListN.{length, get_or}
use lib.Ieee.{Float}
use Rattle.values.specs.Words.{words}
use Rattle.kinds.specs.Rule.{Brought, total}
use Rattle.effects.specs.Block.{sample, fill, fetched_if}
use Rattle.kinds.specs.Node.{samples_at, brought_at}
use Rattle.operators.specs.Sums.{total_at, InMemory}
use Rattle.nodes.specs.Ready.{Gives, Operands}
use Rattle.kinds.specs.declared.kind.NodeKind.{NodeKind}
use Rattle.kinds.specs.declared.kind.NodeKind.TheVariants.{Pass, Sum, Destination, Balance, Mul, Add, Delay, AllPass, OnePole, Sine}
use Rattle.nodes.proofs.Brought.{total_brought, operands_brought, supplies}
use Rattle.kinds.proofs.Arms.{Among, arm}
use Rattle.nodes.proofs.node.bring.Goals as goal

-- every type but the sum and the destination
abbrev Others : NodeKind → Type 0
Others k = Among (0 ∷ 3 ∷ 4 ∷ 5 ∷ 6 ∷ 7 ∷ 8 ∷ 9 ∷ []) k

others : (k : NodeKind) → (k ≡ Sum → ⊥) → (k ≡ Destination → ⊥) → Others k
others Pass a b = inl refl
others Sum a b = absurd (a refl)
others Destination a b = absurd (b refl)
others Balance a b = inr (inl refl)
others (Mul f) a b = inr (inr (inl refl))
others (Add f) a b = inr (inr (inr (inl refl)))
others (Delay n) a b = inr (inr (inr (inr (inl refl))))
others (AllPass n f) a b = inr (inr (inr (inr (inr (inl refl)))))
others (OnePole f) a b = inr (inr (inr (inr (inr (inr (inl refl))))))
others (Sine f) a b = inr (inr (inr (inr (inr (inr (inr refl))))))

module _ (ws lefts rights list : List ℕ) (second size : ℕ) where
  abbrev brings : ℕ → Brought
  brings = brought_at ws lefts rights list second

  -- a sum of the blocks at `starts`, in place of x
  module _ (starts : List ℕ) (x : List Float) (long : length x ≡ size) {y : List Float} (e : y ≡ fill (total_at ws starts list) (length x) x) where
    summed : (i : ℕ) → i < size → total (samples_at ws starts list i) ≡ sample y i
    summed = total_brought ws starts list size x y (omega arith) (e ∙ ap (λ (n : ℕ). fill (total_at ws starts list) n x) long)

  -- the operands, to every type but the sum and the destination
  module _ (x m : List Float) (long : length x ≡ size) (room : length m ≡ size) {y z : List Float}
      (p : y ≡ fetched_if (ltb 0 (length list)) ws (get_or lefts (get_or list 0 0) 0) size x)
      (q : z ≡ fetched_if (ltb 1 (length list)) ws (get_or lefts second 0) size m) where
    given : (k : NodeKind) → Others k → (i : ℕ) → i < size → Gives k (length list) (brings i) (sample y i) (sample z i)
    given k o =
        let f : (i : ℕ) → i < size → Operands (length list) (brings i) (sample y i) (sample z i) =
        operands_brought ws lefts rights list second size x m y z (omega arith) (omega arith) p q in
        arm (λ j. (i : ℕ) → i < size → Gives j (length list) (brings i) (sample y i) (sample z i)) (0 ∷ 3 ∷ 4 ∷ 5 ∷ 6 ∷ 7 ∷ 8 ∷ 9 ∷ []) k o
        (f, (f, (λ _. f, (λ _. f, (λ _. f, (λ _ _. f, (λ _. f, λ _. f)))))))

pub returns-in-Sum : goal.returns-in-Sum
returns-in-Sum c =
    let a = c.args in
    let l = a.sources.list.now in
    supplies (words a.memory.now) a.starts.now.lefts a.starts.now.rights l a.sources.second _ c.in-Sum.is
    (λ i h. (
      summed (words a.memory.now) a.starts.now.lefts a.starts.now.rights l a.sources.second _ a.starts.now.lefts a.x.now refl c.total.ensures i h,
      λ two. absurd (omega arith),
    ))

pub returns-in-Destination : goal.returns-in-Destination
returns-in-Destination c =
    let a = c.args in
    let ws = words a.memory.now in
    let l = a.sources.list.now in
    let s = a.starts.now in
    supplies ws s.lefts s.rights l a.sources.second _ c.in-Destination.is
    (λ i h. (
      summed ws s.lefts s.rights l a.sources.second _ s.lefts a.x.now refl c.total-in-Destination.ensures i h,
      λ two. summed ws s.lefts s.rights l a.sources.second _ s.rights a.m.now c.requires.alike c.total-in-Destination-2.ensures i h,
    ))

pub returns-in_default : goal.returns-in_default
returns-in_default c =
    let a = c.args in
    let ws = words a.memory.now in
    let l = a.sources.list.now in
    let s = a.starts.now in
    let p = c.operands.ensures in
    supplies ws s.lefts s.rights l a.sources.second _ refl
    (given ws s.lefts s.rights l a.sources.second _ a.x.now a.m.now refl c.requires.alike p.first p.second
    a.kind (others a.kind c.in_default.not-Sum c.in_default.not-Destination))

pub total-requires-in-Destination-2 : goal.total-requires-in-Destination-2
total-requires-in-Destination-2 c =
    let a = c.args in
    subst (λ (n : ℕ). InMemory a.sources.list.now a.starts.now.rights n (length a.memory.now)) (sym c.requires.alike) c.requires.in_memory.1
