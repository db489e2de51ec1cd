-- `wiring::rewire::newest` meets its contract: what `rposition` gives is the place of the last wire that joins the two. Assumes nothing.
use Prim.Native.Nat.{ℕ, ◌<◌}
use native.Mathlib.Omega.{arith}
use lib.ListN.{length}
use Rattle.std.specs.Prelude.{IfSome, IsNone}
use Rattle.std.proofs.lemmas.Grind.{common_steps}
use Rattle.wiring.proofs.Newest.{Joins, newest_by}
use Rattle.wiring.proofs.rewire.newest.Goals as goal

pub returns : goal.returns
returns c =
    let ws = c.args.wires.now in
    let s = c.args.source in
    let t = c.args.target in
    let o = c.rposition.result in
    let within : IfSome o (λ i. i < length ws) = grind (arith, common_steps) in
    let is : IfSome o (λ i. Joins ws s t i) = grind (arith, common_steps) in
    let last : IfSome o (λ i. (k : ℕ) → i < k → k < length ws → Joins ws s t k → ⊥) = grind (arith, common_steps) in
    let none : IsNone o → (k : ℕ) → k < length ws → Joins ws s t k → ⊥ = grind (arith, common_steps) in
    newest_by ws s t o within is last none
