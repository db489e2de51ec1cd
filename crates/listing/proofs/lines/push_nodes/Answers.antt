-- `listing::lines::push_nodes` meets its contract. The loop's invariant: the first i nodes are written, in at most 3 bytes each. Assumes nothing.
use mathlib.Core.Path.{◌≡◌, ap, subst₂, ◌∙◌}
use mathlib.Core.List.{List}
use Prim.Native.Nat.{ℕ, ◌+◌, ◌*◌, ◌≤◌}
use native.Mathlib.Omega.{arith}
use borrow.Author.Rules.{rules}
use lib.ListN.{length, take}
use lib.Seq.{take-length}
use Rattle.text.specs.Written.{Appends, number, spaced}
use Rattle.text.proofs.Digits.{two_digits}
use Rattle.text.proofs.Writing.{appends_none, appends_both, appends_short}
use Rattle.listing.specs.Text.{spaced_all}
use Rattle.listing.proofs.Writing.{all_snoc}
use Rattle.listing.proofs.lines.push_nodes.Goals as goal

pub loop-node-init : goal.loop-node-init
unfolding spaced_all
loop-node-init c = (omega arith, appends_none _)

pub push_spaced-requires : goal.push_spaced-requires
push_spaced-requires c = (search rules, omega (arith, c.loop-node.invariant.1.short, c.requires.0, c.loop-node-test.true))

pub loop-node-preserved : goal.loop-node-preserved
unfolding spaced
loop-node-preserved c =
    let at = c.loop-node in
    let list = c.args.nodes.now in
    let few : length (number c.from.result) ≤ 2 = two_digits c.from.result (omega (arith, c.from.ensures, c.requires.1 at.node-index c.loop-node-test.true)) in
    let one = appends_short at.out (spaced c.from.result) 3 c.push_spaced.ensures.wrote (omega (arith, few)) in
    let more : 3 * at.node-index + 3 ≡ 3 * (at.node-index + 1) = omega arith in
    (omega arith, rw (← more, all_snoc list at.node-index c.from.result c.from.ensures c.loop-node-test.true) (appends_both c.args.out.now _ _ (3 * at.node-index) 3 at.invariant.1 one))

pub returns : goal.returns
returns c =
    let at = c.loop-node in
    let nodes = c.args.nodes.now in
    let e : at.node-index ≡ length nodes = omega arith in
    let P : ℕ → List ℕ → Type 0 = λ n l. Appends (3 * n) c.args.out.now (spaced_all l) at.out in
    subst₂ P e (ap (λ (n : ℕ). take n nodes) e ∙ take-length nodes) at.invariant.1
