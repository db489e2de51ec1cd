-- `leaves::sine::height` meets its contract: each call is one step of the rule. Assumes nothing.
use borrow.Author.Rules.{rules}
use Prim.Native.Nat.{ℕ}
use mathlib.Core.Path.{ap, ◌∙◌}
use Rattle.leaves.specs.Sine.{step, height_of}
use Rattle.leaves.proofs.sine.height.Goals as goal

pub returns : goal.returns
unfolding height_of
returns c =
    let z = c.args.z in
    let h9 = c.step_down-h9.ensures.0 in
    let h7 = c.step_down-h7.ensures.0 ∙ ap (λ (h : ℕ). step z h 78547) h9 in
    let h5 = c.step_down-h5.ensures.0 ∙ ap (λ (h : ℕ). step z h 1337020) h7 in
    let h3 = c.step_down-h3.ensures.0 ∙ ap (λ (h : ℕ). step z h 10837479) h5 in
    (c.step_down.ensures.0 ∙ ap (λ (h : ℕ). step z h 26353589) h3, search rules)
