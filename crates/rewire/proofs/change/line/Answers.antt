-- `rewire::change::line` meets its contract: nothing stands before what is written. Assumes nothing.
use mathlib.Core.Path.{ap, ◌∙◌}
use mathlib.Core.List.{List, [], ◌∷◌, ◌++◌}
use Prim.Native.Nat.{ℕ}
use Rattle.text.specs.Written.{pair}
use Rattle.rewire.proofs.change.line.Goals as goal

pub returns : goal.returns
returns c =
    let sign = c.args.sign.now in
    c.push_pair.ensures.wrote
    ∙ ap (λ (o : List ℕ). o ++ pair sign c.from.result (32 ∷ []) c.from-2.result (10 ∷ [])) c.new-out.ensures
    ∙ rw (c.from.ensures, c.from-2.ensures)
