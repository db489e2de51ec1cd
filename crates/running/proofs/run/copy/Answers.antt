-- `running::run::copy` meets its contract: the bytes passed are copied. Assumes nothing.
use Prim.Native.Nat.{ℕ, ◌+◌}
use mathlib.Core.Path.{◌≡◌, sym, ap, ◌∙◌}
use mathlib.Core.List.{List, ◌++◌}
use native.Mathlib.Numerals.{add-one}
use native.Mathlib.Omega.{arith}
use lib.ListN.{get_or, set, drop}
use lib.Seq.{paste, paste-zero, paste-suc, take_all}
use Rattle.std.proofs.lemmas.List.{append-nil, drop_all}
use Rattle.running.proofs.run.copy.Goals as goal

pub loop-i-init : goal.loop-i-init
loop-i-init c = paste-zero c.args.to.now 0 c.args.from.now

pub loop-i-preserved : goal.loop-i-preserved
loop-i-preserved c =
    let a = c.args in
    let i = c.loop-i.i in
    let here : i ≡ 0 + i = omega arith in
    ap (λ (l : List ℕ). set l i (get_or a.from.now i 0)) c.loop-i.invariant
    ∙ ap (λ (j : ℕ). set (paste a.to.now 0 a.from.now i) j (get_or a.from.now i 0)) here
    ∙ paste-suc a.to.now 0 a.from.now i 0 (omega arith) (omega (arith, c.requires))
    ∙ ap (paste a.to.now 0 a.from.now) (sym (add-one i))

pub returns : goal.returns
returns c =
    let a = c.args in
    let i = c.loop-i.i in
    c.loop-i.invariant
    ∙ ap (λ (l : List ℕ). l ++ drop (0 + i) a.to.now) (take_all i a.from.now (omega (arith, c.requires)))
    ∙ ap (λ (l : List ℕ). a.from.now ++ l) (drop_all (0 + i) a.to.now (omega arith))
    ∙ append-nil a.from.now
