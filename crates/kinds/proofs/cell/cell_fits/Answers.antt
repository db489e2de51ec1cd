-- `kinds::cell::cell_fits` meets its contract. Assumes nothing.
use mathlib.Core.Path.{◌≡◌, sym, ◌∙◌}
use mathlib.Core.Bool.{Bool, ◌&&◌}
use mathlib.Core.List.{List}
use Prim.Native.Nat.{ℕ, ◌+◌}
use lib.ListN.{get_or, drop}
use lib.Seq.{get_or-drop}
use Rattle.values.specs.Words.{words}
use Rattle.kinds.specs.Kind.{number_index, carry_index, place_index}
use Rattle.kinds.specs.Cell.{number_fits, carry_fits, place_fits, cell_fits}
use Rattle.kinds.specs.declared.kind.NodeKind.{NodeKind}
use Rattle.kinds.proofs.cell.cell_fits.Goals as goal

-- the judgement, of the values that stand there
judged : (k : NodeKind) (ws : List ℕ) (at a b p : ℕ) (x : Bool) → a ≡ get_or ws (at + number_index) 0 → b ≡ get_or ws (at + carry_index) 0 → p ≡ get_or ws (at + place_index) 0
    → x ≡ number_fits k a && carry_fits k b && place_fits k p → x ≡ cell_fits k (drop at ws)
judged k ws at a b p x ea eb ep ex =
    let ga : get_or (drop at ws) number_index 0 ≡ a = get_or-drop at ws number_index 0 ∙ sym ea in
    let gb : get_or (drop at ws) carry_index 0 ≡ b = get_or-drop at ws carry_index 0 ∙ sym eb in
    let gp : get_or (drop at ws) place_index 0 ≡ p = get_or-drop at ws place_index 0 ∙ sym ep in
    cc

pub returns : goal.returns
returns c =
    let given = c.args in
    judged _ (words given.memory.now) given.at _ _ _ _
    c.word_at-number.ensures c.word_at-carry.ensures c.word_at-place.ensures c.values_fit.ensures
