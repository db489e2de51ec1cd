-- `card_lines::labels::nodes_in` meets its contract. Assumes nothing.
use Rattle.std.proofs.Common.{◌≡◌, refl, sym, ap, ◌∙◌, ◌≤◌, ℕ, List, Bool, true, false, cond, length, arith}
use lib.Dec.{eqb}
use mir.Val.{bool_byte}
use Rattle.text.specs.Words.{nth_word}
use Rattle.card_lines.specs.Labels.{nodes_in, body_of}
use Rattle.card_lines.proofs.Naming.{no_word}
use Rattle.card_lines.proofs.labels.nodes_in.Goals as goal

byte_of : (b : Bool) → (bool_byte b ≤ 1) × (bool_byte b ≡ cond b 1 0)
byte_of true = (omega arith, refl)
byte_of false = (omega arith, refl)

-- an empty word says no node
pub returns-then-is_empty : goal.returns-then-is_empty
unfolding nodes_in
returns-then-is_empty c =
    let word : c.nth_word-word.result.now ≡ nth_word 0 (body_of c.args.line.now) = c.nth_word-word.ensures ∙ ap (nth_word 0) c.body_of.ensures in
    let e : eqb (length (nth_word 0 (body_of c.args.line.now))) 0 ≡ true = ap (λ (w : List ℕ). eqb (length w) 0) (sym word) ∙ sym c.is_empty.ensures ∙ c.if-is_empty.true in
    (omega arith, rw (no_word _ e))

pub returns : goal.returns
unfolding nodes_in
returns c =
    let byte = byte_of c.is_node.result in
    (omega (arith, byte.0, c.from.ensures), c.from.ensures ∙ byte.1 ∙ ap (λ (b : Bool). cond b 1 0) (cc))
