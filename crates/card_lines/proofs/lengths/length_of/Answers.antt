-- `card_lines::lengths::length_of` meets its contract: milliseconds before `ms`, or samples. Assumes nothing.
use Rattle.std.proofs.Common.{◌≡◌, refl, sym, ap, ◌∙◌, ℕ, Option, Some, None}
use Rattle.std.specs.Prelude.{ok_or}
use Rattle.decimals.proofs.Question.{went_on, returned}
use Rattle.decimals.specs.Number.{float_of}
use Rattle.card_lines.specs.declared.reason.Reason.TheVariants as reason
use Rattle.card_lines.specs.LineLengths.{length_by, whole_length, length_of}
use Rattle.card_lines.proofs.Reasons.{handed_on}
use Rattle.card_lines.proofs.lengths.length_of.Goals as goal

in_range : (o : Option ℕ) → ok_or o reason.Range ≡ length_by o
in_range None = refl
in_range (Some n) = refl

pub returns-in_err-ms : goal.returns-in_err-ms
unfolding length_of
returns-in_err-ms c =
    let ms = c.in-Some.ensures.cases in
    let read = c.in_err-ms.ensures ∙ ap float_of ms.1 in
    rw (ms.0, ← read) (handed_on c.from_residual.result _ c.from_residual.ensures)

pub returns-in-Some : goal.returns-in-Some
unfolding length_of
returns-in-Some c =
    let ms = c.in-Some.ensures.cases in
    let read = c.in_ok-ms.ensures ∙ ap float_of ms.1 in
    rw (ms.0, ← read) (c.ok_or.ensures.value ∙ in_range c.length_for.result ∙ ap length_by c.length_for.ensures)

pub returns-in_err-samples : goal.returns-in_err-samples
unfolding length_of
returns-in_err-samples c =
    let none = returned c.whole_of.result c.from_residual-in_err-samples.result _ c.in_err-samples.ensures.value c.from_residual-in_err-samples.ensures in
    rw c.in_default.ensures.cases (none.1 ∙ ap whole_length (sym none.0 ∙ c.whole_of.ensures.1))

pub returns : goal.returns
unfolding length_of
returns c = rw (c.in_default.ensures.cases) (ap whole_length (went_on c.whole_of.result _ c.in_ok-samples.ensures.value ∙ c.whole_of.ensures.1))
