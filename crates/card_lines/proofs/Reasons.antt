-- A float's error handed on as a reason, by `?`. Assumes nothing.
use Rattle.std.proofs.Common.{◌≡◌, ap, Result, Ok, Err}
use Rattle.std.specs.Prelude.{IsErr, IsErrAnd}
use Rattle.decimals.specs.declared.number.FloatError.{FloatError}
use Rattle.card_lines.specs.declared.reason.Reason.{Reason}
use Rattle.card_lines.specs.Reason.{float_reason}

pub handed_on : {A : Type 0} (r : Result A Reason) (e : FloatError) → IsErr r × IsErrAnd r (λ x. x ≡ float_reason e) → r ≡ Err (float_reason e)
handed_on (Ok n) e h = absurd (cc)
handed_on (Err x) e h = ap Err h.1
