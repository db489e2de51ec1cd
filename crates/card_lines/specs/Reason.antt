-- What is wrong with a line whose float is none. Definitions only.
use Rattle.decimals.specs.declared.number.FloatError.{FloatError}
use Rattle.decimals.specs.declared.number.FloatError.TheVariants as error
use Rattle.card_lines.specs.declared.reason.Reason.{Reason}
use Rattle.card_lines.specs.declared.reason.Reason.TheVariants as reason

abbrev pub float_reason : FloatError → Reason
float_reason error.Bad = reason.Float
float_reason error.Long = reason.Long
