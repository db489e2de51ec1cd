-- `wav::sample::eight` meets its contract: a byte is a float exactly. Assumes nothing.
use mathlib.Core.Path.{ap, ◌∙◌}
use native.Mathlib.Omega.{arith}
use borrow.Author.Tests.{lt-ltb, le-ltb}
use lib.Ieee.{Float, binary32, of_bits, neg, div}
use Rattle.values.specs.Floors.{whole}
use Rattle.wav.specs.Frames.{byte_of}
use Rattle.wav.proofs.Nearest.{divided}
use Rattle.wav.proofs.sample.eight.Goals as goal

pub returns-then-byte-lt128 : goal.returns-then-byte-lt128
unfolding of_bits byte_of
returns-then-byte-lt128 c = ap (λ (x : Float). neg (div binary32 x (whole 1 7))) c.from.ensures ∙ ap neg (divided 7 _ (omega arith)) ∙ simp (lt-ltb _ _ c.if-byte-lt128.true)

pub returns-else-byte-lt128 : goal.returns-else-byte-lt128
unfolding of_bits byte_of
returns-else-byte-lt128 c = ap (λ (x : Float). div binary32 x (whole 1 7)) c.from-else-byte-lt128.ensures ∙ divided 7 _ (omega arith) ∙ simp (le-ltb _ _ c.if-byte-lt128.false)
