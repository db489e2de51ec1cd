-- `kinds::kind::cell_size` meets its contract: there are at most two channels. Assumes nothing.
use borrow.Author.Rules.{rules}
use Prim.Native.Nat.{ℕ, ◌*◌, ◌≤◌}
use native.Mathlib.Omega.{arith}
use native.Mathlib.Nat.{mul-le-mul}
use mathlib.Core.Path.{◌≡◌, sym, subst, ◌∙◌}
use Rattle.kinds.specs.Row.{Writes, mono, keeping, stereo, row_of}
use Rattle.kinds.specs.Kind.{channels_by, channels_of}
use Rattle.kinds.specs.declared.kind.NodeKind.{NodeKind}
use Rattle.kinds.proofs.kind.cell_size.Goals as goal

channels-two : (w : Writes) → channels_by w ≤ 2
channels-two (mono l) = omega arith
channels-two (keeping l) = omega arith
channels-two (stereo l r) = omega arith

-- the samples of a cell
room : (k : NodeKind) (size channels : ℕ) → size ≤ 128 → channels ≡ channels_of k → size * channels ≤ 256
room k size channels h e = mul-le-mul h (subst (λ (n : ℕ). n ≤ 2) (sym e) (channels-two (row_of k).writes))

channels : (c : goal.After-from) → c.args.size * c.from.result ≤ 256
channels c = room c.args.k c.args.size c.from.result (search rules) (c.from.ensures ∙ c.channels_of.ensures)

pub overflow_mul-result : goal.overflow_mul-result
overflow_mul-result c = omega (arith, channels c)

pub overflow_add-result : goal.overflow_add-result
overflow_add-result c = omega (arith, channels c)

pub overflow_add-result-2 : goal.overflow_add-result-2
overflow_add-result-2 c = omega (arith, channels c.before)

pub returns : goal.returns
returns c = simp (c.from.ensures, c.channels_of.ensures, c.line_of.ensures.0)
