-- `resizing::resize::put_resized` meets its contract: the stores are those of `bytes_after`. Assumes nothing.
use mathlib.Core.Path.{sym, ap, ◌∙◌}
use mathlib.Core.List.{List}
use Prim.Native.Nat.{ℕ, ◌+◌, ◌*◌}
use lib.Seq.{sets}
use Rattle.std.specs.Prelude.{Ok}
use Rattle.values.specs.Bytes.{u32_bytes}
use Rattle.resizing.specs.declared.resize.Resized.{Resized}
use Rattle.resizing.specs.Resize.{bytes_after}
use Rattle.resizing.proofs.resize.put_resized.Goals as goal

pub returns-in-Same : goal.returns-in-Same
unfolding bytes_after
returns-in-Same c = sym (ap (λ (r : Resized). bytes_after c.args.bytes.now c.args.size (Ok r)) c.in-Same.is)

pub returns-in-Size : goal.returns-in-Size
unfolding bytes_after
returns-in-Size c = c.put_u16.ensures ∙ sym (ap (λ (r : Resized). bytes_after c.args.bytes.now c.args.size (Ok r)) c.in-Size.is)

pub returns-in-Line : goal.returns-in-Line
unfolding bytes_after
returns-in-Line c =
    let at = c.in-Line in
    c.put_u32.ensures
    ∙ ap (λ (l : List ℕ). sets l (14 * at.k + 14) (u32_bytes at.m)) c.put_u16-in-Line.ensures
    ∙ sym (ap (λ (r : Resized). bytes_after c.args.bytes.now c.args.size (Ok r)) at.is)
