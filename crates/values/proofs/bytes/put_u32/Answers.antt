-- `values::bytes::put_u32` meets its contract. Assumes nothing.
use mathlib.Core.Path.{◌≡◌, sym, ap, ◌∙◌}
use mathlib.Core.List.{List, ◌++◌, append_assoc}
use lib.ListN.{take}
use Prim.Native.Nat.{ℕ, ◌+◌, ◌-◌}
use native.Mathlib.Omega.{arith}
use lib.Seq.{sets-eq, drop-drop}
use Rattle.values.specs.Bytes.{u32_bytes}
use Rattle.values.proofs.bytes.put_u32.Goals as goal

pub returns : goal.returns
returns c =
    let a = c.args in
    let four : a.at + 4 - a.at ≡ 4 = omega arith in
    let bytes : c.copy_from_slice.new.self ≡ u32_bytes a.v = c.copy_from_slice.ensures.after ∙ c.to_le_bytes.ensures in
    rw (four, bytes)
    (sym (append_assoc (take a.at a.s.now) (u32_bytes a.v) _)
    ∙ ap (λ (r : List ℕ). (take a.at a.s.now ++ u32_bytes a.v) ++ r) (drop-drop 4 a.at a.s.now)
    ∙ sym (sets-eq (u32_bytes a.v) a.s.now a.at (omega arith)))
