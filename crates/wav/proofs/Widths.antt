-- A frame lies within the bytes that hold it. Assumes nothing.
use mathlib.Core.Path.{◌≡◌}
use Prim.Native.Nat.{ℕ, suc, ◌+◌, ◌*◌, ◌/◌, ◌%◌, ◌≤◌, ◌<◌}
use native.Mathlib.Nat.{div-add-mod', mul-le-mul_right}
use native.Mathlib.Omega.{arith}

-- frame i of those that n bytes hold, of d bytes each
pub frame_fits : (n d i : ℕ) → i < n / d → i * d + d ≤ n
frame_fits n d i h =
    let whole : n / d * d + n % d ≡ n = div-add-mod' n d in
    let below : suc i * d ≤ n / d * d = mul-le-mul_right d h in
    let next : suc i * d ≡ i * d + d = omega arith in
    omega arith
