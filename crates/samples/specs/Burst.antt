-- A burst of noise as calls (document 02, [2]): blocks whose samples go on from one to the next, and the bytes that they write. Part of what the
-- statements say. Definitions only; that every block of it is accepted, on any board, is proved in proofs/Burst.antt.
use Rattle.std.specs.Prelude.{ℕ, zero, suc, ◌*◌, List, [], ◌∷◌, ◌++◌, replicate}
use Rattle.leaves.specs.Noise.{state_after, noise_block}
use Rattle.samples.specs.Reading.{Call, block, Reply}

-- an output block of zeros
abbrev pub quiet : ℕ → List ℕ
quiet N = replicate (4 * N) 0

-- n blocks of N samples, from a state of the noise on
unfoldable pub burst : ℕ → ℕ → ℕ → List Call
burst N zero s = []
burst N (suc n) s = block (noise_block N s) (quiet N) (quiet N) ∷ burst N n (state_after N s)

-- each block's two output blocks, channel 0 first
unfoldable pub output_bytes : List Reply → List ℕ
output_bytes [] = []
output_bytes (d ∷ ds) = d.left ++ d.right ++ output_bytes ds
