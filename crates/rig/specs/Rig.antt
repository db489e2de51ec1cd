-- What the program `rig` writes (document 02, [2]): the printed board of document 01, on fresh memory, is driven by four blocks of noise from the
-- default start; of each block its two output blocks, channel 0 first, as raw floats. Definitions only.
use Rattle.std.specs.Prelude.{ℕ, List, replicate}
use Rattle.leaves.specs.Noise.{default_start}
use Rattle.reading.specs.Calls.{replies}
use Rattle.boards.specs.JudgeCases.{printed}
use Rattle.memory.specs.Calls.{fresh_of}
use Rattle.memory.specs.Memory.{listed}
use Rattle.samples.specs.Reading.{Reply}
use Rattle.samples.specs.Claim.{call_in}
use Rattle.samples.specs.Burst.{burst, output_bytes}

-- the printed board's memory, as the fresh call leaves it
abbrev pub fresh : List ℕ
fresh = (fresh_of printed (replicate 112 0)).1

-- what n blocks of two samples answer and write, from a state of the noise and a memory
abbrev pub rig_replies : ℕ → ℕ → List ℕ → List Reply
rig_replies n s m = replies (call_in listed printed) (burst 2 n s) m

abbrev pub rig_bytes : List ℕ
rig_bytes = output_bytes (rig_replies 4 default_start fresh)
