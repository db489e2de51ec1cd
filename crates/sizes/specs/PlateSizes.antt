-- The plate at two block sizes (document 02, request 12). Its one late wire leads from node 14, aa, to node 15, ab, a delay of 2800 samples at
-- every block size that the plate writer is given: the plate of N carried to M has 2800 + N − M there, so 2864 from 128 to 64. Definitions
-- only; proofs/PlateSizes.antt proves it.
use Rattle.std.specs.Prelude.{ℕ, ◌+◌, ◌-◌, ◌*◌, ◌≡◌, set, Ok}
use Rattle.records.specs.Answer.{answer}
use Rattle.boards.specs.Judge.{judge_of}
use Rattle.records.specs.Write.{Card, write_board}
use Rattle.plate_board.specs.Plate.{plate_nodes, plate_wires, plate_card, delay_n}
use Rattle.resizing.specs.declared.resize.Resized.TheVariants.{Line}
use Rattle.resizing.specs.Resize.{resized_of, bytes_after}
use Rattle.sizes.specs.Settled.{Carried}

-- the plate of block size M with another line of ab, for the bits of mix and of 1 − mix
abbrev pub plate_with : ℕ → ℕ → ℕ → ℕ → Card
plate_with M line mix dry = record { size = M; input = 2; nodes = set (plate_nodes mix dry) 15 (delay_n line); wires = plate_wires }

-- the plate that the plate writer makes at N, and what becomes of it at M
pub record PlateCarries (N M mix dry : ℕ) : Type 0 where
  pub line : resized_of (write_board (plate_card N mix dry)) M ≡ Ok (Line 15 2800 (2800 + N - M))
  pub bytes : bytes_after (write_board (plate_card N mix dry)) M (Ok (Line 15 2800 (2800 + N - M))) ≡ write_board (plate_with M (2800 + N - M) mix dry)
  pub judged : judge_of (write_board (plate_card N mix dry)) ≡ answer 0 (236392 + 212 * N)
  pub judged_after : judge_of (write_board (plate_with M (2800 + N - M) mix dry)) ≡ answer 0 (236392 + 4 * (N - M) + 212 * M)
  pub carried : Carried (write_board (plate_card N mix dry)) (write_board (plate_with M (2800 + N - M) mix dry)) M

-- the studio model's plate, at 128, and the stage model's, at 64: 2800 and 2864, sample for sample the same
pub record StudioAndStage (mix dry : ℕ) : Type 0 where
  pub line : resized_of (write_board (plate_card 128 mix dry)) 64 ≡ Ok (Line 15 2800 2864)
  pub judged : judge_of (write_board (plate_card 128 mix dry)) ≡ answer 0 263528
  pub judged_after : judge_of (write_board (plate_with 64 2864 mix dry)) ≡ answer 0 250216
  pub carried : Carried (write_board (plate_card 128 mix dry)) (write_board (plate_with 64 2864 mix dry)) 64
