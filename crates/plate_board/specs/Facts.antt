-- What document 01, "Plate", says of the plate, gathered in one record; `proofs/PlateFacts.antt` proves it for every block size and mix.
-- Definitions only.
use Rattle.std.specs.Prelude.{ℕ, ◌+◌, ◌*◌, ◌≡◌, Bool, false, cond, ◌&&◌, ◌||◌, List, [], ◌∷◌, map, length, eqb, Float, Some}
use Rattle.std.specs.Float.{binary32}
use Rattle.std.specs.Float.Ieee.{of_bits, to_bits}
use Rattle.leaves.specs.Lengths.{delay_of, all_pass_of, place_of}
use Rattle.reading.specs.Order.{Wire, wire}
use Rattle.records.specs.Answer.{answer}
use Rattle.boards.specs.Judge.{judge_of}
use Rattle.graph.specs.Late.{late_wires}
use Rattle.graph.specs.Tail.{endless, tail_of}
use Rattle.graph.specs.Visit.{visiting_list}
use Rattle.records.specs.Write.{NodeCard, write_board}
use Rattle.boards.specs.Obeys.{as_read as parsed_of, Obeys}
use Rattle.plate_board.specs.Plate.{plate_nodes, plate_wires, plate_card, dry_of, plate_bytes, write_of}

-- the lines of the all_passes, in node order
abbrev pub all_pass_lines : List NodeCard → List ℕ
all_pass_lines [] = []
all_pass_lines (d ∷ ds) = cond (eqb d.type 8) (d.n ∷ all_pass_lines ds) (all_pass_lines ds)

-- the milliseconds of the all_passes in plate.rs, as bits: 4.771, 3.595, 12.72, 9.307, 100, 7.596, 35.78, 100, 30, 6.2, 34.92, 20.4
abbrev pub milliseconds : List ℕ
milliseconds =
    0x4098_ac08 ∷ 0x4066_147b ∷ 0x414b_851f ∷ 0x4114_e979 ∷ 0x42c8_0000 ∷ 0x40f3_126f ∷ 0x420f_1eb8 ∷ 0x42c8_0000 ∷ 0x41f0_0000 ∷ 0x40c6_6666
    ∷ 0x420b_ae14 ∷ 0x41a3_3333 ∷ []

-- the wires that repeat an earlier one
abbrev pub stands : Wire → List Wire → Bool
stands w [] = false
stands w (v ∷ vs) = (eqb w.source v.source && eqb w.target v.target) || stands w vs

abbrev pub repeats_after : List Wire → List Wire → List Wire
repeats_after earlier [] = []
repeats_after earlier (w ∷ ws) = cond (stands w earlier) (w ∷ repeats_after (w ∷ earlier) ws) (repeats_after (w ∷ earlier) ws)

abbrev pub plate_list : List ℕ
plate_list =
    2 ∷ 43 ∷ 3 ∷ 4 ∷ 5 ∷ 6 ∷ 7 ∷ 8 ∷ 15 ∷ 16 ∷ 17 ∷ 18 ∷ 19 ∷ 20 ∷ 11 ∷ 12 ∷ 13 ∷ 21 ∷ 22 ∷ 23 ∷ 24 ∷ 25 ∷ 26 ∷ 27 ∷ 28 ∷
    29 ∷ 30 ∷ 31 ∷ 32 ∷ 33 ∷ 34 ∷ 35 ∷ 36 ∷ 37 ∷ 9 ∷ 10 ∷ 14 ∷ 38 ∷ 39 ∷ 40 ∷ 41 ∷ 42 ∷ 49 ∷ 44 ∷ 45 ∷ 46 ∷ 47 ∷ 48 ∷ 50 ∷ 0 ∷ []

-- the plate of block size N, for the bits of mix and of 1 − mix
pub record PlateFacts (N mix dry : ℕ) : Type 0 where
  pub node_count : length (plate_nodes mix dry) ≡ 51
  pub wire_count : length plate_wires ≡ 68
  pub byte_count : length (write_board (plate_card N mix dry)) ≡ 1270
  pub all_passes : all_pass_lines (plate_nodes mix dry)
      ≡ 210 ∷ 158 ∷ 560 ∷ 410 ∷ 4410 ∷ 334 ∷ 1577 ∷ 4410 ∷ 1323 ∷ 273 ∷ 1539 ∷ 899 ∷ []
  -- they, and wet2's delay, are as long as plate.rs asks in milliseconds
  pub all_passes_asked : map (λ ms. place_of (all_pass_of (of_bits binary32 ms))) milliseconds ≡ all_pass_lines (plate_nodes mix dry)
  pub delay_asked : delay_of (of_bits binary32 0x4248_0000) ≡ Some 2205
  -- mod1 to mod2 and mod2 to mod3
  pub repeats : repeats_after [] plate_wires ≡ wire 11 12 ∷ wire 12 13 ∷ []
  pub list : visiting_list plate_wires ≡ plate_list
  -- aa to ab; not fb2 to wet7, 37 to 9, where a listener would break the loop
  pub late : late_wires (visiting_list plate_wires) plate_wires ≡ wire 14 15 ∷ []
  pub tail : tail_of (parsed_of (plate_card N mix dry)) ≡ endless
  -- so the judge accepts its bytes, and every call goes on with them
  pub obeys : Obeys (plate_card N mix dry)
  pub judged : judge_of (write_board (plate_card N mix dry)) ≡ answer 0 (236392 + 212 * N)

-- what the plate writer leaves, where it accepts: 1,270 bytes that the judge accepts, of the plate with mix and 1 − mix
pub record WrittenPlate (N : ℕ) (mix : Float) (b : List ℕ) : Type 0 where
  pub answered : (write_of N mix b).0 ≡ answer 0 0
  pub bytes : (write_of N mix b).1 ≡ plate_bytes N mix
  pub facts : PlateFacts N (to_bits binary32 mix) (to_bits binary32 (dry_of mix))
  pub accepted : judge_of (write_of N mix b).1 ≡ answer 0 (236392 + 212 * N)
