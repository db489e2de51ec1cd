-- The plate at two block sizes (document 02, request 12): `plate_carries`, for any two sizes and any finite floats in the four nodes of the
-- mix; `studio_and_stage`, at 128 and 64; `mix_stage`, for a mix. Assumes nothing.
use Prim.Native.Nat.{ℕ, ◌+◌, ◌-◌, ◌*◌, ◌≤◌, ◌<◌}
use mathlib.Core.Path.{◌≡◌, refl, sym, ap, subst, ◌∙◌}
use mathlib.Core.Bool.{true}
use Rattle.std.proofs.Common.{Ok}
use native.Mathlib.Omega.{arith}
use borrow.Author.Tests.{le-leb, lt-leb, ne_eqb}
use lib.Dec.{T, leb}
use lib.ListN.{set}
use lib.Ieee.{Float, binary32, to_bits, fits}
use lib.Ieee.Fits.{sub-fits}
use Rattle.values.specs.Floors.{f1, finite_f}
use Rattle.values.proofs.Patterns.{pattern_lt, pattern_finite}
use Rattle.values.specs.Floats.{finite_bits}
use Rattle.kinds.specs.declared.kind.NodeKind.TheVariants.{Delay}
use Rattle.records.specs.Answer.{answer}
use Rattle.boards.specs.Board.{Parsed, whole, lines_of, memory_length}
use Rattle.boards.specs.Judge.{read_board, answer_by, judge_of}
use Rattle.boards.specs.Obeys.{kind_of, as_read}
use Rattle.records.specs.Write.{write_board}
use Rattle.boards.proofs.Round.{write_read, read_write}
use Rattle.records.proofs.RoundBytes.{board_bytes}
use Rattle.plate_board.specs.Plate.{plate_nodes, plate_wires, plate_card, dry_of}
use Rattle.plate_board.specs.Facts.{PlateFacts}
use Rattle.plate_board.proofs.PlateFacts.{plate_facts}
use Rattle.plate_board.proofs.Dry.{dry_finite}
use Rattle.memory.specs.Memory.{kind_at, kinds}
use Rattle.resizing.specs.declared.resize.Resized.TheVariants.{Line}
use Rattle.resizing.specs.Resize.{plan_of, plan_by, resized_of, bytes_after}
use Rattle.sizes.specs.Settled.{Carried, Settled}
use Rattle.sizes.specs.PlateSizes.{plate_with, PlateCarries, StudioAndStage}
use Rattle.sizes.proofs.Obeying.{board_of, line_read}
use Rattle.sizes.proofs.Settled.{settled}

module _ (N M mix dry : ℕ) where
  abbrev p : Parsed
  p = as_read (plate_card N mix dry)

  -- the line of ab at blocks of M
  abbrev line : ℕ
  line = 2800 + N - M

  ab : kind_at p 15 ≡ Delay 2800
  unfolding plate_nodes kind_of
  ab = refl

  lines : lines_of p.nodes ≡ 58945
  unfolding plate_nodes kind_of
  lines = omega arith

  two_stores : bytes_after (write_board (plate_card N mix dry)) M (Ok (Line 15 2800 line)) ≡ write_board (plate_with M line mix dry)
  unfolding bytes_after write_board plate_nodes plate_wires
  two_stores = refl

  memory_long : memory_length (board_of p M (set (kinds p) 15 (Delay line))) ≡ 4 * (59098 - 2800 + line) + 212 * M
  unfolding plate_nodes kind_of
  memory_long = omega arith

  module _ (mix-fits : mix < 4294967296) (mix-finite : finite_bits mix ≡ true) (dry-fits : dry < 4294967296) (dry_finite : finite_bits dry ≡ true)
      (least : 1 ≤ M) (larger : M < N) (most : N ≤ 128) where
    facts : PlateFacts N mix dry
    facts = plate_facts N mix dry mix-fits mix-finite dry-fits dry_finite (omega arith) most

    reads : read_board (write_board (plate_card N mix dry)) ≡ whole p
    reads = write_read (plate_card N mix dry) facts.obeys

    plan : plan_of p M ≡ Ok (Line 15 2800 line)
    unfolding plan_of
    plan =
        let few : leb (lines_of p.nodes + N) (262144 + M) ≡ true = le-leb (lines_of p.nodes + N) (262144 + M) (omega (arith, lines)) in
        rw (le-leb 1 M least, le-leb M 128 (omega arith), ne_eqb M N (λ e. omega arith), facts.late, ab, lt-leb (2800 + N) M (omega arith), le-leb (2800 + N) (132300 + M) (omega arith), few)

    resized : resized_of (write_board (plate_card N mix dry)) M ≡ Ok (Line 15 2800 line)
    unfolding resized_of
    resized = ap (plan_by M) reads ∙ plan

    reads_after : read_board (write_board (plate_with M line mix dry)) ≡ whole (board_of p M (set (kinds p) 15 (Delay line)))
    unfolding bytes_after
    reads_after =
        ap read_board (sym two_stores)
        ∙ line_read (write_board (plate_card N mix dry)) p (read_write _ (board_bytes (plate_card N mix dry)) p reads) M least (omega arith) 15 2800 line ab
        (omega arith) (omega arith) (omega arith) (omega (arith, lines))

    judged_after : judge_of (write_board (plate_with M line mix dry)) ≡ answer 0 (236392 + 4 * (N - M) + 212 * M)
    unfolding judge_of
    judged_after =
        let long : memory_length (board_of p M (set (kinds p) 15 (Delay line))) ≡ 236392 + 4 * (N - M) + 212 * M = omega (arith, memory_long) in
        ap (answer_by memory_length) reads_after ∙ ap (answer 0) long

    carried : Carried (write_board (plate_card N mix dry)) (write_board (plate_with M line mix dry)) M
    carried =
        subst (λ s. Carried (write_board (plate_card N mix dry)) s M) two_stores
        (subst (Settled (write_board (plate_card N mix dry)) M) resized (settled (write_board (plate_card N mix dry)) (board_bytes (plate_card N mix dry)) M))

    pub plate_carries : PlateCarries N M mix dry
    plate_carries = record { line = resized; bytes = two_stores; judged = facts.judged; judged_after = judged_after; carried = carried }

pub studio_and_stage : (mix dry : ℕ) → mix < 4294967296 → finite_bits mix ≡ true → dry < 4294967296 → finite_bits dry ≡ true → StudioAndStage mix dry
studio_and_stage mix dry mix-fits mix-finite dry-fits dry_finite =
    let plate = plate_carries 128 64 mix dry mix-fits mix-finite dry-fits dry_finite (omega arith) (omega arith) (omega arith) in
    record { line = plate.line; judged = plate.judged; judged_after = plate.judged_after; carried = plate.carried }

-- of a mix: the studio's plate is what the plate writer writes
pub mix_stage : (mix : Float) → T (fits binary32 mix) → finite_f mix ≡ true → StudioAndStage (to_bits binary32 mix) (to_bits binary32 (dry_of mix))
mix_stage mix mix-fits number =
    let dry-fits = sub-fits binary32 f1 mix in
    studio_and_stage (to_bits binary32 mix) (to_bits binary32 (dry_of mix)) (pattern_lt mix mix-fits) (pattern_finite mix mix-fits ∙ number)
    (pattern_lt (dry_of mix) dry-fits) (pattern_finite (dry_of mix) dry-fits ∙ dry_finite mix mix-fits number)
