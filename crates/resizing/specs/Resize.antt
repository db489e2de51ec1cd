-- A board carried to another block size: what is done to its bytes, or why nothing is (docs/SIZES.md). Definitions only; what is promised of it
-- stands in the crate sizes (specs/Settled.antt).
use Rattle.std.specs.Prelude.{ℕ, suc, ◌+◌, ◌-◌, ◌*◌, cond, List, [], ◌∷◌, length, eqb, leb, Result, Ok, Err}
use Rattle.std.proofs.lemmas.List.Edits.{sets}
use Rattle.values.specs.Bytes.{u16_bytes, u32_bytes}
use Rattle.kinds.specs.Kind.{type_of}
use Rattle.kinds.specs.History.{length_of}
use Rattle.kinds.specs.declared.kind.NodeKind.{NodeKind}
use Rattle.reading.specs.Order.{Wire}
use Rattle.boards.specs.Board.{Parsed, Progress, going, refused, whole, lines_of, size_fits}
use Rattle.boards.specs.Judge.{read_board}
use Rattle.graph.specs.Late.{late_wires}
use Rattle.memory.specs.Memory.{kind_at, listed}
use Rattle.records.specs.Answer.{answer}
use Rattle.resizing.specs.declared.resize.NotCarried.{NotCarried}
use Rattle.resizing.specs.declared.resize.NotCarried.TheVariants.{Refused, NoSize, ManyLate, NoDelay, TooShort, TooLong, TooMuch}
use Rattle.resizing.specs.declared.resize.Resized.{Resized}
use Rattle.resizing.specs.declared.resize.Resized.TheVariants.{Same, Size, Line}

-- ---- what is to be done

-- a delay's line; 0 stands for another type
abbrev pub delay_of : NodeKind → ℕ
delay_of k = cond (eqb (type_of k) 7) (length_of k) 0

-- the late wire leads into node k, a delay of n samples, or of 0 where it is none: the line at blocks of M is n + N − M, 1 to 132,300, and
-- all lines together are at most 262,144
abbrev pub line_by : Parsed → ℕ → ℕ → ℕ → Result Resized NotCarried
line_by p M k n =
    cond (eqb n 0) (Err (NoDelay k))
    (cond (leb (n + p.size) M) (Err (TooShort k n))
    (cond (leb (n + p.size) (132300 + M))
    (cond (leb (lines_of p.nodes + p.size) (262144 + M)) (Ok (Line k n (n + p.size - M))) (Err (TooMuch k n)))
    (Err (TooLong k n))))

-- by the late wires
abbrev pub late_by : Parsed → ℕ → List Wire → Result Resized NotCarried
late_by p M [] = Ok Size
late_by p M (w ∷ []) = line_by p M w.target (delay_of (kind_at p w.target))
late_by p M (w ∷ v ∷ ws) = Err (ManyLate (suc (suc (length ws))))

-- a board that is read as p, at blocks of M
unfoldable pub plan_of : Parsed → ℕ → Result Resized NotCarried
plan_of p M = cond (size_fits M) (cond (eqb M p.size) (Ok Same) (late_by p M (late_wires (listed p) p.wires))) (Err NoSize)

abbrev pub plan_by : ℕ → Progress → Result Resized NotCarried
plan_by M (going at last p) = Err (Refused (answer 1 at))
plan_by M (refused n w) = Err (Refused (answer n w))
plan_by M (whole p) = plan_of p M

-- of a board's bytes
unfoldable pub resized_of : List ℕ → ℕ → Result Resized NotCarried
resized_of s M = plan_by M (read_board s)

-- ---- the bytes afterwards: the block size stands at byte 4, in the head, node k's line at byte 14 k + 14, in its record

unfoldable pub bytes_after : List ℕ → ℕ → Result Resized NotCarried → List ℕ
bytes_after s M (Ok Same) = s
bytes_after s M (Ok Size) = sets s 4 (u16_bytes M)
bytes_after s M (Ok (Line k n m)) = sets (sets s 4 (u16_bytes M)) (14 * k + 14) (u32_bytes m)
bytes_after s M (Err r) = s
