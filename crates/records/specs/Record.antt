-- The record at an offset (document 01, "Board bytes" and "Answers by number"): a length (2 bytes, the whole record), a kind (2 bytes)
-- and a body. A cut record is refused first (1), then a kind that is unknown or out of order (2), then a wrong length (1).
-- Definitions only.
use Rattle.std.specs.Prelude.{ℕ, ◌+◌, ◌-◌, List, Bool, cond, ◌&&◌, ◌||◌, length, ltb, leb, eqb, Result, Ok, Err}
use Rattle.values.specs.Bytes.{u16_at}
use Rattle.records.specs.declared.reader.Reader.{Reader}
use Rattle.records.specs.declared.record.Found.{Found}
use Rattle.records.specs.declared.record.Found.TheVariants.{Head, Node, Wire, End}
use Rattle.records.specs.declared.record.RecordError.{RecordError}
use Rattle.records.specs.declared.record.RecordError.TheVariants.{Length, Kind}

-- fewer than 4 bytes are left, or fewer than the record's length
abbrev pub cut : List ℕ → ℕ → Bool
cut s at = ltb (length s - at) 4 || ltb (length s - at) (u16_at s at)

-- the head is first and once; after it the kinds never fall. `last` is the kind before, 0 at the start
abbrev pub in_order : ℕ → ℕ → Bool
in_order last k = cond (eqb last 0) (eqb k 1) (leb 2 k && leb last k && leb k 4)

-- a refusal's number: 1 for a record that is cut or of a wrong length, 2 for a kind that is unknown or out of order
abbrev pub number_of : RecordError → ℕ
number_of Length = 1
number_of Kind = 2

-- what was found, with the number of its refusal
abbrev pub numbered : Result Found RecordError → Result Found ℕ
numbered (Ok f) = Ok f
numbered (Err e) = Err (number_of e)

-- f, if the length z is n
abbrev pub sized : ℕ → ℕ → Found → Result Found ℕ
sized z n f = cond (eqb z n) (Ok f) (Err 1)

-- a record of kind k and length z: head 8, node 14, wire 8, end 4
unfoldable pub found_of : ℕ → ℕ → Result Found ℕ
found_of k z =
    cond (eqb k 1) (sized z 8 Head)
    (cond (eqb k 2) (sized z 14 Node)
    (cond (eqb k 3) (sized z 8 Wire)
    (sized z 4 End)))

-- what stands at an offset, after a record of kind `last`, or the number of its refusal
unfoldable pub found_at : List ℕ → ℕ → ℕ → Result Found ℕ
found_at s at last =
    cond (cut s at) (Err 1)
    (cond (in_order last (u16_at s (at + 2))) (found_of (u16_at s (at + 2)) (u16_at s at))
    (Err 2))

-- the length of a record of a kind
abbrev pub record_length : Found → ℕ
record_length Head = 8
record_length Node = 14
record_length Wire = 8
record_length End = 4

-- how far a reader moves: the length of the record found, and 0 where it is refused
abbrev pub length_of : Result Found ℕ → ℕ
length_of (Ok f) = record_length f
length_of (Err n) = 0

-- the reader past the record that it found
abbrev pub passed : Reader → Result Found ℕ → Reader
passed r f = record { bytes = r.bytes; at = r.at + length_of f }
