-- A board carried to another block size and back has the bytes that it had: `returns`. Assumes nothing.
use Prim.Native.Nat.{ℕ}
use mathlib.Core.Path.{◌≡◌, refl, sym, ap, subst, ◌∙◌}
use mathlib.Core.List.{List, []}
use Rattle.std.proofs.Common.{Result, Ok}
use native.Mathlib.Omega.{arith}
use lib.ListN.{set}
use Rattle.values.specs.Words.{Bytes}
use Rattle.kinds.specs.declared.kind.NodeKind.TheVariants.{Delay}
use Rattle.boards.specs.Board.{Parsed, whole}
use Rattle.boards.specs.Judge.{read_board}
use Rattle.boards.proofs.Round.{Accepted, read_write}
use Rattle.memory.specs.Fine.{Fine}
use Rattle.memory.proofs.FineBoard.{fine_board}
use Rattle.resizing.specs.declared.resize.NotCarried.{NotCarried}
use Rattle.resizing.specs.declared.resize.Resized.{Resized}
use Rattle.resizing.specs.declared.resize.Resized.TheVariants.{Same, Size, Line}
use Rattle.memory.specs.Memory.{kinds}
use Rattle.resizing.specs.Resize.{plan_of, plan_by, resized_of, bytes_after}
use Rattle.sizes.specs.Settled.{Returns}
use Rattle.resizing.proofs.Boards.{line_fits, new_kind}
use Rattle.resizing.proofs.Planning.{SizeIn, Corrects, Planned, kept, already, size_stored, line_stored, plan_view, plan_same, plan_late, corrects_plan}
use Rattle.sizes.proofs.Obeying.{board_of, kinds_laid, size_read, size_back, line_back, lines_replaced}
use Rattle.sizes.proofs.Rewritten.{new, new_read}

module _ (s : List ℕ) (bytes : Bytes s) (p : Parsed) (reads : read_board s ≡ whole p) (M : ℕ) where
  abbrev accepted : Accepted s p
  accepted = read_write s bytes p reads

  abbrev fine : Fine p
  fine = fine_board s bytes p reads

  fits : SizeIn p.size
  fits = (fine.least_size, fine.most_size)

  abbrev Back : Result Resized NotCarried → Type 0
  Back r = bytes_after (bytes_after s M r) p.size (resized_of (bytes_after s M r) p.size) ≡ s

  -- of bytes that are read as q, by what is to be done to q
  by_plan : (s' : List ℕ) (q : Parsed) (r : Result Resized NotCarried) → read_board s' ≡ whole q → r ≡ plan_of q p.size → bytes_after s' p.size r ≡ s
      → bytes_after s' p.size (resized_of s' p.size) ≡ s
  unfolding resized_of
  by_plan s' q r e plan back = ap (bytes_after s' p.size) (ap (plan_by p.size) e ∙ sym plan) ∙ back

  unchanged : bytes_after s p.size (resized_of s p.size) ≡ s
  unfolding bytes_after
  unchanged = by_plan s p (Ok Same) reads (plan_same p p.size fits refl) refl

  module _ (k n m : ℕ) (h : Corrects p M k n m) where
    abbrev q : Parsed
    q = new s bytes p reads M k n m h

    -- the line is corrected back
    back : Corrects q p.size k m n
    back =
        let line = line_fits p fine k n h.is_delay in
        let replaced : kinds q ≡ set (kinds p) k (Delay m) = kinds_laid M 0 (set (kinds p) k (Delay m)) in
        record {
          another = record { size_fits_lem = fits; other = λ e. h.another.other (sym e) };
          source = h.source;
          late_is = h.late_is;
          is_delay = new_kind p q k n m h.is_delay replaced;
          some = h.least;
          least = line.0;
          most = line.1;
          few = omega (arith, lines_replaced p q k n m h.is_delay replaced, fine.formed.few_lines);
          as_long = sym h.as_long;
        }

    line_returns : Back (Ok (Line k n m))
    unfolding bytes_after
    line_returns =
        by_plan (bytes_after s M (Ok (Line k n m))) q (Ok (Line k m n)) (new_read s bytes p reads M k n m h) (corrects_plan q p.size k m n back)
        (line_back s p accepted M k n m h.is_delay h.some)

  by_view : {r : Result Resized NotCarried} → Planned p M r → Back r
  unfolding bytes_after
  by_view kept = unchanged
  by_view (already _) = unchanged
  by_view (size_stored h none) =
      let q : Parsed = board_of p M (kinds p) in
      by_plan (bytes_after s M (Ok Size)) q (Ok Size) (size_read s p accepted M h.size_fits_lem.0 h.size_fits_lem.1)
      (plan_late q p.size [] (record { size_fits_lem = fits; other = λ e. h.other (sym e) }) none) (size_back s p accepted M)
  by_view (line_stored k n m h) = line_returns k n m h

pub returns : (s : List ℕ) → Bytes s → (M : ℕ) → Returns s M
unfolding resized_of
returns s bytes M p reads =
    subst (Back s bytes p reads M) (sym (ap (plan_by M) reads)) (by_view s bytes p reads M (plan_view p M))
